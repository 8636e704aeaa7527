-- The rules of an open primary: what a member holds, an append that lands, and what the store has got.
use Rattle.std.proofs.Common.{◌≡◌, ℕ, ◌+◌, ◌≤◌, List, [], ◌∷◌, ◌++◌, length, take, drop, refl, ap, sym, ◌∙◌, arith, subst, inl, Some}
use Rattle.std.specs.Prelude.{◌==◌, if◌then◌else◌}
use Rattle.std.proofs.lemmas.Bool.{eqb-true}
use Rattle.std.proofs.lemmas.List.{length_push, drop-append-le}
use Rattle.gz_label.specs.declared.entry.Entry.{Entry}
use Rattle.gz_journal.specs.declared.request.Request.{Request}
use Rattle.gz_journal.specs.declared.judgement.Judged.{Judged}
use Rattle.gz_journal.specs.JournalList.{judgement, new_end_of, entry_of}
use Rattle.gz_wire.specs.declared.msg.Msg.TheVariants as wire
use Rattle.gz_spool.specs.Spools.{spool_end, spool_registers, extended, trimmed}
use Rattle.gz_replica.specs.Member as full
use Rattle.gz_replica.specs.declared.part.Part.TheVariants as full_part
use Rattle.gz_replica.specs.declared.part.Part as full_parts
use Rattle.gz_replica.specs.declared.part.Route as full_routes
use Rattle.gz_replica.specs.Slots as full_slots
use Rattle.gz_replica.specs.Primary as primary
use Rattle.gz_lineage.specs.Lists.{In, Each}
use Rattle.gz_lineage.specs.Marks.{Mark, Added, IsPut, end_of_marks, judged_at, end_behind}
use Rattle.gz_lineage.specs.Nodes as reduced
use Rattle.gz_lineage.specs.Rules as rules
use Rattle.gz_lineage.proofs.Listed.{each_append}
use Rattle.gz_lineage.proofs.Landing.{lands_full}
use Rattle.gz_carry.specs.Seen.{IsNumbering, PlaceSeen, Fits, RouteSeen, HeldSeen, PartSeen, MemberSeen, SendsSeen, StepSeen}
use Rattle.gz_carry.specs.Histories.{History, IsOpen, PartOf, NodeOf}
use Rattle.gz_carry.proofs.Ends.{end_whole}
use Rattle.gz_carry.proofs.Fitting.{fits_end, fits_extended, judged_alike, place_pushed}
use Rattle.gz_carry.proofs.Sends.{each_seen, step_after, step_if}
use Rattle.gz_carry.proofs.Heads.{least_low, least_seen, held_pushed, held_raised_seen, with_head_seen}
use Rattle.gz_carry.proofs.Trimming.{fits_trimmed}

module _ (num : List ℕ → ℕ) (j me : List ℕ) (m : full.Member) (n : reduced.Node) (seen : MemberSeen num me m n) where
  -- ---- a member holds so much

  -- of the part's epoch it counts, and the head is the least of all; of another epoch it is passed over
  held_at : IsNumbering num → (h : History) (from : List ℕ) (epoch end k : ℕ) → PlaceSeen (h.list epoch) end k → (p : full_parts.Part) (q : reduced.Part) → PartSeen num me n.spool p q → PartOf h n q →
      StepSeen num h.list me (primary.on_held j m from epoch end p) (rules.on_held (num me) n (num from) epoch k q)
  held_at same h from epoch end k at (full_part.Open r held) (reduced.Open s others queue) a ok =
      let more = full_slots.held_raised from end held in
      let more_node = rules.raised (num from) k others in
      let c = rules.least (length n.spool) more_node in
      let rules_on = rules.with_head (num me) n s more_node queue c in
      let goes_on = primary.with_head j m r more (full_slots.least (spool_end m.spool) more) in
      subst (λ d. StepSeen num h.list me (if epoch == r.epoch then goes_on else full.idle m) (if epoch == d then rules_on else rules.idle n)) (sym a.0.epoch)
      (step_if num h.list me (epoch == r.epoch) goes_on (full.idle m) rules_on (rules.idle n)
      (λ t. let whole : h.list r.epoch ≡ n.spool = sym (ok.chosen.whole ∙ ap h.list a.0.epoch) in
      let list : h.list epoch ≡ n.spool = ap h.list (eqb-true epoch r.epoch t) ∙ whole in
      let here : PlaceSeen n.spool end k = subst (λ xs. PlaceSeen xs end k) list at in
      let told = held_raised_seen num same n.spool from end k here held others a.1 in
      let least : full_slots.least (spool_end m.spool) more ≡ end_of_marks (take c n.spool) = ap (λ e. full_slots.least e more) (fits_end m.spool n.spool n.head seen.spool) ∙ least_seen num n.spool more more_node told in
      let plain : Each IsPut (drop (h.base s.epoch) n.spool) = subst (λ xs. Each IsPut (drop (h.base s.epoch) xs)) (sym ok.chosen.whole) (h.puts s.epoch ok.made) in
      with_head_seen num j me h.list m n r s more more_node queue (h.base s.epoch) (full_slots.least (spool_end m.spool) more) c seen.promised seen.adopted seen.spool a.0 told plain ok.base
      (record { within = least_low (length n.spool) more_node; ends = least }) whole)
      (λ t. record { member = seen; sends = tt }))
  held_at same h from epoch end k at (full_part.Open r held) reduced.Closed a ok = absurd a
  held_at same h from epoch end k at (full_part.Open r held) (reduced.Opening s reports names) a ok = absurd a
  held_at same h from epoch end k at (full_part.Open r held) (reduced.Adopting s reached) a ok = absurd a
  held_at same h from epoch end k at (full_part.Open r held) (reduced.Syncing s) a ok = absurd a
  held_at same h from epoch end k at full_part.Closed (reduced.Open s others queue) a ok = absurd a
  held_at same h from epoch end k at (full_part.Opening r req reports stored) (reduced.Open s others queue) a ok = absurd a
  held_at same h from epoch end k at (full_part.Adopting r reached) (reduced.Open s others queue) a ok = absurd a
  held_at same h from epoch end k at (full_part.Syncing r req) (reduced.Open s others queue) a ok = absurd a
  held_at same h from epoch end k at p q a ok = record { member = seen; sends = tt }

  -- whatever the part is
  pub on_held_seen : IsNumbering num → (h : History) → NodeOf h n → (from : List ℕ) (epoch end k : ℕ) → PlaceSeen (h.list epoch) end k →
      StepSeen num h.list me (primary.on_held j m from epoch end m.part) (rules.on_held (num me) n (num from) epoch k n.part)
  on_held_seen same h ok from epoch end k at = held_at same h from epoch end k at m.part n.part seen.part ok.part

  -- ---- an append

  -- An entry is put behind the spool. `lists` are those of the epochs with it.
  put_entry_seen : (h : History) (lists : ℕ → List Mark) (entry : Entry) → IsPut (Added entry) → (r : full_routes.Route) (s : reduced.Route) (held : List (List ℕ × ℕ)) (others : List (ℕ × ℕ)) (queue : List ℕ) →
      RouteSeen num me r s → HeldSeen num n.spool held others → IsOpen h n s others → lists r.epoch ≡ n.spool ++ Added entry ∷ [] →
      StepSeen num lists me (primary.put_entry j m entry (full_part.Open r held)) (rules.puts (num me) n (Added entry) (reduced.Open s others queue))
  put_entry_seen h lists entry some r s held others queue route holds ok whole =
      let x = Added entry in
      let spool = n.spool ++ x ∷ [] in
      let size : length spool ≡ length n.spool + 1 = length_push n.spool x in
      let fits = fits_extended m.spool n.spool n.head entry seen.spool in
      let told = held_pushed num n.spool x held others holds in
      let c = rules.least (length spool) others in
      let end = full_slots.least (spool_end (extended entry m.spool)) held in
      let least : end ≡ end_of_marks (take c spool) = ap (λ e. full_slots.least e held) (fits_end (extended entry m.spool) spool n.head fits) ∙ least_seen num spool held others told in
      let short : h.base s.epoch ≤ length n.spool = omega (arith, ok.base, seen.spool.heads.within) in
      let plain : Each IsPut (drop (h.base s.epoch) spool) = rw (drop-append-le (h.base s.epoch) n.spool (x ∷ []) short)
      (each_append IsPut (drop (h.base s.epoch) n.spool) (x ∷ []) (subst (λ xs. Each IsPut (drop (h.base s.epoch) xs)) (sym ok.chosen.whole) (h.puts s.epoch ok.made)) (some, tt)) in
      let body = reduced.Replicate s.epoch (length n.spool) x n.head in
      let said = rules.to_each (num me) body s.others in
      let at_end : PlaceSeen n.spool (spool_end m.spool) (length n.spool) = record { within = omega arith; ends = fits_end m.spool n.spool n.head seen.spool ∙ sym (end_whole n.spool) } in
      let place : PlaceSeen (lists r.epoch) (spool_end m.spool) (length n.spool) = subst (λ xs. PlaceSeen xs (spool_end m.spool) (length n.spool)) (sym whole) (place_pushed n.spool x (spool_end m.spool) (length n.spool) at_end) in
      let head : PlaceSeen (lists r.epoch) m.spool.head n.head = subst (λ xs. PlaceSeen xs m.spool.head n.head) (sym whole) (place_pushed n.spool x m.spool.head n.head seen.spool.heads) in
      let sends : SendsSeen num lists said me (full.to_each (wire.Replicate j r.epoch (spool_end m.spool) entry m.spool.head) r.others) =
      each_seen num lists me (wire.Replicate j r.epoch (spool_end m.spool) entry m.spool.head) body said
      (λ to i. (length n.spool, n.head, n.head, subst (λ e. In (rules.letter (num me) (num to) (reduced.Replicate e (length n.spool) x n.head)) said) route.epoch i, place, head, omega arith, inl refl))
      r.others (λ l i. subst (λ ms. In l (rules.to_each (num me) body ms)) (sym route.others) i) in
      step_after num lists me _ said _ _ sends
      (with_head_seen num j me lists (record m { spool = extended entry m.spool }) (record n { spool = spool }) r s held others (queue ++ (length n.spool + 1) ∷ []) (h.base s.epoch) end c
      seen.promised seen.adopted fits route told plain ok.base (record { within = least_low (length spool) others; ends = least }) whole)

  -- whatever the node's part is
  put_at : (h : History) (lists : ℕ → List Mark) (entry : Entry) → IsPut (Added entry) → (r : full_routes.Route) (held : List (List ℕ × ℕ)) → lists r.epoch ≡ n.spool ++ Added entry ∷ [] →
      (q : reduced.Part) → PartSeen num me n.spool (full_part.Open r held) q → PartOf h n q →
      StepSeen num lists me (primary.put_entry j m entry (full_part.Open r held)) (rules.puts (num me) n (Added entry) q)
  put_at h lists entry some r held whole (reduced.Open s others queue) a ok = put_entry_seen h lists entry some r s held others queue a.0 a.1 ok whole
  put_at h lists entry some r held whole reduced.Closed a ok = absurd a
  put_at h lists entry some r held whole (reduced.Opening s reports names) a ok = absurd a
  put_at h lists entry some r held whole (reduced.Adopting s reached) a ok = absurd a
  put_at h lists entry some r held whole (reduced.Syncing s) a ok = absurd a

  -- A request that lands is put on both sides, as the same entry.
  pub append_seen : (h : History) → NodeOf h n → (lists : ℕ → List Mark) (request : Request) (end : ℕ) (r : full_routes.Route) (held : List (List ℕ × ℕ)) → m.part ≡ full_part.Open r held →
      let judged = judgement (spool_end m.spool) (spool_registers m.spool) request in
      new_end_of judged.landed request ≡ Some end → lists r.epoch ≡ n.spool ++ Added (entry_of request judged.after) ∷ [] →
      StepSeen num lists me (primary.put_entry j m (entry_of request judged.after) m.part) (rules.on_append (num me) n request n.part)
  append_seen h ok lists request end r held leads lands whole =
      let judged = judgement (spool_end m.spool) (spool_registers m.spool) request in
      let entry = entry_of request judged.after in
      let alike : judged ≡ judged_at n.spool request = judged_alike m.spool n.spool n.head request seen.spool in
      let lands_too : end_behind n.spool request ≡ Some end = ap (λ (x : Judged). new_end_of x.landed request) (sym alike) ∙ lands in
      let is : rules.on_append (num me) n request n.part ≡ rules.puts (num me) n (Added entry) n.part =
      ap (λ o. rules.puts_if (num me) n request n.part o) lands_too ∙ ap (λ (x : Judged). rules.puts (num me) n (Added (entry_of request x.after)) n.part) (sym alike) in
      subst (λ x. StepSeen num lists me (primary.put_entry j m entry m.part) x) (sym is)
      (subst (λ p. StepSeen num lists me (primary.put_entry j m entry p) (rules.puts (num me) n (Added entry) n.part)) (sym leads)
      (put_at h lists entry (lands_full request judged.landed end lands) r held whole n.part (subst (λ p. PartSeen num me n.spool p n.part) leads seen.part) ok.part))

  -- ---- what the store has got

  -- The spool is trimmed, and the others are told: the node tells its head again.
  stored_at : (h : History) (end : ℕ) (p : full_parts.Part) (q : reduced.Part) → m.part ≡ p → n.part ≡ q → PartSeen num me n.spool p q → PartOf h n q →
      StepSeen num h.list me (primary.on_stored j m end p) (record { node = n; sends = rules.resent (num me) n q })
  stored_at h end (full_part.Open r held) (reduced.Open s others queue) e f a ok =
      let whole : h.list r.epoch ≡ n.spool = sym (ok.chosen.whole ∙ ap h.list a.0.epoch) in
      let fits : Fits (trimmed end m.spool) n.spool n.head = fits_trimmed end m.spool n.spool n.head seen.spool in
      let said = rules.to_each (num me) (reduced.Head s.epoch n.head) s.others in
      record {
        member = record { promised = seen.promised; adopted = seen.adopted; spool = fits; part = seen.part };
        sends = each_seen num h.list me (wire.Head j r.epoch (trimmed end m.spool).head (trimmed end m.spool).begin) (reduced.Head s.epoch n.head) said
            (λ to i. (n.head, subst (λ d. In (rules.letter (num me) (num to) (reduced.Head d n.head)) said) a.0.epoch i, subst (λ xs. PlaceSeen xs (trimmed end m.spool).head n.head) (sym whole) fits.heads))
            r.others (λ l i. subst (λ ms. In l (rules.to_each (num me) (reduced.Head s.epoch n.head) ms)) (sym a.0.others) i);
      }
  stored_at h end (full_part.Open r held) reduced.Closed e f a ok = absurd a
  stored_at h end (full_part.Open r held) (reduced.Opening s reports names) e f a ok = absurd a
  stored_at h end (full_part.Open r held) (reduced.Adopting s reached) e f a ok = absurd a
  stored_at h end (full_part.Open r held) (reduced.Syncing s) e f a ok = absurd a
  stored_at h end full_part.Closed q e f a ok = record { member = seen; sends = tt }
  stored_at h end (full_part.Opening r req reports stored) q e f a ok = record { member = seen; sends = tt }
  stored_at h end (full_part.Adopting r reached) q e f a ok = record { member = seen; sends = tt }
  stored_at h end (full_part.Syncing r req) q e f a ok = record { member = seen; sends = tt }

  -- whatever the part is
  pub on_stored_seen : (h : History) → NodeOf h n → (end : ℕ) → StepSeen num h.list me (primary.on_stored j m end m.part) (record { node = n; sends = rules.resent (num me) n n.part })
  on_stored_seen h ok end = stored_at h end m.part n.part refl refl seen.part ok.part
