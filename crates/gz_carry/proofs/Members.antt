-- The rules of a member: it promises, adopts an image, takes an entry, and follows a head.
use Rattle.std.proofs.Common.{◌≡◌, ℕ, ◌+◌, ◌<◌, ◌≤◌, List, [], ◌∷◌, ◌++◌, length, take, drop, refl, ap, sym, ◌∙◌, arith, subst, inl, inr}
use Rattle.std.specs.Prelude.{min, max, ◌==◌, true, false, if◌then◌else◌, nat_lt}
use Rattle.std.proofs.lemmas.Bool.{cases_Bool, cases_lt, cases_eq, lt-ltb, le-ltb, ltb-false, eqb-true, eqb-false, eq-eqb, ne_eqb, false≢true}
use Rattle.std.proofs.lemmas.List.{length_push}
use Rattle.gz_label.specs.declared.entry.Entry.{Entry}
use Rattle.gz_label.specs.declared.entry.Image.{Image}
use Rattle.gz_spool.specs.Spools.{spool_end, is_image, extended, raised}
use Rattle.gz_replica.specs.Member as full
use Rattle.gz_replica.specs.declared.part.Part.TheVariants as full_part
use Rattle.gz_replica.specs.declared.part.Part as full_parts
use Rattle.gz_replica.specs.Replicating as replicating
use Rattle.gz_lineage.specs.Lists.{Each}
use Rattle.gz_lineage.specs.Prefix.{IsPrefix}
use Rattle.gz_lineage.specs.Marks.{Mark, Added, IsPut, end_of_marks}
use Rattle.gz_lineage.specs.Nodes as reduced
use Rattle.gz_lineage.specs.Rules as rules
use Rattle.gz_lineage.proofs.Prefixes.{pre_len, pre_next}
use Rattle.gz_carry.specs.Seen.{PlaceSeen, Fits, PartSeen, MemberSeen, StepSeen}
use Rattle.gz_carry.specs.Histories.{History, IsCopy, IsEntry, PartOf, NodeOf}
use Rattle.gz_carry.proofs.Ends.{end_more, end_less}
use Rattle.gz_carry.proofs.Fitting.{fits_end, fits_extended, fits_followed}
use Rattle.gz_carry.proofs.Sends.{step_after, step_if}
use Rattle.gz_carry.proofs.Heads.{held_pushed}
use Rattle.gz_carry.proofs.Trimming.{fits_trimmed}

-- a part without a primary on one side is one without on the other
closed_seen : (num : List ℕ → ℕ) (me : List ℕ) (xs : List Mark) (p : full_parts.Part) → PartSeen num me xs p reduced.Closed → p ≡ full_part.Closed
closed_seen num me xs full_part.Closed a = refl
closed_seen num me xs (full_part.Opening r req reports stored) a = absurd a
closed_seen num me xs (full_part.Adopting r reached) a = absurd a
closed_seen num me xs (full_part.Syncing r req) a = absurd a
closed_seen num me xs (full_part.Open r held) a = absurd a

-- a part is seen over a longer spool
part_pushed : (num : List ℕ → ℕ) (me : List ℕ) (xs : List Mark) (x : Mark) (p : full_parts.Part) (q : reduced.Part) → PartSeen num me xs p q → PartSeen num me (xs ++ x ∷ []) p q
part_pushed num me xs x (full_part.Open r held) (reduced.Open s others queue) a = (a.0, held_pushed num xs x held others a.1)
part_pushed num me xs x p q a = a

-- A node that promised an epoch whose image is there, and hasn't adopted it, leads nothing.
leads_nothing : (h : History) (n : reduced.Node) (epoch : ℕ) → h.made epoch ≡ true → n.promised ≡ epoch → (n.adopted ≡ epoch → ⊥) → (q : reduced.Part) → PartOf h n q → q ≡ reduced.Closed
leads_nothing h n epoch made p d reduced.Closed a = refl
leads_nothing h n epoch made p d (reduced.Opening r reports names) a = absurd (false≢true (sym a.unmade ∙ ap h.made (sym a.promised ∙ p) ∙ made))
leads_nothing h n epoch made p d (reduced.Adopting r reached) a = absurd (d (a.chosen.adopted ∙ sym a.chosen.promised ∙ p))
leads_nothing h n epoch made p d (reduced.Syncing r) a = absurd (d (a.adopted ∙ sym a.promised ∙ p))
leads_nothing h n epoch made p d (reduced.Open r held queue) a = absurd (d (a.chosen.adopted ∙ sym a.chosen.promised ∙ p))

module _ (num : List ℕ → ℕ) (j me : List ℕ) (m : full.Member) (n : reduced.Node) (seen : MemberSeen num me m n) where
  -- ---- a promise is asked for

  module _ (lists : ℕ → List Mark) where
    -- a promise tells of the spool
    tell_promise : (from : List ℕ) (epoch : ℕ) (x : full.Member) (y : reduced.Node) → MemberSeen num me x y →
        StepSeen num lists me (replicating.promised_at from j epoch x) (rules.answered (num me) (num from) y (reduced.Promised epoch (record { adopted = y.adopted; image = rules.image_of y })))
    tell_promise from epoch x y s = record { member = s; sends = ((record { adopted = y.adopted; image = rules.image_of y }, inl refl, record { adopted = s.adopted; image = s.spool }), tt) }

    -- it is refused, or given; a greater epoch closes the part
    pub on_promise_seen : (from : List ℕ) (epoch : ℕ) → StepSeen num lists me (replicating.on_promise j m from epoch) (rules.on_promise (num me) n (num from) epoch)
    on_promise_seen from epoch =
        let shut : reduced.Node = record n { promised = epoch; part = reduced.Closed } in
        let tells = λ (y : reduced.Node). rules.answered (num me) (num from) y (reduced.Promised epoch (record { adopted = n.adopted; image = rules.image_of n })) in
        subst (λ p. StepSeen num lists me (replicating.on_promise j m from epoch) (if nat_lt epoch p then rules.answered (num me) (num from) n (reduced.Refuse epoch 1) else (if nat_lt p epoch then rules.after_sends (rules.closing (num me) epoch n.part) (tells shut) else tells n))) (sym seen.promised)
        (step_if num lists me (nat_lt epoch m.promised) _ _ _ _
        (λ _. record { member = seen; sends = (tt, tt) })
        (λ _. step_if num lists me (nat_lt m.promised epoch) _ _ _ _
        (λ _. step_after num lists me [] (rules.closing (num me) epoch n.part) _ _ tt
        (tell_promise from epoch (record m { promised = epoch; part = full_part.Closed }) shut (record { promised = refl; adopted = seen.adopted; spool = seen.spool; part = tt })))
        (λ _. tell_promise from epoch m n seen)))

  -- ---- a head is told

  -- a head of the adopted epoch is followed, and the spool is trimmed
  pub on_head_seen : (h : History) → NodeOf h n → (epoch head begin k : ℕ) → PlaceSeen (h.list epoch) head k → StepSeen num h.list me (replicating.on_head m epoch head begin) (rules.on_head n epoch k)
  on_head_seen h ok epoch head begin k at =
      subst (λ a. StepSeen num h.list me (replicating.on_head m epoch head begin) (if a == epoch then rules.idle (rules.raise n k) else rules.idle n)) (sym seen.adopted)
      (step_if num h.list me (m.adopted == epoch) _ _ _ _
      (λ t. let prefix : IsPrefix n.spool (h.list epoch) = subst (λ d. IsPrefix n.spool (h.list d)) (seen.adopted ∙ eqb-true m.adopted epoch t) ok.spool.within in
      let risen = max n.head (min k (length n.spool)) in
      record {
        member = record {
          promised = seen.promised;
          adopted = seen.adopted;
          spool = fits_trimmed begin (raised head m.spool) n.spool risen (fits_followed m.spool n.spool (h.list epoch) n.head head k seen.spool prefix at);
          part = seen.part;
        };
        sends = tt;
      })
      (λ _. record { member = seen; sends = tt }))

  -- ---- an image is to be adopted

  module _ (lists : ℕ → List Mark) where
    -- that an image was adopted
    tell_adopted : (from : List ℕ) (epoch : ℕ) (x : full.Member) (y : reduced.Node) (k : ℕ) → MemberSeen num me x y → StepSeen num lists me (replicating.adopted_at from j epoch x) (rules.answered (num me) (num from) y (reduced.Adopted epoch k))
    tell_adopted from epoch x y k s = record { member = s; sends = ((k, inl refl), tt) }

    -- one that has the form of one
    adopt_at : (from : List ℕ) (epoch : ℕ) (image : Image) (i : reduced.Image) → Fits image i.entries i.head → is_image image ≡ true → (n.promised ≡ epoch → (n.adopted ≡ epoch → ⊥) → n.part ≡ reduced.Closed) →
        StepSeen num lists me (replicating.on_adopt j m from epoch image) (rules.on_adopt (num me) n (num from) epoch i)
    adopt_at from epoch image i f formed shut =
        let taken : full.Member = record { promised = epoch; adopted = epoch; spool = image; part = full_part.Closed } in
        let node : reduced.Node = record { promised = epoch; adopted = epoch; spool = i.entries; head = i.head; part = reduced.Closed } in
        let kept : full.Member = record m { adopted = epoch; spool = image } in
        let kept_node : reduced.Node = record n { adopted = epoch; spool = i.entries; head = i.head } in
        let says = λ (y : reduced.Node) (k : ℕ). rules.answered (num me) (num from) y (reduced.Adopted epoch k) in
        let adopts = if m.adopted == epoch then replicating.adopted_at from j epoch m else (if nat_lt m.promised epoch then replicating.adopted_at from j epoch taken else replicating.adopted_at from j epoch kept) in
        rw formed (subst (λ p. StepSeen num lists me (if nat_lt epoch m.promised then replicating.refuses from j epoch 1 m.promised m else adopts)
        (if nat_lt epoch p then rules.answered (num me) (num from) n (reduced.Refuse epoch 1) else (if n.adopted == epoch then says n (length n.spool) else (if nat_lt p epoch then rules.after_sends (rules.closing (num me) epoch n.part) (says node (length i.entries)) else says kept_node (length i.entries))))) (sym seen.promised)
        (step_if num lists me (nat_lt epoch m.promised) _ _ _ _
        (λ _. record { member = seen; sends = (tt, tt) })
        (λ t. subst (λ a. StepSeen num lists me adopts
        (if a == epoch then says n (length n.spool) else (if nat_lt m.promised epoch then rules.after_sends (rules.closing (num me) epoch n.part) (says node (length i.entries)) else says kept_node (length i.entries)))) (sym seen.adopted)
        (step_if num lists me (m.adopted == epoch) _ _ _ _
        (λ _. tell_adopted from epoch m n (length n.spool) seen)
        (λ u. step_if num lists me (nat_lt m.promised epoch) _ _ _ _
        (λ _. step_after num lists me [] (rules.closing (num me) epoch n.part) _ _ tt (tell_adopted from epoch taken node (length i.entries) (record { promised = refl; adopted = refl; spool = f; part = tt })))
        (λ v. let now : m.promised ≡ epoch = (let x = ltb-false epoch m.promised t in let y = ltb-false m.promised epoch v in omega arith) in
        let closed : n.part ≡ reduced.Closed = shut (seen.promised ∙ now) (λ z. eqb-false m.adopted epoch u (sym seen.adopted ∙ z)) in
        let none : m.part ≡ full_part.Closed = closed_seen num me n.spool m.part (subst (λ q. PartSeen num me n.spool m.part q) closed seen.part) in
        tell_adopted from epoch kept kept_node (length i.entries) (record {
          promised = seen.promised;
          adopted = refl;
          spool = f;
          part = subst (λ q. PartSeen num me i.entries m.part q) (sym closed) (subst (λ p. PartSeen num me i.entries p reduced.Closed) (sym none) tt);
        })))))))

  -- any: one that has not is passed over
  pub on_adopt_seen : (h : History) → NodeOf h n → (from : List ℕ) (epoch : ℕ) (image : Image) (i : reduced.Image) → Fits image i.entries i.head → h.made epoch ≡ true →
      StepSeen num h.list me (replicating.on_adopt j m from epoch image) (if is_image image then rules.on_adopt (num me) n (num from) epoch i else rules.idle n)
  on_adopt_seen h ok from epoch image i f made = elim (cases_Bool (is_image image)) [
    | inl t ↦ subst (λ b. StepSeen num h.list me (replicating.on_adopt j m from epoch image) (if b then rules.on_adopt (num me) n (num from) epoch i else rules.idle n)) (sym t)
        (adopt_at h.list from epoch image i f t (λ p d. leads_nothing h n epoch made p d n.part ok.part))
    | inr t ↦ rw t (record { member = seen; sends = tt })
  ]

  -- ---- an entry comes

  module _ (h : History) (copy : IsCopy h n.adopted n.spool) where
    -- how much is held, which is a place of the epoch's list
    tell_held : (from : List ℕ) (epoch : ℕ) (x : full.Member) (y : reduced.Node) (k : ℕ) → MemberSeen num me x y → k ≡ length y.spool → IsPrefix y.spool (h.list epoch) →
        StepSeen num h.list me (replicating.held_at from j epoch x) (rules.answered (num me) (num from) y (reduced.Held epoch k))
    tell_held from epoch x y k s e p =
        let at : PlaceSeen (h.list epoch) (spool_end x.spool) (length y.spool) = record { within = pre_len p; ends = fits_end x.spool y.spool y.head s.spool ∙ ap end_of_marks (sym p.prefix) } in
        record { member = s; sends = ((k, inl refl, subst (λ c. PlaceSeen (h.list epoch) (spool_end x.spool) c) (sym e) at), tt) }

    -- the entry stands at that place, in the epoch that the node adopted: behind a gap, at the end, or below it
    entry_at : (from : List ℕ) (epoch offset head k c : ℕ) (entry : Entry) → IsEntry h epoch k (Added entry) → PlaceSeen (h.list epoch) offset k → PlaceSeen (h.list epoch) head c → n.adopted ≡ epoch →
        StepSeen num h.list me
        (if nat_lt (spool_end m.spool) offset then replicating.refuses from j epoch 3 (spool_end m.spool) m
        else (if offset == spool_end m.spool then replicating.held_at from j epoch (replicating.with_spool (raised head (extended entry m.spool)) m)
        else replicating.held_at from j epoch (replicating.with_spool (raised head m.spool) m)))
        (if nat_lt (length n.spool) k then rules.answered (num me) (num from) n (reduced.Refuse epoch 3)
        else (if k == length n.spool then rules.answered (num me) (num from) (rules.raise (record n { spool = n.spool ++ Added entry ∷ [] }) c) (reduced.Held epoch (k + 1))
        else rules.answered (num me) (num from) (rules.raise n c) (reduced.Held epoch (length n.spool))))
    entry_at from epoch offset head k c entry ok at low now =
        let xs = n.spool in
        let x = Added entry in
        let list = h.list epoch in
        let prefix : IsPrefix xs list = subst (λ d. IsPrefix xs (h.list d)) now copy.within in
        let base : h.base epoch ≤ length xs = subst (λ d. h.base d ≤ length xs) now copy.base in
        let plain : Each IsPut (drop (h.base epoch) list) = h.puts epoch ok.made in
        let here : spool_end m.spool ≡ end_of_marks (take (length xs) list) = fits_end m.spool xs n.head seen.spool ∙ ap end_of_marks (sym prefix.prefix) in
        elim (cases_lt (length xs) k) [
          | inl l ↦ (let a : nat_lt (spool_end m.spool) offset ≡ true = lt-ltb (spool_end m.spool) offset (omega (arith, here, at.ends, end_less (h.base epoch) (length xs) k list plain base l at.within)) in
              let b : nat_lt (length xs) k ≡ true = lt-ltb (length xs) k l in
              rw (a, b) (record { member = seen; sends = (tt, tt) }))
          | inr l ↦ (let a : nat_lt (spool_end m.spool) offset ≡ false = le-ltb (spool_end m.spool) offset (omega (arith, here, at.ends, end_more k (length xs) list l)) in
              let b : nat_lt (length xs) k ≡ false = le-ltb (length xs) k l in
              rw (a, b) (elim (cases_eq k (length xs)) [
                | inl z ↦ (let same : offset ≡ spool_end m.spool = at.ends ∙ ap (λ i. end_of_marks (take i list)) z ∙ sym here in
                    let d : (offset == spool_end m.spool) ≡ true = eq-eqb offset (spool_end m.spool) same in
                    let e : (k == length xs) ≡ true = eq-eqb k (length xs) z in
                    let next : IsPrefix (xs ++ x ∷ []) list = pre_next x prefix (omega (arith, ok.within, z)) (rw (← z) ok.here) in
                    let size : length (xs ++ x ∷ []) ≡ length xs + 1 = length_push xs x in
                    rw (d, e) (tell_held from epoch (replicating.with_spool (raised head (extended entry m.spool)) m) (rules.raise (record n { spool = xs ++ x ∷ [] }) c) (k + 1)
                    (record {
                      promised = seen.promised;
                      adopted = seen.adopted;
                      spool = fits_followed (extended entry m.spool) (xs ++ x ∷ []) list n.head head c (fits_extended m.spool xs n.head entry seen.spool) next low;
                      part = part_pushed num me xs x m.part n.part seen.part;
                    }) (omega arith) next))
                | inr z ↦ (let shorter : k < length xs = omega arith in
                    let d : (offset == spool_end m.spool) ≡ false = ne_eqb offset (spool_end m.spool) (λ y. absurd (omega (arith, y, here, at.ends, end_less (h.base epoch) k (length xs) list plain ok.base shorter (pre_len prefix)))) in
                    let e : (k == length xs) ≡ false = ne_eqb k (length xs) z in
                    rw (d, e) (tell_held from epoch (replicating.with_spool (raised head m.spool) m) (rules.raise n c) (length xs)
                    (record {
                      promised = seen.promised;
                      adopted = seen.adopted;
                      spool = fits_followed m.spool xs list n.head head c seen.spool prefix low;
                      part = seen.part;
                    }) refl prefix))
              ]))
        ]

    -- one that a primary may put
    replicate_at : (from : List ℕ) (epoch offset head k c : ℕ) (entry : Entry) → replicating.is_no_entry offset entry ≡ false → IsEntry h epoch k (Added entry) → PlaceSeen (h.list epoch) offset k → PlaceSeen (h.list epoch) head c →
        StepSeen num h.list me (replicating.on_replicate j m from epoch offset entry head) (rules.on_replicate (num me) n (num from) epoch k (Added entry) c)
    replicate_at from epoch offset head k c entry real ok at low =
        let xs = n.spool in
        let x = Added entry in
        let held = λ (y : reduced.Node) (c : ℕ). rules.answered (num me) (num from) y (reduced.Held epoch c) in
        let takes = if nat_lt (spool_end m.spool) offset then replicating.refuses from j epoch 3 (spool_end m.spool) m
        else (if offset == spool_end m.spool then replicating.held_at from j epoch (replicating.with_spool (raised head (extended entry m.spool)) m)
        else replicating.held_at from j epoch (replicating.with_spool (raised head m.spool) m)) in
        let node_takes = if nat_lt (length xs) k then rules.answered (num me) (num from) n (reduced.Refuse epoch 3)
        else (if k == length xs then held (rules.raise (record n { spool = xs ++ x ∷ [] }) c) (k + 1) else held (rules.raise n c) (length xs)) in
        rw real (subst (λ p. StepSeen num h.list me (if nat_lt epoch m.promised then replicating.refuses from j epoch 1 m.promised m else (if m.adopted == epoch then takes else replicating.refuses from j epoch 2 m.adopted m))
        (if nat_lt epoch p then rules.answered (num me) (num from) n (reduced.Refuse epoch 1) else (if n.adopted == epoch then node_takes else rules.answered (num me) (num from) n (reduced.Refuse epoch 2)))) (sym seen.promised)
        (step_if num h.list me (nat_lt epoch m.promised) _ _ _ _
        (λ _. record { member = seen; sends = (tt, tt) })
        (λ t. subst (λ a. StepSeen num h.list me (if m.adopted == epoch then takes else replicating.refuses from j epoch 2 m.adopted m)
        (if a == epoch then node_takes else rules.answered (num me) (num from) n (reduced.Refuse epoch 2))) (sym seen.adopted)
        (step_if num h.list me (m.adopted == epoch) _ _ _ _
        (λ u. entry_at from epoch offset head k c entry ok at low (seen.adopted ∙ eqb-true m.adopted epoch u))
        (λ _. record { member = seen; sends = (tt, tt) })))))

    -- any: one that is empty, or too far on, is passed over
    pub on_replicate_seen : (from : List ℕ) (epoch offset head k c : ℕ) (entry : Entry) → IsEntry h epoch k (Added entry) → PlaceSeen (h.list epoch) offset k → PlaceSeen (h.list epoch) head c →
        StepSeen num h.list me (replicating.on_replicate j m from epoch offset entry head) (if replicating.is_no_entry offset entry then rules.idle n else rules.on_replicate (num me) n (num from) epoch k (Added entry) c)
    on_replicate_seen from epoch offset head k c entry ok at low = elim (cases_Bool (replicating.is_no_entry offset entry)) [
      | inl t ↦ rw t (record { member = seen; sends = tt })
      | inr t ↦ subst (λ b. StepSeen num h.list me (replicating.on_replicate j m from epoch offset entry head) (if b then rules.idle n else rules.on_replicate (num me) n (num from) epoch k (Added entry) c)) (sym t)
          (replicate_at from epoch offset head k c entry t ok at low)
    ]
