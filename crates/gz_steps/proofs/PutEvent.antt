-- An append lands: its entry is put by the open primary. In the reduced world a client's request is written and taken at
-- once, and judged the same, since a spool has the end and the registers of its list. So an append in flight is nothing there.
use Rattle.std.proofs.Common.{◌≡◌, ℕ, ◌+◌, List, [], ◌∷◌, ◌++◌, length, refl, ap, sym, ◌∙◌, arith, subst, inl, inr, Some}
use Rattle.std.specs.Prelude.{nat_lt}
use Rattle.std.proofs.lemmas.Bool.{cond_both}
use Rattle.gz_label.specs.declared.entry.Entry.{Entry}
use Rattle.gz_journal.specs.declared.request.Request.{Request}
use Rattle.gz_journal.specs.declared.judgement.Judged.{Judged}
use Rattle.gz_journal.specs.JournalList.{judgement, new_end_of, entry_of}
use Rattle.gz_spool.specs.Spools.{spool_end, spool_registers, extended}
use Rattle.gz_replica.specs.Member as full
use Rattle.gz_replica.specs.Primary as primary
use Rattle.gz_replica.specs.Slots as full_slots
use Rattle.gz_replica.specs.declared.part.Part as full_parts
use Rattle.gz_replica.specs.declared.part.Part.TheVariants as full_part
use Rattle.gz_replica.specs.declared.part.Route as full_routes
use Rattle.gz_broker.specs.Brokers.{Broker, Row, row_of}
use Rattle.gz_broker.specs.Closing.{by_rule}
use Rattle.gz_lineage.specs.Marks.{Added, judged_at, end_behind}
use Rattle.gz_lineage.specs.Nodes as reduced
use Rattle.gz_lineage.specs.Rules as rules
use Rattle.gz_lineage.specs.World as world
use Rattle.gz_lineage.specs.World.{World, node_at}
use Rattle.gz_lineage.proofs.History.{Keys, Ghost}
use Rattle.gz_lineage.proofs.Facts.{PartOk, NodeOk}
use Rattle.gz_lineage.proofs.Invariant.{Inv, lows}
use Rattle.gz_carry.specs.Seen.{IsNumbering, PartSeen, StepSeen}
use Rattle.gz_carry.proofs.Fitting.{judged_alike}
use Rattle.gz_carry.proofs.Primary.{append_seen}
use Rattle.gz_steps.proofs.Calm.{GoesOn, low_part, puts_goes}
use Rattle.gz_steps.proofs.Reaching.{history, node_now}
use Rattle.gz_steps.proofs.Rules.{by_rule_is}
use Rattle.gz_steps.specs.Steps.{Ready}
use Rattle.gz_steps.proofs.Stepping.{Stepped}
use Rattle.gz_steps.proofs.Delivery.{letter_stepped}
use Rattle.gz_steps.proofs.Events.{begin_now}

-- an open primary's spool is the list of its epoch, also behind a put
open_whole : (K : Keys) (g : Ghost) (me k : ℕ) (n : reduced.Node) (s : reduced.Route) (others : List (ℕ × ℕ)) (queue : List ℕ) →
    PartOk K g me (rules.with_head me n s others queue k).node (rules.with_head me n s others queue k).node.part → g.text s.epoch ≡ n.spool
open_whole K g me k n s others queue =
    cond_both (nat_lt n.head k) (record { node = record n { head = k; part = reduced.Open s others (rules.waiting k queue) }; sends = rules.answers me s.epoch k queue ++ rules.to_each me (reduced.Head s.epoch k) s.others })
    (rules.idle (record n { part = reduced.Open s others queue })) (λ (o : reduced.Outcome). PartOk K g me o.node o.node.part → g.text s.epoch ≡ n.spool) (λ _ ok. sym ok.whole) (λ _ ok. sym ok.whole)

-- a put leaves the spool's begin
put_begin : (j : List ℕ) (m : full.Member) (entry : Entry) (p : full_parts.Part) → (primary.put_entry j m entry p).member.spool.begin ≡ m.spool.begin
put_begin j m entry (full_part.Open r held) = cond_both (nat_lt m.spool.head (full_slots.least (spool_end (extended entry m.spool)) held)) _ _ (λ (o : full.Outcome). o.member.spool.begin ≡ m.spool.begin) (λ _. refl) (λ _. refl)
put_begin j m entry p = refl

module _ (num : List ℕ → ℕ) (same : IsNumbering num) (no_keys : (a : List ℕ) → num a ≡ rules.keys → ⊥) (j : List ℕ)
    (w : World) (i : Inv w) (b : Broker) (ready : Ready num j w b) (r : full_routes.Route) (held : List (List ℕ × ℕ)) (row : Row) where
  abbrev own : full.Member
  own = (row_of j b.rows).member

  abbrev mine : reduced.Node
  mine = node_at w.state.nodes (num b.name)

  -- the list of the epoch has the entry behind the spool
  whole_by : (entry : Entry) (q : reduced.Part) → PartSeen num b.name mine.spool (full_part.Open r held) q → (K : Keys) (g : Ghost) → NodeOk K g (num b.name) (rules.puts (num b.name) mine (Added entry) q).node →
      g.text r.epoch ≡ mine.spool ++ Added entry ∷ []
  whole_by entry (reduced.Open s others queue) p K g ok =
      let spool = mine.spool ++ Added entry ∷ [] in
      ap g.text (sym p.0.epoch) ∙ open_whole K g (num b.name) (rules.least (length spool) others) (record mine { spool = spool }) s others (queue ++ (length mine.spool + 1) ∷ []) ok.part
  whole_by entry reduced.Closed p K g ok = absurd p
  whole_by entry (reduced.Opening s reports names) p K g ok = absurd p
  whole_by entry (reduced.Adopting s reached) p K g ok = absurd p
  whole_by entry (reduced.Syncing s) p K g ok = absurd p

  -- The request lands at the spool's end. The row has its answer queued already.
  pub put_stepped : (request : Request) (end : ℕ) → let judged = judgement (spool_end own.spool) (spool_registers own.spool) request in
      new_end_of judged.landed request ≡ Some end → own.part ≡ full_part.Open r held →
      Stepped num j w i b (by_rule b j row (primary.put_entry j own (entry_of request judged.after) own.part))
  put_stepped request end lands leads =
      let judged = judgement (spool_end own.spool) (spool_registers own.spool) request in
      let entry = entry_of request judged.after in
      let put = primary.put_entry j own entry own.part in
      let alike : judged ≡ judged_at mine.spool request = judged_alike own.spool mine.spool mine.head request ready.member.spool in
      let lands_too : end_behind mine.spool request ≡ Some end = ap (λ (x : Judged). new_end_of x.landed request) (sym alike) ∙ lands in
      let red = rules.on_append (num b.name) mine request mine.part in
      let red_is : red ≡ rules.puts (num b.name) mine (Added entry) mine.part =
      ap (λ o. rules.puts_if (num b.name) mine request mine.part o) lands_too ∙ ap (λ (x : Judged). rules.puts (num b.name) mine (Added (entry_of request x.after)) mine.part) (sym alike) in
      let low = low_part w.top mine.part (lows w i (num b.name)) in
      let goes : GoesOn w.top red.node.part = subst (λ (x : reduced.Outcome). GoesOn w.top x.node.part) (sym red_is) (puts_goes w.top (num b.name) mine (Added entry) mine.part low low) in
      letter_stepped num same no_keys j w i b ready rules.keys (reduced.Append request) (world.Write (num b.name) request) tt refl (by_rule b j row put)
      (λ K g more gl ok.
      let whole = whole_by entry mine.part (subst (λ p. PartSeen num b.name mine.spool p mine.part) leads ready.member.part) K g (subst (λ (x : reduced.Outcome). NodeOk K g (num b.name) x.node) red_is ok) in
      let step : StepSeen num g.text b.name put red = append_seen num j b.name own mine ready.member (history w i) (node_now w i (num b.name)) g.text request end r held leads lands whole in
      record {
        after = put.member;
        member = step.member;
        growth = inr (inl (goes, omega (arith, put_begin j own entry own.part, begin_now num same no_keys j w i b ready b.name)));
        ruled = by_rule_is num j g.text red.sends b.name b row put step.sends;
      })
