-- A broker takes an append, of this journal or of another. Of this one it is refused, judged and not put, or put
-- (`PutEvent`); of another one it leaves this journal's row as it is, and says nothing of it.
use Rattle.gz_label.specs.declared.entry.Entry.{Entry}
use Rattle.gz_journal.specs.declared.judgement.Judged.{Judged}
use Rattle.std.proofs.Common.{◌≡◌, ℕ, List, refl, ap, sym, ◌∙◌, subst, inl, inr, Option, Some, None, false}
use Rattle.std.specs.Prelude.{Result, Ok, Err}
use Rattle.std.specs.Str.{bytes_eq}
use Rattle.std.proofs.lemmas.Bool.{cases_Bool}
use Rattle.std.specs.Cmp.Lexicographic.{same_text}
use Rattle.gz_label.specs.declared.name.LabelError.{LabelError}
use Rattle.gz_label.specs.declared.selector.Term.{Term}
use Rattle.gz_label.specs.Selectors.{selector_of}
use Rattle.gz_journal.specs.declared.request.Request.{Request}
use Rattle.gz_journal.specs.JournalList.{judgement, new_end_of, entry_of}
use Rattle.gz_spool.specs.Spools.{spool_end, spool_registers}
use Rattle.gz_broker.specs.Brokers.{Answer, Broker, Row, row_of, append_done, answers_with}
use Rattle.gz_broker.specs.Closing.{by_rule}
use Rattle.gz_broker.specs.Appending.{Asked, answer_of, appends_if, judges_by, judged_with, on_append, queued, request_of, refusal_of}
use Rattle.gz_lineage.specs.World.{World}
use Rattle.gz_lineage.proofs.Invariant.{Inv}
use Rattle.gz_steps.proofs.Rules.{by_rule_is}
use Rattle.gz_steps.specs.Steps.{Ready}
use Rattle.gz_steps.proofs.Stepping.{Stepped, quietly}
use Rattle.gz_steps.proofs.PutEvent.{put_stepped}
use Rattle.gz_steps.proofs.Others.{AreOf, by_rule_left}
use Rattle.gz_steps.proofs.Sending.{put_of}
use Rattle.gz_replica.specs.Member as full
use Rattle.gz_replica.specs.Primary as primary
use Rattle.gz_broker.specs.Brokers as brokers
use Rattle.gz_lineage.specs.Rules as rules
use Rattle.gz_replica.specs.declared.part.Part.TheVariants as full_part
use Rattle.gz_replica.specs.declared.part.Part as full_parts
use Rattle.gz_carry.specs.Seen.{IsNumbering}

module _ (num : List ℕ → ℕ) (same : IsNumbering num) (no_keys : (a : List ℕ) → num a ≡ rules.keys → ⊥) (j : List ℕ)
    (w : World) (i : Inv w) (b : Broker) (ready : Ready num j w b) where
  -- an answer at once
  answered : (to : List ℕ) (k : List ℕ) (answer : Answer) → Stepped num j w i b (answers_with to (append_done k answer) b)
  answered to k answer = quietly num j w i b ready (answers_with to (append_done k answer) b) refl refl tt ((λ e. cc), tt)

  -- ---- of this journal

  -- nothing is put
  idles : (row : Row) → Stepped num j w i b (by_rule b j row (full.idle (row_of j b.rows).member))
  idles row =
      let r = by_rule_is num j i.g.text w.said b.name b row (full.idle (row_of j b.rows).member) tt in
      quietly num j w i b ready (by_rule b j row (full.idle (row_of j b.rows).member)) r.name r.member r.closings r.sends

  -- what lands is put, if the part is open
  put_by : (a : Asked) (request : Request) (end : ℕ) → let m = (row_of j b.rows).member in let judged = judgement (spool_end m.spool) (spool_registers m.spool) request in new_end_of judged.landed request ≡ Some end →
      (p : full_parts.Part) → m.part ≡ p → Stepped num j w i b (by_rule b j (queued end (answer_of a.req judged.landed) a (row_of j b.rows)) (primary.put_entry j m (entry_of request judged.after) m.part))
  put_by a request end e p f = by p f
    where
      m : full.Member
      m = (row_of j b.rows).member

      judged : Judged
      judged = judgement (spool_end m.spool) (spool_registers m.spool) request

      row : Row
      row = queued end (answer_of a.req judged.landed) a (row_of j b.rows)

      entry : Entry
      entry = entry_of request judged.after

      nothing : (p : full_parts.Part) → m.part ≡ p → primary.put_entry j m entry p ≡ full.idle m → Stepped num j w i b (by_rule b j row (primary.put_entry j m entry m.part))
      nothing p f is = subst (λ o. Stepped num j w i b (by_rule b j row o)) (sym (ap (primary.put_entry j m entry) f ∙ is)) (idles row)

      by : (p : full_parts.Part) → m.part ≡ p → Stepped num j w i b (by_rule b j row (primary.put_entry j m entry m.part))
      by (full_part.Open r held) f = put_stepped num same no_keys j w i b ready r held row request end e f
      by full_part.Closed f = nothing full_part.Closed f refl
      by (full_part.Opening r req reports stored) f = nothing (full_part.Opening r req reports stored) f refl
      by (full_part.Adopting r reached) f = nothing (full_part.Adopting r reached) f refl
      by (full_part.Syncing r req) f = nothing (full_part.Syncing r req) f refl

  judged_by : (a : Asked) (request : Request) → let m = (row_of j b.rows).member in let judged = judgement (spool_end m.spool) (spool_registers m.spool) request in
      (o : Option ℕ) → new_end_of judged.landed request ≡ o → Stepped num j w i b (judged_with b j (row_of j b.rows) a request judged o)
  judged_by a request None e =
      let m = (row_of j b.rows).member in
      let judged = judgement (spool_end m.spool) (spool_registers m.spool) request in
      idles (queued (spool_end m.spool) (answer_of a.req judged.landed) a (row_of j b.rows))
  judged_by a request (Some end) e = put_by a request end e (row_of j b.rows).member.part refl

  by_terms : (a : Asked) (t : Result (List Term) LabelError) → Stepped num j w i b (judges_by b j (row_of j b.rows) a t)
  by_terms a (Err e) = answered a.from j _
  by_terms a (Ok terms) =
      let m = (row_of j b.rows).member in
      let request = request_of a terms in
      judged_by a request (new_end_of (judgement (spool_end m.spool) (spool_registers m.spool) request).landed request) refl

  own_append : (a : Asked) → Stepped num j w i b (on_append j a b)
  own_append a = by_refusal (refusal_of b.name (row_of j b.rows).member.part (brokers.spec_of j b.mirror) (brokers.route_of j b.mirror) a)
    where
      by_refusal : (o : Option Answer) → Stepped num j w i b (appends_if b j a o)
      by_refusal (Some answer) = answered a.from j answer
      by_refusal None = by_terms a (selector_of a.selector)

  -- ---- of another

  module _ (k : List ℕ) (d : bytes_eq j k ≡ false) where
    other_rule : (row : Row) (out : full.Outcome) → AreOf k out.sends → Stepped num j w i b (by_rule b k row out)
    other_rule row out a =
        let x = by_rule_left num same j k d i.g.text w.said b.name b row out a in
        quietly num j w i b ready (by_rule b k row out) x.name (ap (λ (r : Row). r.member) x.row) x.closings x.sends

    other_judged : (a : Asked) (request : Request) (o : Option ℕ) → let m = (row_of k b.rows).member in let judged = judgement (spool_end m.spool) (spool_registers m.spool) request in Stepped num j w i b (judged_with b k (row_of k b.rows) a request judged o)
    other_judged a request (Some end) =
        let m = (row_of k b.rows).member in
        let judged = judgement (spool_end m.spool) (spool_registers m.spool) request in
        other_rule (queued end (answer_of a.req judged.landed) a (row_of k b.rows)) (primary.put_entry k m (entry_of request judged.after) m.part) (put_of k m (entry_of request judged.after) m.part)
    other_judged a request None =
        let m = (row_of k b.rows).member in
        let judged = judgement (spool_end m.spool) (spool_registers m.spool) request in
        other_rule (queued (spool_end m.spool) (answer_of a.req judged.landed) a (row_of k b.rows)) (full.idle m) tt

    other_terms : (a : Asked) (t : Result (List Term) LabelError) → Stepped num j w i b (judges_by b k (row_of k b.rows) a t)
    other_terms a (Err e) = answered a.from k _
    other_terms a (Ok terms) =
        let m = (row_of k b.rows).member in
        let request = request_of a terms in
        other_judged a request (new_end_of (judgement (spool_end m.spool) (spool_registers m.spool) request).landed request)

    other_append : (a : Asked) → Stepped num j w i b (on_append k a b)
    other_append a = by_refusal (refusal_of b.name (row_of k b.rows).member.part (brokers.spec_of k b.mirror) (brokers.route_of k b.mirror) a)
      where
        by_refusal : (o : Option Answer) → Stepped num j w i b (appends_if b k a o)
        by_refusal (Some answer) = answered a.from k answer
        by_refusal None = other_terms a (selector_of a.selector)

  -- whatever journal it is of
  pub append_stepped : (k : List ℕ) (a : Asked) → Stepped num j w i b (on_append k a b)
  append_stepped k a = elim (cases_Bool (bytes_eq j k)) [
    | inl t ↦ subst (λ x. Stepped num j w i b (on_append x a b)) (same_text j k (sym t)) (own_append a)
    | inr d ↦ other_append k d a
  ]
