-- A rule of another journal: this one's row stays as it is, and nothing that is sent is of this one. What stands here goes
-- by names alone: two journals are apart where their names are.
use Rattle.std.proofs.Common.{◌≡◌, ℕ, ◌+◌, ◌⊎◌, List, [], ◌∷◌, ◌++◌, refl, ap, sym, ◌∙◌, eqb, inl, inr, Some, None, true, false}
use Rattle.std.specs.Prelude.{nat_le}
use Rattle.std.specs.Str.{bytes_eq}
use Rattle.std.proofs.lemmas.Bool.{cond_both, true≢false, eqb-true}
use Rattle.gz_wire.specs.declared.msg.Msg.{Msg}
use Rattle.gz_wire.specs.declared.msg.Send.{Send}
use Rattle.gz_replica.specs.declared.part.Part.{Part}
use Rattle.gz_replica.specs.Member.{Member, to_each}
use Rattle.gz_replica.specs.declared.part.Part.TheVariants.{Closed, Opening, Adopting, Syncing, Open}
use Rattle.gz_broker.specs.Brokers.{Queued, Row, Broker, Outcome, row_of, with_row, reached, spec_of}
use Rattle.gz_lineage.specs.Marks.{Mark}
use Rattle.gz_lineage.specs.Lists.{Each}
use Rattle.gz_lineage.specs.World.{World}
use Rattle.gz_lineage.proofs.Invariant.{Inv}
use Rattle.gz_lineage.proofs.Listed.{each_append, each_map}
use Rattle.gz_steps.specs.Carrying.{journal_in, SeenOn, AllSeen}
use Rattle.gz_carry.proofs.Numbers.{same_bytes}
use Rattle.gz_steps.specs.Steps.{Ready}
use Rattle.gz_steps.proofs.Stepping.{StillStepped, stilly}
use Rattle.gz_replica.specs.Member as member
use Rattle.gz_broker.specs.Closing as closing
use Rattle.gz_lineage.specs.Nodes as reduced
use Rattle.gz_carry.specs.Seen.{IsNumbering}

-- the message is of this journal, if it is of one that members send one another
abbrev pub IsOf : List ℕ → Msg → Type 0
IsOf j msg = (journal_in msg ≡ Some j) ⊎ (journal_in msg ≡ None)

abbrev pub AreOf : List ℕ → List Send → Type 0
AreOf j sends = Each (λ (s : Send). IsOf j s.msg) sends

pub of_each : (j : List ℕ) (msg : Msg) → IsOf j msg → (ms : List (List ℕ)) → AreOf j (to_each msg ms)
of_each j msg a [] = tt
of_each j msg a (m ∷ ms) = (a, of_each j msg a ms)

module _ (num : List ℕ → ℕ) (same : IsNumbering num) where
  -- another journal's row
  pub row_other : (j k : List ℕ) → bytes_eq j k ≡ false → (row : Row) (rows : List (List ℕ × Row)) → row_of j (with_row k row rows) ≡ row_of j rows
  row_other j k d row [] = rw d refl
  row_other j k d row (r ∷ rows) = cond_both (bytes_eq k r.0) ((r.0, row) ∷ rows) (r ∷ with_row k row rows) (λ rs. row_of j rs ≡ row_of j (r ∷ rows))
      (λ t. let z : bytes_eq j r.0 ≡ false = same j r.0 ∙ ap (λ n. eqb (num j) n) (sym (alike k r.0 t)) ∙ sym (same j k) ∙ d in rw z refl)
      (λ _. cond_both (bytes_eq j r.0) r.1 (row_of j (with_row k row rows)) (λ x. x ≡ row_of j (r ∷ rows)) (λ t. rw t refl) (λ t. rw t (row_other j k d row rows)))
    where
      alike : (a b : List ℕ) → bytes_eq a b ≡ true → num a ≡ num b
      alike a b t = eqb-true (num a) (num b) (sym (same a b) ∙ t)

module _ (num : List ℕ → ℕ) (same : IsNumbering num) (j k : List ℕ) (d : bytes_eq j k ≡ false) (lists : ℕ → List Mark) (said : List reduced.Letter) (me : List ℕ) where
  -- such a message says nothing of this one
  pub not_ours : (to : List ℕ) (msg : Msg) → IsOf k msg → SeenOn num j lists said me to msg
  not_ours to msg (inl e) x = absurd (let f : Some j ≡ Some k = sym x ∙ e in let z : j ≡ k = cc in true≢false (sym (same_bytes k) ∙ ap (λ y. bytes_eq y k) (sym z) ∙ d))
  not_ours to msg (inr e) x = absurd (let f : Some j ≡ None = sym x ∙ e in cc)

  pub none_ours : (sends : List Send) → AreOf k sends → AllSeen num j lists said me sends
  none_ours sends a = each_map {P = λ (s : Send). IsOf k s.msg} {Q = λ (s : Send). SeenOn num j lists said me s.to s.msg} (λ s x. not_ours s.to s.msg x) sends a

  reached_of : (head : ℕ) (qs : List Queued) → AllSeen num j lists said me (reached k head qs)
  reached_of head [] = tt
  reached_of head (q ∷ qs) = cond_both (nat_le q.reach head) _ _ (AllSeen num j lists said me) (λ _. ((λ e. cc), reached_of head qs)) (λ _. reached_of head qs)

  closings_of : (promised : ℕ) (qs : List Queued) → AllSeen num j lists said me (closing.closings_of k promised qs)
  closings_of promised [] = tt
  closings_of promised (q ∷ qs) = ((λ e. cc), closings_of promised qs)

  answers_of : (row : Row) (p : Part) → AllSeen num j lists said me (closing.answers_of k row p)
  answers_of row Closed = tt
  answers_of row (Opening r req reports stored) = tt
  answers_of row (Adopting r reached) = tt
  answers_of row (Syncing r req) = tt
  answers_of row (Open r held) = reached_of row.member.spool.head row.queue

  -- what a rule of another journal leaves
  pub record Left (b : Broker) (out : Outcome) : Type 0 where
    pub name : out.broker.name ≡ b.name
    pub row : row_of j out.broker.rows ≡ row_of j b.rows
    pub mirror : out.broker.mirror ≡ b.mirror
    pub closings : AllSeen num j lists said me out.closings
    pub sends : AllSeen num j lists said me out.sends

  finished_left : (b : Broker) (old requests : ℕ) (closings sends : List Send) (row : Row) → AllSeen num j lists said me closings → AllSeen num j lists said me sends → Left b (closing.finished b k old requests closings sends row)
  finished_left b old requests closings sends row c s =
      let left = closing.left_of row row.member.part in
      let all : AllSeen num j lists said me (closing.answers_of k row row.member.part ++ sends) = each_append (λ (s : Send). SeenOn num j lists said me s.to s.msg) (closing.answers_of k row row.member.part) sends (answers_of row row.member.part) s in
      cond_both (closing.is_to_put (spec_of k b.mirror) row.member.part old row) _ _ (Left b)
      (λ _. record {
        name = refl;
        row = row_other num same j k d (closing.putting (requests + 1) left) b.rows;
        mirror = refl;
        closings = c;
        sends = each_append (λ (s : Send). SeenOn num j lists said me s.to s.msg) (closing.answers_of k row row.member.part ++ sends) (closing.store_put k (requests + 1) row.member.spool ∷ []) all ((λ e. cc), tt);
      })
      (λ _. record { name = refl; row = row_other num same j k d left b.rows; mirror = refl; closings = c; sends = all })

  pub by_rule_left : (b : Broker) (row : Row) (out : member.Outcome) → AreOf k out.sends → Left b (closing.by_rule b k row out)
  by_rule_left b row out a =
      finished_left b row.member.spool.head (b.requests + out.numbered) (closing.closings_after k row out.member) out.sends (closing.row_after row out.member)
      (cond_both (closing.goes_on row.member.part out.member.part) [] (closing.closings_of k out.member.promised row.queue) (AllSeen num j lists said me) (λ _. tt) (λ _. closings_of out.member.promised row.queue))
      (none_ours out.sends a)

-- the step as a whole
pub other_ruled : (num : List ℕ → ℕ) (same : IsNumbering num) (j k : List ℕ) → bytes_eq j k ≡ false → (w : World) (i : Inv w) (b : Broker) → Ready num j w b → (rule : ℕ → Member → member.Outcome) → AreOf k (rule (b.requests + 1) (row_of k b.rows).member).sends → StillStepped num j w i b (closing.ruled b k rule)
other_ruled num same j k d w i b ready rule a =
    let l = by_rule_left num same j k d i.g.text w.said b.name b (row_of k b.rows) (rule (b.requests + 1) (row_of k b.rows).member) a in
    stilly num j w i b ready (closing.ruled b k rule) l.name (ap (λ (r : Row). r.member) l.row) l.closings l.sends
