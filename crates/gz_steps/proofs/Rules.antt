-- What one rule of one journal does to a broker, of which a member is in question: the row has the member that the rule
-- gives, the broker keeps its name, and what is sent is what the rule sends, with answers and a put, of which the relation
-- says nothing.
use Rattle.std.proofs.Common.{◌≡◌, ℕ, ◌+◌, List, [], ◌∷◌, ◌++◌, refl, ap, ◌∙◌, subst}
use Rattle.std.specs.Prelude.{nat_le}
use Rattle.std.specs.Str.{bytes_eq}
use Rattle.std.proofs.lemmas.Bool.{cond_both}
use Rattle.gz_wire.specs.declared.msg.Send.{Send}
use Rattle.gz_replica.specs.declared.part.Part.{Part}
use Rattle.gz_replica.specs.Member.{Member}
use Rattle.gz_replica.specs.declared.part.Part.TheVariants.{Closed, Opening, Adopting, Syncing, Open}
use Rattle.gz_broker.specs.Brokers.{Queued, Row, Broker, Outcome, row_of, with_row, reached, spec_of}
use Rattle.gz_lineage.specs.Marks.{Mark}
use Rattle.gz_lineage.proofs.Listed.{each_append, each_map}
use Rattle.gz_carry.specs.Seen.{SendsSeen}
use Rattle.gz_steps.specs.Carrying.{SeenOn, AllSeen}
use Rattle.gz_replica.specs.Member as member
use Rattle.gz_broker.specs.Closing as closing
use Rattle.gz_lineage.specs.Nodes as reduced
use Rattle.gz_carry.proofs.Numbers.{same_bytes}

-- what is seen is seen, whatever its journal
pub each_on : (num : List ℕ → ℕ) (j : List ℕ) (lists : ℕ → List Mark) (said : List reduced.Letter) (me : List ℕ) (sends : List Send) → SendsSeen num lists said me sends → AllSeen num j lists said me sends
each_on num j lists said me sends a = each_map (λ s x e. x) sends a

-- a row that was put is there, and others stay
pub row_put : (j : List ℕ) (row : Row) (rows : List (List ℕ × Row)) → row_of j (with_row j row rows) ≡ row
row_put j row [] = rw (same_bytes j) refl
row_put j row (r ∷ rows) = cond_both (bytes_eq j r.0) ((r.0, row) ∷ rows) (r ∷ with_row j row rows) (λ rs. row_of j rs ≡ row)
    (λ t. rw t refl) (λ t. rw t (row_put j row rows))

module _ (num : List ℕ → ℕ) (j : List ℕ) (lists : ℕ → List Mark) (said : List reduced.Letter) (me : List ℕ) where
  reached_seen : (i : List ℕ) (head : ℕ) (qs : List Queued) → AllSeen num j lists said me (reached i head qs)
  reached_seen i head [] = tt
  reached_seen i head (q ∷ qs) = cond_both (nat_le q.reach head) _ _ (AllSeen num j lists said me) (λ _. ((λ e. cc), reached_seen i head qs)) (λ _. reached_seen i head qs)

  closings_seen : (i : List ℕ) (promised : ℕ) (qs : List Queued) → AllSeen num j lists said me (closing.closings_of i promised qs)
  closings_seen i promised [] = tt
  closings_seen i promised (q ∷ qs) = ((λ e. cc), closings_seen i promised qs)

  answers_seen : (i : List ℕ) (row : Row) (p : Part) → AllSeen num j lists said me (closing.answers_of i row p)
  answers_seen i row Closed = tt
  answers_seen i row (Opening r req reports stored) = tt
  answers_seen i row (Adopting r reached) = tt
  answers_seen i row (Syncing r req) = tt
  answers_seen i row (Open r held) = reached_seen i row.member.spool.head row.queue

  left_member : (row : Row) (p : Part) → (closing.left_of row p).member ≡ row.member
  left_member row Closed = refl
  left_member row (Opening r req reports stored) = refl
  left_member row (Adopting r reached) = refl
  left_member row (Syncing r req) = refl
  left_member row (Open r held) = refl

  after_member : (row : Row) (m : Member) → (closing.row_after row m).member ≡ m
  after_member row m = cond_both (closing.goes_on row.member.part m.part) _ _ (λ (r : Row). r.member ≡ m) (λ _. refl) (λ _. refl)

  after_closings : (i : List ℕ) (row : Row) (m : Member) → AllSeen num j lists said me (closing.closings_after i row m)
  after_closings i row m = cond_both (closing.goes_on row.member.part m.part) [] (closing.closings_of i m.promised row.queue) (AllSeen num j lists said me) (λ _. tt) (λ _. closings_seen i m.promised row.queue)

  -- what is known of a rule's outcome
  pub record Ruled (b : Broker) (m : Member) (out : Outcome) : Type 0 where
    pub name : out.broker.name ≡ b.name
    pub member : (row_of j out.broker.rows).member ≡ m
    pub closings : AllSeen num j lists said me out.closings
    pub sends : AllSeen num j lists said me out.sends

  finished_ruled : (b : Broker) (old requests : ℕ) (closings sends : List Send) (row : Row) → AllSeen num j lists said me closings → AllSeen num j lists said me sends → Ruled b row.member (closing.finished b j old requests closings sends row)
  finished_ruled b old requests closings sends row c s =
      let left = closing.left_of row row.member.part in
      let all : AllSeen num j lists said me (closing.answers_of j row row.member.part ++ sends) = each_append (λ (s : Send). SeenOn num j lists said me s.to s.msg) (closing.answers_of j row row.member.part) sends (answers_seen j row row.member.part) s in
      cond_both (closing.is_to_put (spec_of j b.mirror) row.member.part old row) _ _ (Ruled b row.member)
      (λ _. record {
        name = refl;
        member = ap (λ (r : Row). r.member) (row_put j (closing.putting (requests + 1) left) b.rows) ∙ left_member row row.member.part;
        closings = c;
        sends = each_append (λ (s : Send). SeenOn num j lists said me s.to s.msg) (closing.answers_of j row row.member.part ++ sends) (closing.store_put j (requests + 1) row.member.spool ∷ []) all ((λ e. cc), tt);
      })
      (λ _. record { name = refl; member = ap (λ (r : Row). r.member) (row_put j left b.rows) ∙ left_member row row.member.part; closings = c; sends = all })

  -- the broker after a rule has the member that the rule gives
  pub by_rule_is : (b : Broker) (row : Row) (out : member.Outcome) → SendsSeen num lists said me out.sends → Ruled b out.member (closing.by_rule b j row out)
  by_rule_is b row out a =
      subst (λ m. Ruled b m (closing.by_rule b j row out)) (after_member row out.member)
      (finished_ruled b row.member.spool.head (b.requests + out.numbered) (closing.closings_after j row out.member) out.sends (closing.row_after row out.member) (after_closings j row out.member) (each_on num j lists said me out.sends a))

  pub ruled_is : (b : Broker) (rule : ℕ → Member → member.Outcome) → SendsSeen num lists said me (rule (b.requests + 1) (row_of j b.rows).member).sends →
      Ruled b (rule (b.requests + 1) (row_of j b.rows).member).member (closing.ruled b j rule)
  ruled_is b rule a = by_rule_is b (row_of j b.rows) (rule (b.requests + 1) (row_of j b.rows).member) a
