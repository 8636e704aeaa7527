-- A broker takes a message that members send one another: of this journal its rule is carried (`Events`), of another one
-- nothing of this journal happens (`Others`).
use Rattle.std.proofs.Common.{◌≡◌, ℕ, ◌+◌, List, refl, ap, sym, ◌∙◌, subst, inl, inr, Some, false}
use Rattle.std.specs.Str.{bytes_eq}
use Rattle.std.proofs.lemmas.Bool.{cond_both, cases_Bool}
use Rattle.std.specs.Cmp.Lexicographic.{same_text}
use Rattle.gz_wire.specs.declared.msg.Msg.{Msg}
use Rattle.gz_spool.specs.Spools.{is_image}
use Rattle.gz_replica.specs.Member.{Member}
use Rattle.gz_broker.specs.Brokers.{Broker, row_of, Deliver}
use Rattle.gz_broker.specs.Closing.{ruled}
use Rattle.gz_lineage.specs.World.{World}
use Rattle.gz_lineage.proofs.Invariant.{Inv}
use Rattle.gz_carry.specs.Seen.{MessageSeen}
use Rattle.gz_steps.specs.Carrying.{journal_in, SeenOn}
use Rattle.gz_steps.specs.Steps.{Ready}
use Rattle.gz_steps.proofs.Stepping.{Stepped, quietly}
use Rattle.gz_steps.proofs.Events.{held_stepped, promise_stepped, head_stepped, adopted_stepped, adopt_stepped, promised_stepped, replicate_stepped}
use Rattle.gz_steps.proofs.Others.{AreOf, other_ruled}
use Rattle.gz_steps.proofs.Sending.{promise_of, adopt_of, replicate_of, head_of, held_of, promised_of, adopted_of}
use Rattle.gz_wire.specs.declared.msg.Msg.TheVariants as wire
use Rattle.gz_replica.specs.Member as full
use Rattle.gz_replica.specs.Opening as opening
use Rattle.gz_replica.specs.Primary as primary
use Rattle.gz_replica.specs.Replicating as replicating
use Rattle.gz_broker.specs.Brokers as brokers
use Rattle.gz_broker.specs.Step as broker_step
use Rattle.gz_lineage.specs.Rules as rules
use Rattle.gz_carry.specs.Seen.{IsNumbering}

module _ (num : List ℕ → ℕ) (same : IsNumbering num) (no_keys : (a : List ℕ) → num a ≡ rules.keys → ⊥) (j : List ℕ)
    (w : World) (i : Inv w) (b : Broker) (ready : Ready num j w b) (from : List ℕ) where
  some_is : (k : List ℕ) → Some k ≡ Some j → j ≡ k
  some_is k e = cc

  abbrev Does : Msg → Type 0
  Does msg = Stepped num j w i b (broker_step.step b (Deliver from false msg))

  -- of this journal
  pub own_message : (msg : Msg) → journal_in msg ≡ Some j → MessageSeen num i.g.text w.said from b.name msg → Does msg
  own_message (wire.Promise k e) f s = subst (λ x. Does (wire.Promise x e)) (some_is k f) (promise_stepped num same no_keys j w i b ready from e s)
  own_message (wire.Promised k e adopted image) f s = subst (λ x. Does (wire.Promised x e adopted image)) (some_is k f) (promised_stepped num same no_keys j w i b ready from e adopted image s)
  own_message (wire.Adopt k e image) f s = subst (λ x. Does (wire.Adopt x e image)) (some_is k f) (adopt_stepped num same no_keys j w i b ready from e image s)
  own_message (wire.Adopted k e end) f s = subst (λ x. Does (wire.Adopted x e end)) (some_is k f) (adopted_stepped num same no_keys j w i b ready from e end s)
  own_message (wire.Replicate k e offset entry head) f s = subst (λ x. Does (wire.Replicate x e offset entry head)) (some_is k f) (replicate_stepped num same no_keys j w i b ready from e offset head entry s)
  own_message (wire.Held k e end) f s = subst (λ x. Does (wire.Held x e end)) (some_is k f) (held_stepped num same no_keys j w i b ready from e end s)
  own_message (wire.Head k e head begin) f s = subst (λ x. Does (wire.Head x e head begin)) (some_is k f) (head_stepped num same no_keys j w i b ready from e head begin s)
  own_message msg f s = absurd (cc)

  ruled_on : (k : List ℕ) → bytes_eq j k ≡ false → (rule : ℕ → Member → full.Outcome) → AreOf k (rule (b.requests + 1) (row_of k b.rows).member).sends → Stepped num j w i b (ruled b k rule)
  ruled_on k d rule a = (other_ruled num same j k d w i b ready rule a).step

  -- of another
  pub other_message : (msg : Msg) (k : List ℕ) → journal_in msg ≡ Some k → bytes_eq j k ≡ false → Does msg
  other_message (wire.Promise l e) k f d = let z : k ≡ l = cc in ruled_on l (subst (λ x. bytes_eq j x ≡ false) z d) (λ req m. replicating.on_promise l m from e) (promise_of l (row_of l b.rows).member from e)
  other_message (wire.Promised l e adopted image) k f d = let z : k ≡ l = cc in
      cond_both (is_image image) (ruled b l (λ req m. opening.on_promised l req m from e (record { adopted = adopted; image = image }) m.part)) (brokers.idle b) (Stepped num j w i b)
      (λ _. ruled_on l (subst (λ x. bytes_eq j x ≡ false) z d) (λ req m. opening.on_promised l req m from e (record { adopted = adopted; image = image }) m.part)
      (promised_of l (b.requests + 1) (row_of l b.rows).member from e (record { adopted = adopted; image = image }) (row_of l b.rows).member.part))
      (λ _. quietly num j w i b ready (brokers.idle b) refl refl tt tt)
  other_message (wire.Adopt l e image) k f d = let z : k ≡ l = cc in ruled_on l (subst (λ x. bytes_eq j x ≡ false) z d) (λ req m. replicating.on_adopt l m from e image) (adopt_of l (row_of l b.rows).member from e image)
  other_message (wire.Adopted l e end) k f d = let z : k ≡ l = cc in ruled_on l (subst (λ x. bytes_eq j x ≡ false) z d) (λ req m. opening.on_adopted l req m from e end m.part) (adopted_of l (b.requests + 1) (row_of l b.rows).member from e end (row_of l b.rows).member.part)
  other_message (wire.Replicate l e offset entry head) k f d = let z : k ≡ l = cc in ruled_on l (subst (λ x. bytes_eq j x ≡ false) z d) (λ req m. replicating.on_replicate l m from e offset entry head) (replicate_of l (row_of l b.rows).member from e offset entry head)
  other_message (wire.Held l e end) k f d = let z : k ≡ l = cc in ruled_on l (subst (λ x. bytes_eq j x ≡ false) z d) (λ req m. primary.on_held l m from e end m.part) (held_of l (row_of l b.rows).member from e end (row_of l b.rows).member.part)
  other_message (wire.Head l e head begin) k f d = let z : k ≡ l = cc in ruled_on l (subst (λ x. bytes_eq j x ≡ false) z d) (λ req m. replicating.on_head m e head begin) (head_of l (row_of l b.rows).member e head begin)
  other_message msg k f d = absurd (cc)

  pub any_message : (msg : Msg) (k : List ℕ) → journal_in msg ≡ Some k → SeenOn num j i.g.text w.said from b.name msg → Does msg
  any_message msg k f s = elim (cases_Bool (bytes_eq j k)) [
    | inl t ↦ (let g : journal_in msg ≡ Some j = f ∙ ap (λ x. Some x) (sym (same_text j k (sym t))) in own_message msg g (s g))
    | inr d ↦ other_message msg k f d
  ]
