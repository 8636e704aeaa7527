-- A message that members send one another is taken by whoever it is for, if that broker runs: of this journal its rule is
-- carried, of another one nothing of this journal happens. So each of the seven kinds of message is an event that reaches a
-- later reduced world.
use Rattle.std.proofs.Common.{◌≡◌, ℕ, List, [], ◌∷◌, ◌++◌, refl, ap, sym, ◌∙◌, subst, Some, true, false}
use Rattle.std.specs.Str.{bytes_eq}
use Rattle.gz_replica.specs.Opening.{keys, store}
use Rattle.gz_broker.specs.Brokers.{Broker, Deliver}
use Rattle.gz_broker.specs.Step as broker_step
use Rattle.gz_cluster.specs.Cluster.{Letter, Cluster, Moved, runs, is_client, broker_of, broker_moves, member_takes, takes}
use Rattle.gz_cluster.specs.Ledger.{Ledger, ledger_after}
use Rattle.gz_lineage.specs.Lists.{In}
use Rattle.gz_lineage.specs.Rules as rules
use Rattle.gz_lineage.specs.World.{World}
use Rattle.gz_lineage.proofs.Invariant.{Inv}
use Rattle.gz_carry.specs.Seen.{IsNumbering, MessageSeen}
use Rattle.gz_steps.specs.Carrying.{journal_in}
use Rattle.gz_steps.proofs.Taken.{any_message}
use Rattle.gz_carried.specs.Carried.{Carried}
use Rattle.gz_carried.proofs.Carried.{Arrives, broker_found, ready_for, broker_carried}

module _ (num : List ℕ → ℕ) (same : IsNumbering num) (no_keys : (a : List ℕ) → num a ≡ rules.keys → ⊥) (j : List ℕ) where
  -- a letter of theirs is taken by whoever it is for, if that broker runs

  pub take_carried : (c : Cluster) (said : List Letter) (l : Ledger) (w : World) (i : Inv w) → Carried num j c said l w i.g.text → (x : Letter) → In x said → (k : List ℕ) → journal_in x.msg ≡ Some k →
      (b : Broker) → broker_of x.to c.brokers ≡ Some b → x.to ≡ b.name → runs c b.name ≡ true → is_client c x.from ≡ false → bytes_eq x.to keys ≡ false → bytes_eq x.to store ≡ false →
      Arrives num j w i (takes x c).cluster (said ++ (takes x c).said) (ledger_after j l (takes x c).cluster)
  take_carried c said l w i a x was k of b found to up node not_keys not_store =
      let f = broker_found num same x.to c.brokers b found in
      let ready = ready_for num same j c said l w i a b f.0 up in
      let up_to : runs c x.to ≡ true = ap (λ n. runs c n) to ∙ up in
      let two : takes x c ≡ member_takes x c (broker_of x.to c.brokers) = rw (not_keys, not_store, up_to) refl in
      let three : member_takes x c (broker_of x.to c.brokers) ≡ broker_moves (x ∷ []) c (broker_step.step b (Deliver x.from false x.msg)) =
      ap (λ o. member_takes x c o) found ∙ ap (λ y. broker_moves (x ∷ []) c (broker_step.step b (Deliver x.from y x.msg))) node in
      let out = broker_step.step b (Deliver x.from false x.msg) in
      let step = any_message num same no_keys j w i b ready x.from x.msg k of (λ e. subst (λ n. MessageSeen num i.g.text w.said x.from n x.msg) to (a.mail x was e)) in
      subst (λ (m : Moved). Arrives num j w i m.cluster (said ++ m.said) (ledger_after j l m.cluster)) (sym (two ∙ three)) (broker_carried num same j c said l w i a (x ∷ []) b f.0 out step)
