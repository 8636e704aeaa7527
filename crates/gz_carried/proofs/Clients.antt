-- A broker that runs takes an append or a read, of a client or of a node, of this journal or of another one. An append is
-- judged, put and answered as in the reduced world; a read moves no member.
use Rattle.std.proofs.Common.{◌≡◌, ℕ, ◌+◌, ◌-◌, List, [], ◌∷◌, ◌++◌, refl, ap, sym, ◌∙◌, subst, Option, Some, None, true, false, Bool}
use Rattle.std.specs.Prelude.{if◌then◌else◌, nat_lt, nat_le}
use Rattle.std.specs.Str.{bytes_eq}
use Rattle.std.proofs.lemmas.Bool.{cond_both}
use Rattle.gz_label.specs.declared.label.Label.{Label}
use Rattle.gz_label.specs.declared.entry.Image.{Image}
use Rattle.gz_wire.specs.declared.msg.Msg.{Msg}
use Rattle.gz_wire.specs.declared.msg.Msg.TheVariants.{Append, Read}
use Rattle.gz_spec.specs.Records.{JournalSpec}
use Rattle.gz_replica.specs.Opening.{keys, store}
use Rattle.gz_broker.specs.Brokers.{Broker, Outcome, RouteHeld, Deliver, answers_with, row_of, spec_of, route_of}
use Rattle.gz_broker.specs.Appending.{Asked, on_append}
use Rattle.gz_broker.specs.Reading.{is_among, refuses_read, fetches, reads_spool, reads_on, reads, on_read, bytes_from}
use Rattle.gz_broker.specs.Step as broker_step
use Rattle.gz_cluster.specs.Cluster.{Letter, Cluster, Moved, runs, is_client, broker_of, broker_moves, member_takes, takes}
use Rattle.gz_cluster.specs.Ledger.{Ledger, ledger_after}
use Rattle.gz_lineage.specs.Rules as rules
use Rattle.gz_lineage.specs.World.{World}
use Rattle.gz_lineage.proofs.Invariant.{Inv}
use Rattle.gz_carry.specs.Seen.{IsNumbering}
use Rattle.gz_steps.specs.Steps.{Ready}
use Rattle.gz_steps.proofs.Stepping.{Stepped, quietly}
use Rattle.gz_steps.proofs.Appends.{append_stepped}
use Rattle.gz_carried.specs.Carried.{Carried}
use Rattle.gz_carried.proofs.Carried.{Arrives, broker_found, ready_for, broker_carried}
use Rattle.gz_carried.proofs.Asking.{name_found}

module _ (num : List ℕ → ℕ) (same : IsNumbering num) (no_keys : (a : List ℕ) → num a ≡ rules.keys → ⊥) (j : List ℕ) (c : Cluster) (said : List Letter) (l : Ledger) (w : World) (i : Inv w) (a : Carried num j c said l w i.g.text) where
  abbrev Behind : Moved → Type 0
  Behind m = Arrives num j w i m.cluster (said ++ m.said) (ledger_after j l m.cluster)

  -- what its step comes to, the cluster comes to
  taken_by : (x : Letter) (b : Broker) → broker_of x.to c.brokers ≡ Some b → runs c b.name ≡ true → bytes_eq x.to keys ≡ false → bytes_eq x.to store ≡ false →
      Stepped num j w i b (broker_step.step b (Deliver x.from (is_client c x.from) x.msg)) → Behind (takes x c)
  taken_by x b found up not_keys not_store step =
      let here = (broker_found num same x.to c.brokers b found).0 in
      let up_to : runs c x.to ≡ true = ap (λ n. runs c n) (name_found x.to c.brokers b found) ∙ up in
      let out = broker_step.step b (Deliver x.from (is_client c x.from) x.msg) in
      let two : takes x c ≡ member_takes x c (broker_of x.to c.brokers) = rw (not_keys, not_store, up_to) refl in
      let three : member_takes x c (broker_of x.to c.brokers) ≡ broker_moves (x ∷ []) c out = ap (λ o. member_takes x c o) found in
      subst Behind (sym (two ∙ three)) (broker_carried num same j c said l w i a (x ∷ []) b here out step)

  pub take_append : (x : Letter) (b : Broker) → broker_of x.to c.brokers ≡ Some b → runs c b.name ≡ true → bytes_eq x.to keys ≡ false → bytes_eq x.to store ≡ false →
      (req : ℕ) (k : List ℕ) (epoch offset : Option ℕ) (selector : List ℕ) (take add : List Label) (content : List ℕ) → x.msg ≡ Append req k epoch offset selector take add content → Behind (takes x c)
  take_append x b found up not_keys not_store req k epoch offset selector take add content is =
      let ready = ready_for num same j c said l w i a b (broker_found num same x.to c.brokers b found).0 up in
      let asked : Bool → Asked = λ client. record { from = x.from; client = client; req = req; epoch = epoch; offset = offset; selector = selector; take = take; add = add; content = content } in
      taken_by x b found up not_keys not_store
      (subst (λ m. Stepped num j w i b (broker_step.step b (Deliver x.from (is_client c x.from) m))) (sym is)
      (cond_both (is_client c x.from) (on_append k (asked true) b) (on_append k (asked false) b) (Stepped num j w i b)
      (λ _. append_stepped num same no_keys j w i b ready k (asked true))
      (λ _. append_stepped num same no_keys j w i b ready k (asked false))))

  -- ---- reads

  module _ (b : Broker) (ready : Ready num j w b) (k from : List ℕ) (req offset : ℕ) where
    read_spool : (s : Image) → Stepped num j w i b (reads_spool k from req offset s b)
    read_spool s = cond_both (nat_le s.head offset) _ _ (Stepped num j w i b)
        (λ _. quietly num j w i b ready (answers_with from (refuses_read k req 3 s.head []) b) refl refl tt ((λ e. cc), tt))
        (λ _. cond_both (nat_lt offset s.begin) _ _ (Stepped num j w i b)
        (λ _. quietly num j w i b ready (fetches k from req offset b) refl refl tt ((λ e. cc), tt))
        (λ _. quietly num j w i b ready _ refl refl tt ((λ e. cc), tt)))

    read_on : (route : Option RouteHeld) → Stepped num j w i b (reads_on k from req offset route b)
    read_on None = quietly num j w i b ready (answers_with from (refuses_read k req 2 0 []) b) refl refl tt ((λ e. cc), tt)
    read_on (Some r) = let row = row_of k b.rows in
        cond_both (is_among b.name r.members) (reads_spool k from req offset row.member.spool b) (answers_with from (refuses_read k req 2 0 r.members) b) (Stepped num j w i b)
        (λ _. read_spool row.member.spool)
        (λ _. quietly num j w i b ready (answers_with from (refuses_read k req 2 0 r.members) b) refl refl tt ((λ e. cc), tt))

    read_by : (spec : Option JournalSpec) → Stepped num j w i b (reads k from req offset spec (route_of k b.mirror) b)
    read_by None = quietly num j w i b ready (answers_with from (refuses_read k req 1 0 []) b) refl refl tt ((λ e. cc), tt)
    read_by (Some spec) = read_on (route_of k b.mirror)

    read_stepped : Stepped num j w i b (on_read k from req offset b)
    read_stepped = read_by (spec_of k b.mirror)

  pub take_read : (x : Letter) (b : Broker) → broker_of x.to c.brokers ≡ Some b → runs c b.name ≡ true → bytes_eq x.to keys ≡ false → bytes_eq x.to store ≡ false →
      (req : ℕ) (k : List ℕ) (offset : ℕ) → x.msg ≡ Read req k offset → Behind (takes x c)
  take_read x b found up not_keys not_store req k offset is =
      let ready = ready_for num same j c said l w i a b (broker_found num same x.to c.brokers b found).0 up in
      taken_by x b found up not_keys not_store
      (subst (λ m. Stepped num j w i b (broker_step.step b (Deliver x.from (is_client c x.from) m))) (sym is)
      (cond_both (is_client c x.from) (on_read k x.from req offset b) (on_read k x.from req offset b) (Stepped num j w i b)
      (λ _. read_stepped b ready k x.from req offset)
      (λ _. read_stepped b ready k x.from req offset)))
