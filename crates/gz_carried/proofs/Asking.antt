-- Events that touch no member of a journal: a message is lost, a client asks or gives up, a member that runs asks for the
-- changes of the keys that its mirror hasn't; and a primary is told to put what it has to the store. What is sent then says
-- nothing of one journal.
use Rattle.std.proofs.Common.{◌≡◌, ℕ, List, [], ◌∷◌, ◌++◌, refl, ap, sym, ◌∙◌, subst, inl, inr, Option, Some, None, true, ◌+◌}
use Rattle.std.specs.Prelude.{if◌then◌else◌, ◌||◌, nat_lt}
use Rattle.std.specs.Str.{bytes_eq}
use Rattle.std.specs.Cmp.Lexicographic.{same_text}
use Rattle.std.proofs.lemmas.Bool.{cond_both, cases_Bool}
use Rattle.gz_label.specs.declared.label.Label.{Label}
use Rattle.gz_wire.specs.declared.msg.Send.{Send}
use Rattle.gz_wire.specs.declared.msg.Msg.TheVariants.{Append, Read}
use Rattle.gz_spec.specs.Reserved.{is_reserved}
use Rattle.gz_replica.specs.Member.{send}
use Rattle.gz_replica.specs.declared.part.Part.{Part}
use Rattle.gz_replica.specs.declared.part.Part.TheVariants.{Open}
use Rattle.gz_broker.specs.Brokers.{Row, Broker, Watch, Flush, idle, row_of, with_row}
use Rattle.gz_broker.specs.Closing.{putting}
use Rattle.gz_broker.specs.Persisting.{puts, flushes}
use Rattle.gz_broker.specs.Step as broker_step
use Rattle.gz_cluster.specs.Others.{Consumer, asking}
use Rattle.gz_cluster.specs.Cluster.{Letter, Cluster, Moved, quiet, is_member, runs, broker_of, with_client, sends}
use Rattle.gz_cluster.specs.Events.{Lose, Watches, Appends, Reads, GivesUp, without_place, gives_up, clients_with, next_request, asks, consumer_of, consumer_watches, member_watches, Flushes, commands_broker}
use Rattle.gz_cluster.specs.Events as events
use Rattle.gz_cluster.specs.Ledger.{Ledger, ledger_after}
use Rattle.gz_lineage.specs.World.{World}
use Rattle.gz_lineage.proofs.Invariant.{Inv}
use Rattle.gz_carry.specs.Seen.{IsNumbering}
use Rattle.gz_steps.specs.Carrying.{journal_in}
use Rattle.gz_steps.specs.Steps.{Ready}
use Rattle.gz_steps.proofs.Rules.{row_put}
use Rattle.gz_steps.proofs.Others.{row_other}
use Rattle.gz_steps.proofs.Stepping.{Stepped, quietly}
use Rattle.gz_carried.specs.Carried.{Carried}
use Rattle.gz_carried.proofs.Carried.{Arrives, broker_found, ready_for, broker_carried}
use Rattle.gz_carried.proofs.KeyEvents.{unmoved}

-- the broker of a name has that name
pub name_found : (name : List ℕ) (bs : List Broker) (b : Broker) → broker_of name bs ≡ Some b → name ≡ b.name
name_found name [] b e = absurd (cc)
name_found name (x ∷ xs) b e = elim (cases_Bool (bytes_eq name x.name)) [
  | inl t ↦ (let f : Some x ≡ Some b = subst (λ z. (if z then Some x else broker_of name xs) ≡ Some b) t e in
      let g : x ≡ b = cc in
      same_text name x.name (sym t) ∙ ap (λ (y : Broker). y.name) g)
  | inr t ↦ name_found name xs b (subst (λ z. (if z then Some x else broker_of name xs) ≡ Some b) t e)
]

module _ (num : List ℕ → ℕ) (same : IsNumbering num) (j : List ℕ) (c : Cluster) (said : List Letter) (l : Ledger) (w : World) (i : Inv w) (a : Carried num j c said l w i.g.text) where
  abbrev Behind : Moved → Type 0
  Behind m = Arrives num j w i m.cluster (said ++ m.said) (ledger_after j l m.cluster)

  -- where no broker moves, and the keys stay
  still : Behind (quiet [] c)
  still = unmoved num same j c said l w i a (quiet [] c) (record { brokers = refl; stopped = refl; indexes = refl; said = tt }) refl

  pub lose_carried : (place : ℕ) → Behind (events.happens c (Lose place))
  lose_carried place = unmoved num same j c said l w i a (quiet [] (without_place place c)) (record { brokers = refl; stopped = refl; indexes = refl; said = tt }) refl

  pub gives_up_carried : (client : List ℕ) → Behind (events.happens c (GivesUp client))
  gives_up_carried client = unmoved num same j c said l w i a (gives_up client c) (record { brokers = refl; stopped = refl; indexes = refl; said = tt }) refl

  asks_carried : (name : List ℕ) (ask : ℕ → Send) → ((req : ℕ) → let s = ask req in journal_in s.msg ≡ None) → Behind (asks name ask c)
  asks_carried name ask f =
      let m = sends name (ask (next_request name c) ∷ []) [] (record c { clients = with_client asking name (clients_with name c.clients) }) in
      cond_both (is_reserved name || is_member c name) (quiet [] c) m Behind
      (λ _. still)
      (λ _. unmoved num same j c said l w i a m (record { brokers = refl; stopped = refl; indexes = refl; said = (f (next_request name c), tt) }) refl)

  pub appends_carried : (client to journal : List ℕ) (epoch offset : Option ℕ) (selector : List ℕ) (take add : List Label) (content : List ℕ) → Behind (events.happens c (Appends client to journal epoch offset selector take add content))
  appends_carried client to journal epoch offset selector take add content =
      asks_carried client (λ req. send to (Append req journal epoch offset selector take add content)) (λ req. refl)

  pub reads_carried : (client to journal : List ℕ) (offset : ℕ) → Behind (events.happens c (Reads client to journal offset))
  reads_carried client to journal offset = asks_carried client (λ req. send to (Read req journal offset)) (λ req. refl)

  by_consumer : (o : Option Consumer) → Behind (consumer_watches c o)
  by_consumer None = still
  by_consumer (Some n) = unmoved num same j c said l w i a (consumer_watches c (Some n)) (record { brokers = refl; stopped = refl; indexes = refl; said = (refl, tt) }) refl

  by_broker : (name : List ℕ) → runs c name ≡ true → (o : Option Broker) → broker_of name c.brokers ≡ o → Behind (member_watches name c o)
  by_broker name up None e = by_consumer (consumer_of name c.consumers)
  by_broker name up (Some b) e =
      let here = (broker_found num same name c.brokers b e).0 in
      let ready = ready_for num same j c said l w i a b here (ap (runs c) (sym (name_found name c.brokers b e)) ∙ up) in
      let out = broker_step.step b Watch in
      broker_carried num same j c said l w i a [] b here out (quietly num j w i b ready out refl refl tt ((λ e. cc), tt))

  pub watch_carried : (name : List ℕ) → Behind (events.happens c (Watches name))
  watch_carried name = cond_both (runs c name) (member_watches name c (broker_of name c.brokers)) (quiet [] c) Behind
      (λ up. by_broker name up (broker_of name c.brokers) refl) (λ _. still)

  -- ---- a primary puts what it has to the store

  -- the member stays in the row of this journal, whichever journal's bytes are put
  same_member : (k : List ℕ) (b : Broker) → let row = row_of j (with_row k (putting (b.requests + 1) (row_of k b.rows)) b.rows) in let old = row_of j b.rows in row.member ≡ old.member
  same_member k b = elim (cases_Bool (bytes_eq j k)) [
    | inl t ↦ (let is : j ≡ k = same_text j k (sym t) in
        subst (λ x. let row = row_of j (with_row x (putting (b.requests + 1) (row_of x b.rows)) b.rows) in let old = row_of j b.rows in row.member ≡ old.member) is
        (ap (λ (r : Row). r.member) (row_put j (putting (b.requests + 1) (row_of j b.rows)) b.rows)))
    | inr d ↦ ap (λ (r : Row). r.member) (row_other num same j k d (putting (b.requests + 1) (row_of k b.rows)) b.rows)
  ]

  flush_stepped : (b : Broker) → Ready num j w b → (k : List ℕ) (p : Part) → Stepped num j w i b (flushes k (row_of k b.rows) p b)
  flush_stepped b ready k (Open r held) =
      let row = row_of k b.rows in
      cond_both (nat_lt row.member.spool.begin row.member.spool.head) (puts k row b) (idle b) (Stepped num j w i b)
      (λ _. quietly num j w i b ready (puts k row b) refl (same_member k b) tt ((λ e. cc), tt))
      (λ _. quietly num j w i b ready (idle b) refl refl tt tt)
  flush_stepped b ready k p = quietly num j w i b ready (idle b) refl refl tt tt

  by_flush : (name k : List ℕ) → runs c name ≡ true → (o : Option Broker) → broker_of name c.brokers ≡ o → Behind (commands_broker (Flush k) c o)
  by_flush name k up None e = still
  by_flush name k up (Some b) e =
      let here = (broker_found num same name c.brokers b e).0 in
      let ready = ready_for num same j c said l w i a b here (ap (runs c) (sym (name_found name c.brokers b e)) ∙ up) in
      let row = row_of k b.rows in
      broker_carried num same j c said l w i a [] b here (broker_step.step b (Flush k)) (flush_stepped b ready k row.member.part)

  pub flush_carried : (name k : List ℕ) → Behind (events.happens c (Flushes name k))
  flush_carried name k = cond_both (runs c name) (commands_broker (Flush k) c (broker_of name c.brokers)) (quiet [] c) Behind
      (λ up. by_flush name k up (broker_of name c.brokers) refl) (λ _. still)
