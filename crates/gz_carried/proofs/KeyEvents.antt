-- Events of the key space: specifications are applied, an author key is drawn, a lease ends. What a key of a specification, an
-- author or a member is, is no key of a journal's route and no sync key. And a sync transaction is taken: made, it is the
-- reduced key space's answer that the sync key is written; refused, nothing is behind it.
use Rattle.std.proofs.Common.{◌≡◌, ℕ, ◌+◌, ◌<◌, ◌⊎◌, List, [], ◌∷◌, ◌++◌, length, refl, ap, sym, ◌∙◌, subst, inl, inr, Option, Some, None, true, false, Bool}
use Rattle.std.specs.Prelude.{if◌then◌else◌, map, option_and_then, Ok, Err, ◌==◌, codes}
use Rattle.std.specs.Str.{bytes_eq}
use Rattle.std.specs.Cmp.Lexicographic.{same_text}
use Rattle.std.proofs.lemmas.Bool.{cases_Bool, eqb-true, eqb-false, ne_eqb, true≢false}
use Rattle.gz_model.specs.Steps.{◌>>=◌}
use Rattle.gz_label.specs.declared.keys.KeyWrite.{KeyWrite}
use Rattle.gz_wire.specs.declared.msg.Send.{Send}
use Rattle.gz_wire.specs.declared.msg.Msg.TheVariants.{KsTxn}
use Rattle.gz_spec.specs.Records.{Specs, JournalSpec, ShardSpec}
use Rattle.gz_keyspace.specs.declared.error.KeyError.{KeyError}
use Rattle.gz_keyspace.specs.declared.error.KeyError.TheVariants.{CompareFailed, KeysEnd}
use Rattle.gz_keyspace.specs.Keys.{same_key, mod_revision_of, keys_after}
use Rattle.gz_keyspace.specs.Space.{Space, last_revision, with_change, after_txn, put_of, delete_of, key_of_lease, without_key}
use Rattle.gz_registry.specs.Registered.{Registered, lease_of, key_answer, ended_answer, lease_answer, after_lease, after_expiry}
use Rattle.gz_registry.specs.Keys.{journal_key, shard_key, member_key, journal_write, shard_write, in_order, writes_of}
use Rattle.gz_registry.proofs.Orders.{Values, each_in_order}
use Rattle.gz_registry.proofs.Orders as orders
use Rattle.gz_replica.specs.Member.{send}
use Rattle.gz_replica.specs.Opening.{keys, route_key, sync_key}
use Rattle.gz_broker.specs.Taking.{routed_journal}
use Rattle.gz_cluster.specs.Keeper.{makes, makes_as, names_of, refusal, denied, on_txn, on_txn_as, offender}
use Rattle.gz_cluster.specs.Keeper as keeper
use Rattle.gz_cluster.specs.Cluster.{Letter, Cluster, Moved, quiet, keeper_moves, letters_from, count_of}
use Rattle.gz_cluster.specs.Events.{Apply, Draws, Expire, with_registry, tells_all, key_of, deletes, expires_as}
use Rattle.gz_cluster.specs.Events as events
use Rattle.gz_cluster.specs.Handover.{changes_of}
use Rattle.gz_cluster.specs.Ledger.{Ledger, ledger_after}
use Rattle.gz_lineage.specs.Lists.{In, Each}
use Rattle.gz_lineage.specs.Nodes as reduced
use Rattle.gz_lineage.specs.Rules as rules
use Rattle.gz_lineage.specs.World.{World}
use Rattle.gz_lineage.proofs.Listed.{each_append}
use Rattle.gz_lineage.proofs.Invariant.{Inv}
use Rattle.gz_carry.specs.Seen.{IsNumbering}
use Rattle.gz_carried.specs.Keys.{KeysCarried}
use Rattle.gz_carried.specs.Events.{sync_compares, sync_writes, LeasesKeepMembers}
use Rattle.gz_carried.proofs.KeyChanges.{LeavesKey, other_change, sync_stepped}
use Rattle.gz_carried.proofs.Converges.{AreQuiet, OnlyKeys, room_for, told_quiet}
use Rattle.gz_carried.specs.Carried.{Carried}
use Rattle.gz_carried.proofs.Carried.{Arrives, keys_behind, keys_carried, keys_still}

-- ---- writes that no journal's route is behind

-- it is the key of a specification
abbrev IsSpec : KeyWrite → Type 0
IsSpec w = (name : List ℕ) × ((w.key ≡ journal_key name) ⊎ (w.key ≡ shard_key name))

-- these writes leave both keys of the journal, and no other's route is among them
abbrev AreAway : List ℕ → List KeyWrite → Type 0
AreAway j ws = LeavesKey (route_key j) ws × LeavesKey (sync_key j) ws × Each (λ (w : KeyWrite). routed_journal w.key ≡ None) ws

specs_away : (j : List ℕ) (ws : List KeyWrite) → Each IsSpec ws → AreAway j ws
specs_away j [] a = (tt, tt, tt)
specs_away j (w ∷ ws) a =
    let rest = specs_away j ws a.1 in
    elim a.0.1 [
      | inl e ↦ ((ap (λ k. same_key k (route_key j)) e, rest.0), (ap (λ k. same_key k (sync_key j)) e, rest.1), (ap routed_journal e, rest.2))
      | inr e ↦ ((ap (λ k. same_key k (route_key j)) e, rest.0), (ap (λ k. same_key k (sync_key j)) e, rest.1), (ap routed_journal e, rest.2))
    ]

each_same : (ws : List KeyWrite) → orders.Each IsSpec ws → Each IsSpec ws
each_same [] a = tt
each_same (w ∷ ws) a = (a.0, each_same ws a.1)

-- the writes of a part of specifications are such
writes_are_specs : (part : Specs) → Each IsSpec (writes_of part)
writes_are_specs part =
    each_append IsSpec (in_order (map journal_write part.journals)) (in_order (map shard_write part.shards))
    (each_same (in_order (map journal_write part.journals)) (each_in_order IsSpec (map journal_write part.journals) (journals part.journals)))
    (each_same (in_order (map shard_write part.shards)) (each_in_order IsSpec (map shard_write part.shards) (shards part.shards)))
  where
    journals : (js : List JournalSpec) → Values IsSpec (map journal_write js)
    journals [] = tt
    journals (x ∷ js) = ((x.name, inl refl), journals js)

    shards : (ss : List ShardSpec) → Values IsSpec (map shard_write ss)
    shards [] = tt
    shards (x ∷ ss) = ((x.id, inr refl), shards ss)

module _ (num : List ℕ → ℕ) (same : IsNumbering num) (j : List ℕ) (c : Cluster) (said : List Letter) (l : Ledger) (w : World) (i : Inv w) (a : Carried num j c said l w i.g.text) where
  abbrev Behind : Moved → Type 0
  Behind m = Arrives num j w i m.cluster (said ++ m.said) (ledger_after j l m.cluster)

  -- where the keys stay
  pub unmoved : (m : Moved) → OnlyKeys c m → changes_of m.cluster ≡ changes_of c → Behind m
  unmoved m only e = keys_carried num same j c said l w i a m only (keys_still num same j c said l w i a (changes_of m.cluster) (subst (λ cs. KeysCarried num j cs w) (sym e) a.keys))

  -- a transaction that no message asked for, and that leaves the keys of this journal
  made_by : (ws : List KeyWrite) → AreAway j ws → Behind (keeper_moves [] c (makes ws c.keeper))
  made_by [] away = unmoved (keeper_moves [] c (makes [] c.keeper)) (record { brokers = refl; stopped = refl; indexes = refl; said = tt }) refl
  made_by (x ∷ ws) away = by_end (length (changes_of c) == last_revision) refl
    where
      by_end : (ended : Bool) → (length (changes_of c) == last_revision) ≡ ended → Behind (keeper_moves [] c (makes_as (x ∷ ws) c.keeper (if ended then Err KeysEnd else Ok (length (changes_of c) + 1))))
      by_end true e = unmoved (keeper_moves [] c (makes_as (x ∷ ws) c.keeper (Err KeysEnd))) (record { brokers = refl; stopped = refl; indexes = refl; said = tt }) refl
      by_end false e =
          let m = keeper_moves [] c (makes_as (x ∷ ws) c.keeper (Ok (length (changes_of c) + 1))) in
          keys_carried num same j c said l w i a m
          (record { brokers = refl; stopped = refl; indexes = refl; said = told_quiet c.sent (count_of keys c.counts) (names_of c.keeper.registry) (length (after_txn (x ∷ ws) c.keeper.registry.keys).changes) (x ∷ ws) })
          (keys_still num same j c said l w i a (changes_of m.cluster) (other_change num j (changes_of c) w a.keys (x ∷ ws) (room_for (changes_of c) a.keys.small e) away.0 away.1 (inl away.2)))

  -- specifications are applied
  pub apply_carried : (part : Specs) → Behind (events.happens c (Apply part))
  apply_carried part = made_by (writes_of part) (specs_away j (writes_of part) (writes_are_specs part))

  -- an author key is put
  pub draws_carried : (shard consumer : List ℕ) → Behind (events.happens c (Draws shard consumer))
  draws_carried shard consumer = made_by (put_of (codes "author/" ++ shard) consumer ∷ []) ((refl, tt), (refl, tt), (refl, tt))

  -- ---- a sync transaction is taken

  -- what is behind it, and that a change was made only where the reduced key space made it
  pub record Answered (k from : List ℕ) (epoch : ℕ) (m : Moved) : Type 0 where
    pub arrives : Behind m
    pub ok : bytes_eq j k ≡ true → (length (changes_of m.cluster) ≡ length (changes_of c) → ⊥) → In (rules.letter rules.keys (num from) (reduced.TxnOk epoch)) arrives.world.said

  module _ (taken : List Letter) (k from : List ℕ) (req epoch : ℕ) (asked : bytes_eq j k ≡ true → In (rules.letter (num from) rules.keys (reduced.Txn epoch)) w.said) where
    abbrev ws : List KeyWrite
    ws = sync_writes k epoch

    -- where no change is made, and what is sent is quiet
    refused_as : (sends : List Send) → AreQuiet (letters_from c.sent keys (count_of keys c.counts) sends) → Answered k from epoch (keeper_moves taken c (record { keeper = c.keeper; sends = sends }))
    refused_as sends q = record {
      arrives = unmoved (keeper_moves taken c (record { keeper = c.keeper; sends = sends })) (record { brokers = refl; stopped = refl; indexes = refl; said = q }) refl;
      ok = λ t d. absurd (d refl);
    }

    refusal_quiet : (e : KeyError) (sent count : ℕ) → AreQuiet (letters_from sent keys count (send from (refusal req c.keeper.registry.keys e) ∷ []))
    refusal_quiet (CompareFailed key found) sent count = (refl, tt)
    refusal_quiet e sent count = (refl, tt)

    by_room : (ended : Bool) → (length (changes_of c) == last_revision) ≡ ended → mod_revision_of (route_key k) (keys_after (changes_of c)) ≡ epoch →
        Answered k from epoch (keeper_moves taken c (on_txn_as from req ws c.keeper (if ended then Err KeysEnd else Ok (length (changes_of c) + 1))))
    by_room true t holds = refused_as (send from (refusal req c.keeper.registry.keys KeysEnd) ∷ []) (refusal_quiet KeysEnd c.sent (count_of keys c.counts))
    by_room false t holds =
        let room = room_for (changes_of c) a.keys.small t in
        let quiet_told : (x : List ℕ) → AreQuiet (letters_from c.sent keys (count_of keys c.counts) (on_txn_as from req (sync_writes x epoch) c.keeper (Ok (length (changes_of c) + 1))).sends) = λ x. (
          refl,
          told_quiet (c.sent + 1) (count_of keys c.counts + 1) (names_of c.keeper.registry) (length (after_txn (sync_writes x epoch) c.keeper.registry.keys).changes) (sync_writes x epoch),
        ) in
        elim (cases_Bool (bytes_eq j k)) [
          | inr d ↦ (let m = keeper_moves taken c (on_txn_as from req ws c.keeper (Ok (length (changes_of c) + 1))) in
              record {
                arrives = keys_carried num same j c said l w i a m (record { brokers = refl; stopped = refl; indexes = refl; said = quiet_told k })
                    (keys_still num same j c said l w i a (changes_of m.cluster) (other_change num j (changes_of c) w a.keys ws room (refl, tt) (same k j ∙ ne_eqb (num k) (num j) (λ e. eqb-false (num j) (num k) (sym (same j k) ∙ d) (sym e)), tt) (inl (refl, tt))));
                ok = λ t x. absurd (true≢false (sym t ∙ d));
              })
          | inl y ↦ (let is : k ≡ j = sym (same_text j k (sym y)) in
              let s = sync_stepped num j (changes_of c) w i a.keys a.handed room (num from) epoch (asked y) (ap (λ x. mod_revision_of (route_key x) (keys_after (changes_of c))) (sym is) ∙ holds) in
              subst (λ x. Answered x from epoch (keeper_moves taken c (on_txn_as from req (sync_writes x epoch) c.keeper (Ok (length (changes_of c) + 1))))) (sym is)
              (let m = keeper_moves taken c (on_txn_as from req (sync_writes j epoch) c.keeper (Ok (length (changes_of c) + 1))) in
              record {
                arrives = let step = s.step in record {
                  events = step.events;
                  throughout = step.throughout;
                  world = step.world;
                  goes = step.goes;
                  inv = step.inv;
                  grows = step.grows;
                  carried = keys_behind num same j c said l w i a m (record { brokers = refl; stopped = refl; indexes = refl; said = quiet_told j }) step;
                };
                ok = λ t x. s.ok;
              }))
        ]

    by_compare : (holds : Bool) → (mod_revision_of (route_key k) (keys_after (changes_of c)) == epoch) ≡ holds →
        Answered k from epoch (keeper_moves taken c (on_txn_as from req ws c.keeper ((if holds then Ok (tt {0}) else Err (CompareFailed (route_key k) (mod_revision_of (route_key k) (keys_after (changes_of c))))) >>= λ _. (if length (changes_of c) == last_revision then Err KeysEnd else Ok (length (changes_of c) + 1)))))
    by_compare true t = by_room (length (changes_of c) == last_revision) refl (eqb-true (mod_revision_of (route_key k) (keys_after (changes_of c))) epoch t)
    by_compare false t =
        let e = CompareFailed (route_key k) (mod_revision_of (route_key k) (keys_after (changes_of c))) in
        refused_as (send from (refusal req c.keeper.registry.keys e) ∷ []) (refusal_quiet e c.sent (count_of keys c.counts))

    pub txn_carried : (client : Bool) → Answered k from epoch (keeper_moves taken c (keeper.step c.keeper from client (KsTxn req (sync_compares k epoch) ws)))
    txn_carried client = by_allowed (offender client ws c.keeper)
      where
        by_allowed : (o : Option (List ℕ)) → Answered k from epoch (keeper_moves taken c (on_txn from req (sync_compares k epoch) ws c.keeper o))
        by_allowed None = by_compare (mod_revision_of (route_key k) (keys_after (changes_of c)) == epoch) refl
        by_allowed (Some key) = refused_as (send from (denied req key c.keeper.registry.keys) ∷ []) (refl, tt)

  -- ---- a lease ends

  -- the registry makes a change that leaves the keys of this journal, and it is told
  told_of : (r : Registered) (x : KeyWrite) (ws : List KeyWrite) → r.keys.changes ≡ with_change (x ∷ ws) (changes_of c) → AreAway j (x ∷ ws) → length (changes_of c) < last_revision → Behind (tells_all (x ∷ ws) (with_registry r c))
  told_of r x ws e away room =
      let m = tells_all (x ∷ ws) (with_registry r c) in
      keys_carried num same j c said l w i a m
      (record { brokers = refl; stopped = refl; indexes = refl; said = told_quiet c.sent (count_of keys c.counts) (names_of r) (length r.keys.changes) (x ∷ ws) })
      (keys_still num same j c said l w i a (changes_of m.cluster) (subst (λ cs. KeysCarried num j cs w) (sym e) (other_change num j (changes_of c) w a.keys (x ∷ ws) room away.0 away.1 (inl away.2))))

  still : Behind (quiet [] c)
  still = unmoved (quiet [] c) (record { brokers = refl; stopped = refl; indexes = refl; said = tt }) refl

  by_end : (name : List ℕ) (lease : ℕ) → lease_of name c.keeper.registry.members ≡ Some lease → (key : List ℕ) → key_of_lease lease c.keeper.registry.keys.leases ≡ Some key → (id : List ℕ) → key ≡ member_key id →
      (ended : Bool) → (length (changes_of c) == last_revision) ≡ ended → Behind (expires_as name c (key_answer (if ended then Err KeysEnd else Ok (length (changes_of c) + 1))))
  by_end name lease e key g id is true t = still
  by_end name lease e key g id is false t =
      let reg = c.keeper.registry in
      let found : key_of name reg ≡ Some key = ap (λ o. option_and_then (λ n. key_of_lease n reg.keys.leases) o) e ∙ g in
      let changes : (after_expiry name reg).keys.changes ≡ with_change (delete_of key ∷ []) (changes_of c) =
      ap (λ o. let s : Space = after_lease o reg.keys in s.changes) e ∙ ap (λ o. let s : Space = without_key o reg.keys in s.changes) g in
      subst (λ ws. Behind (tells_all ws (with_registry (after_expiry name reg) c))) (sym (ap deletes found))
      (told_of (after_expiry name reg) (delete_of key) [] changes
      ((ap (λ k. same_key k (route_key j)) is, tt), (ap (λ k. same_key k (sync_key j)) is, tt), (ap routed_journal is, tt))
      (room_for (changes_of c) a.keys.small t))

  by_key : (name : List ℕ) (lease : ℕ) → lease_of name c.keeper.registry.members ≡ Some lease → (key : Option (List ℕ)) → key_of_lease lease c.keeper.registry.keys.leases ≡ key → ((k : List ℕ) → key ≡ Some k → (id : List ℕ) × (k ≡ member_key id)) →
      Behind (expires_as name c (ended_answer key (changes_of c)))
  by_key name lease e None g f = still
  by_key name lease e (Some key) g f = let x = f key refl in by_end name lease e key g x.0 x.1 (length (changes_of c) == last_revision) refl

  by_lease : (name : List ℕ) (lease : Option ℕ) → lease_of name c.keeper.registry.members ≡ lease → LeasesKeepMembers c.keeper.registry → Behind (expires_as name c (lease_answer lease c.keeper.registry.keys))
  by_lease name None e f = still
  by_lease name (Some lease) e f = by_key name lease e (key_of_lease lease c.keeper.registry.keys.leases) refl (f lease)

  -- it keeps a member's key
  pub expire_carried : (name : List ℕ) → LeasesKeepMembers c.keeper.registry → Behind (events.happens c (Expire name))
  expire_carried name f = by_lease name (lease_of name c.keeper.registry.members) refl f
