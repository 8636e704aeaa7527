-- The node `keys`: the key space with everyone who ever joined, and the goal of the next converge.
use Rattle.std.specs.Prelude.{ℕ, ◌==◌, ◌&&◌, List, [], ◌∷◌, ◌++◌, map, filter, Bool, not, Option, Some, None, Result, Ok, Err, if◌then◌else◌, nat_lt}
use Rattle.std.specs.Result.{is_ok}
use Rattle.gz_label.specs.declared.keys.KeyWrite.{KeyWrite}
use Rattle.gz_label.specs.declared.keys.Compare.{Compare}
use Rattle.gz_label.specs.declared.keys.Change.{Change}
use Rattle.gz_wire.specs.declared.msg.Msg.{Msg}
use Rattle.gz_wire.specs.declared.msg.Send.{Send}
use Rattle.gz_wire.specs.declared.msg.Msg.TheVariants.{KsTxn, KsTxnOk, KsTxnNo, KsSince, KsSinceDone, KsChange, KsGrant}
use Rattle.gz_keyspace.specs.declared.error.KeyError.{KeyError}
use Rattle.gz_keyspace.specs.declared.error.KeyError.TheVariants.{CompareFailed}
use Rattle.gz_keyspace.specs.Keys.{KeyMap, keys_after}
use Rattle.gz_keyspace.specs.Space.{Space, revision_of, made_revision, txn_answer, after_txn}
use Rattle.gz_registry.specs.Keys.{in_order}
use Rattle.gz_registry.specs.Registered.{Registered, Member}
use Rattle.gz_replica.specs.Member.{send, to_each}
use Rattle.gz_converge.specs.Converged.{Pairs}
use Rattle.gz_cluster.specs.Allowed.{first_offender}

-- the key space with its members, and the placement of the journals at the last converge
pub record Keeper : Type 0 where
  pub registry : Registered
  pub goal : Pairs

-- what a step leaves, and what it sends
pub record Outcome : Type 0 where
  pub keeper : Keeper
  pub sends : List Send

abbrev pub idle : Keeper → Outcome
idle k = record { keeper = k; sends = [] }

abbrev pub with_keys : Space → Keeper → Keeper
with_keys space k = record k { registry = record { keys = space; members = k.registry.members } }

-- the names of all who ever joined, in ascending order
abbrev pub names_of : Registered → List (List ℕ)
names_of r = in_order (map (λ (m : Member). (m.id, m.id)) r.members)

-- a change that makes these writes is told to all who ever joined; a change without writes is none
abbrev pub tells : Keeper → List KeyWrite → List Send
tells k [] = []
tells k (w ∷ ws) = to_each (KsChange (revision_of k.registry.keys.changes) (w ∷ ws)) (names_of k.registry)

-- what has changed, with the sends that come before those of the change
abbrev pub changed : List Send → List KeyWrite → Keeper → Outcome
changed first writes k = record { keeper = k; sends = first ++ tells k writes }

-- ---- changes that no message asked for

-- a transaction, by its answer: one that would pass the last revision isn't made
abbrev pub makes_as : List KeyWrite → Keeper → Result ℕ KeyError → Outcome
makes_as writes k (Err e) = idle k
makes_as writes k (Ok revision) = changed [] writes (with_keys (after_txn writes k.registry.keys) k)

abbrev pub makes : List KeyWrite → Keeper → Outcome
makes writes k = makes_as writes k (made_revision writes k.registry.keys.changes)

-- one with compares
abbrev pub tries : List Compare → List KeyWrite → Keeper → Outcome
tries compares writes k = makes_as writes k (txn_answer compares writes k.registry.keys)

-- ---- messages

-- why a transaction isn't made: status 1 with what was found, or else 3
abbrev pub refusal : ℕ → Space → KeyError → Msg
refusal req space (CompareFailed key found) = KsTxnNo req 1 key found
refusal req space e = KsTxnNo req 3 [] (revision_of space.changes)

-- a transaction that isn't allowed
abbrev pub denied : ℕ → List ℕ → Space → Msg
denied req key space = KsTxnNo req 2 key (revision_of space.changes)

abbrev pub on_txn_as : List ℕ → ℕ → List KeyWrite → Keeper → Result ℕ KeyError → Outcome
on_txn_as from req writes k (Err e) = record { keeper = k; sends = send from (refusal req k.registry.keys e) ∷ [] }
on_txn_as from req writes k (Ok revision) =
    changed (send from (KsTxnOk req revision) ∷ []) writes (with_keys (after_txn writes k.registry.keys) k)

-- whether it is allowed is judged before its compares
abbrev pub on_txn : List ℕ → ℕ → List Compare → List KeyWrite → Keeper → Option (List ℕ) → Outcome
on_txn from req compares writes k (Some key) = record { keeper = k; sends = send from (denied req key k.registry.keys) ∷ [] }
on_txn from req compares writes k None = on_txn_as from req writes k (txn_answer compares writes k.registry.keys)

abbrev pub changes_above : ℕ → List Change → List Change
changes_above after changes = filter (λ change. nat_lt after change.revision) changes

abbrev pub on_since : List ℕ → ℕ → ℕ → Keeper → Outcome
on_since from req after k =
    let changes = k.registry.keys.changes in
    record { keeper = k; sends = send from (KsSinceDone req (revision_of changes) (changes_above after changes)) ∷ [] }

-- the key of a client's transaction for which it isn't allowed; nodes may write what they like
abbrev pub offender : Bool → List KeyWrite → Keeper → Option (List ℕ)
offender client writes k = if client then first_offender (keys_after k.registry.keys.changes) writes else None

-- What the node makes of a message from this sender, and whether that is a client. No grant is made by message yet.
abbrev pub step : Keeper → List ℕ → Bool → Msg → Outcome
step k from client (KsTxn req compares writes) = on_txn from req compares writes k (offender client writes k)
step k from client (KsSince req after) = on_since from req after k
step k from client (KsGrant req key value) = record { keeper = k; sends = send from (denied req key k.registry.keys) ∷ [] }
step k from client msg = idle k
