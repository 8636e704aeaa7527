-- The rules of a member as one type, and what a rule leaves of the rest of the row, said by the epoch at which the part was
-- open before.
use Rattle.std.specs.Prelude.{ℕ, ◌+◌, ◌==◌, ◌≤◌, List, [], length, Bool, false, Option, Some, None, if◌then◌else◌, ⊤}
use Rattle.gz_journal.specs.JournalList.{max_end}
use Rattle.gz_wire.specs.declared.msg.Send.{Send}
use Rattle.gz_spool.specs.Spools.{spool_end}
use Rattle.gz_replica.specs.Member.{Member, open_epoch_of}
use Rattle.gz_replica.specs.Member as member
use Rattle.gz_replica.specs.Opening.{on_adopted, on_promised, on_store_end, on_sync_refused, on_synced, open_route}
use Rattle.gz_replica.specs.Replicating.{on_adopt, on_head, on_promise, on_replicate}
use Rattle.gz_replica.specs.Primary.{on_held, on_stored, put_entry}
use Rattle.gz_broker.specs.Brokers.{Row, Broker, Outcome}
use Rattle.gz_broker.specs.Closing.{closings_of}
use Rattle.gz_brokering.specs.declared.out.Out.{Out}
use Rattle.gz_brokering.specs.declared.rule.Rule.{Rule}
use Rattle.gz_brokering.specs.declared.rule.Rule.TheVariants.{OpenRoute, OnPromise, OnPromised, OnStoreEnd, OnAdopt, OnAdopted, OnSynced, OnSyncRefused, OnReplicate, OnHeld, OnHead, OnStored, Put, Nothing}

abbrev pub outcome_of : List ℕ → ℕ → Member → Rule → member.Outcome
outcome_of j req m (OpenRoute route) = open_route j req m route
outcome_of j req m (OnPromise from epoch) = on_promise j m from epoch
outcome_of j req m (OnPromised from epoch report) = on_promised j req m from epoch report m.part
outcome_of j req m (OnStoreEnd end answered) = on_store_end j req m end answered m.part
outcome_of j req m (OnAdopt from epoch image) = on_adopt j m from epoch image
outcome_of j req m (OnAdopted from epoch end) = on_adopted j req m from epoch end m.part
outcome_of j req m OnSynced = on_synced j m m.part
outcome_of j req m OnSyncRefused = on_sync_refused m m.part
outcome_of j req m (OnReplicate from epoch offset entry head) = on_replicate j m from epoch offset entry head
outcome_of j req m (OnHeld from epoch end) = on_held j m from epoch end m.part
outcome_of j req m (OnHead epoch head begin) = on_head m epoch head begin
outcome_of j req m (OnStored end) = on_stored j m end m.part
outcome_of j req m (Put entry) = put_entry j m entry m.part
outcome_of j req m Nothing = member.idle m

-- an entry that is put doesn't end above the greatest end
abbrev pub IsWithin : Rule → Member → Type 0
IsWithin (Put entry) m = spool_end m.spool + length entry.bytes ≤ max_end
IsWithin rule m = ⊤

-- open at this epoch before, and still
abbrev pub stays : Option ℕ → Option ℕ → Bool
stays None after = false
stays (Some epoch) None = false
stays (Some epoch) (Some now) = epoch == now

-- the row after a rule that changed its member, whose part was open at this epoch
abbrev pub kept_with : Option ℕ → Row → Row
kept_with before row = if stays before (open_epoch_of row.member.part) then row else record row { queue = []; putting = None }

abbrev pub closings_with : List ℕ → Option ℕ → Row → List Send
closings_with j before row = if stays before (open_epoch_of row.member.part) then [] else closings_of j row.member.promised row.queue

-- the broker, with what was sent
abbrev pub gave : Broker → Out → Outcome
gave b out = record { broker = b; closings = out.closings; sends = out.sends }

-- a broker that knows of no key
abbrev pub new_broker : List ℕ → Broker
new_broker name = record { name = name; mirror = record { revision = 0; keys = [] }; rows = []; fetches = []; requests = 0 }
