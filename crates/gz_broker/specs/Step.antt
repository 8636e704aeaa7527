-- A broker's step: state and item in, state and sends out. Nothing is left free.
use Rattle.std.specs.Prelude.{ℕ, ◌==◌, List, [], ◌∷◌, ◌++◌, Bool, true, false, Option, Some, None, if◌then◌else◌, nat_le, max}
use Rattle.gz_label.specs.declared.entry.Image.{Image}
use Rattle.gz_wire.specs.declared.msg.Msg.{Msg}
use Rattle.gz_wire.specs.declared.msg.Send.{Send}
use Rattle.gz_wire.specs.declared.msg.Msg.TheVariants.{KsTxnOk, KsTxnNo, KsSinceDone, KsChange, Promise, Promised, Adopt, Adopted, Replicate, Held, Head, Append, Read, StoreDone, StoreGot, StoreNames}
use Rattle.gz_journal.specs.JournalList.{max_end}
use Rattle.gz_fragment.specs.Names.{FragmentName, name_in}
use Rattle.gz_spool.specs.Spools.{is_image}
use Rattle.gz_replica.specs.declared.part.Part.{Part}
use Rattle.gz_replica.specs.declared.part.Part.TheVariants.{Syncing}
use Rattle.gz_replica.specs.Opening.{on_promised, on_store_end, on_adopted, on_synced, on_sync_refused}
use Rattle.gz_replica.specs.Replicating.{on_promise, on_adopt, on_replicate, on_head}
use Rattle.gz_replica.specs.Primary.{on_held}
use Rattle.gz_broker.specs.Brokers.{Row, Broker, Outcome, Item, Deliver, Watch, Sync, Flush, idle}
use Rattle.gz_broker.specs.Closing.{ruled}
use Rattle.gz_broker.specs.Taking.{on_change, on_changes, watch}
use Rattle.gz_broker.specs.Appending.{on_append}
use Rattle.gz_broker.specs.Persisting.{flush, on_store_done}
use Rattle.gz_broker.specs.Reading.{on_read, on_store_got}
use Rattle.gz_broker.specs.Resuming.{sync}

-- ---- answers of the keys, which name no journal

abbrev pub is_syncing : ℕ → Part → Bool
is_syncing req (Syncing r own) = own == req
is_syncing req part = false

-- the journal whose part sent this request
abbrev pub syncing : ℕ → List (List ℕ × Row) → Option (List ℕ)
syncing req [] = None
syncing req (r ∷ rs) = if is_syncing req r.1.member.part then Some r.0 else syncing req rs

abbrev pub on_txn_ok : Option (List ℕ) → Broker → Outcome
on_txn_ok None b = idle b
on_txn_ok (Some j) b = ruled b j (λ req m. on_synced j m m.part)

abbrev pub on_txn_no : Option (List ℕ) → Broker → Outcome
on_txn_no None b = idle b
on_txn_no (Some j) b = ruled b j (λ req m. on_sync_refused m m.part)

-- ---- answers of the store

abbrev pub end_with : Option ℕ → Option ℕ → Option ℕ
end_with (Some a) (Some b) = if nat_le a max_end then Some (max a b) else None
end_with a b = None

abbrev pub end_of_name : Option FragmentName → Option ℕ
end_of_name None = None
end_of_name (Some n) = Some n.end

-- the greatest end that the names say, where each of them is a fragment's
abbrev pub greatest_end : List (List ℕ) → Option ℕ
greatest_end [] = Some 0
greatest_end (n ∷ ns) = end_with (end_of_name (name_in n)) (greatest_end ns)

abbrev pub on_store_names : List ℕ → ℕ → Option ℕ → Broker → Outcome
on_store_names j answered None b = idle b
on_store_names j answered (Some end) b = ruled b j (λ req m. on_store_end j req m end answered m.part)

-- ---- messages

abbrev pub on_promised_if : List ℕ → List ℕ → ℕ → ℕ → Image → Broker → Outcome
on_promised_if from j epoch adopted image b =
    if is_image image then ruled b j (λ req m. on_promised j req m from epoch (record { adopted = adopted; image = image }) m.part) else idle b

abbrev pub from_node : List ℕ → Msg → Broker → Outcome
from_node from (KsTxnOk req revision) b = on_txn_ok (syncing req b.rows) b
from_node from (KsTxnNo req status key revision) b = on_txn_no (syncing req b.rows) b
from_node from (KsSinceDone req head changes) b = on_changes changes b
from_node from (KsChange revision writes) b = on_change (record { revision = revision; writes = writes }) b
from_node from (Promise j epoch) b = ruled b j (λ req m. on_promise j m from epoch)
from_node from (Promised j epoch adopted image) b = on_promised_if from j epoch adopted image b
from_node from (Adopt j epoch image) b = ruled b j (λ req m. on_adopt j m from epoch image)
from_node from (Adopted j epoch end) b = ruled b j (λ req m. on_adopted j req m from epoch end m.part)
from_node from (Replicate j epoch offset entry head) b = ruled b j (λ req m. on_replicate j m from epoch offset entry head)
from_node from (Held j epoch end) b = ruled b j (λ req m. on_held j m from epoch end m.part)
from_node from (Head j epoch head begin) b = ruled b j (λ req m. on_head m epoch head begin)
from_node from (Append req j epoch offset selector take add content) b =
    on_append j (record { from = from; client = false; req = req; epoch = epoch; offset = offset; selector = selector; take = take; add = add; content = content }) b
from_node from (Read req j offset) b = on_read j from req offset b
from_node from (StoreDone req j begin end) b = on_store_done j req end b
from_node from (StoreGot req j status offset content) b = on_store_got j req status offset content b
from_node from (StoreNames req j names) b = on_store_names j req (greatest_end names) b
from_node from msg b = idle b

-- of a client only appends and reads are taken
abbrev pub from_client : List ℕ → Msg → Broker → Outcome
from_client from (Append req j epoch offset selector take add content) b =
    on_append j (record { from = from; client = true; req = req; epoch = epoch; offset = offset; selector = selector; take = take; add = add; content = content }) b
from_client from (Read req j offset) b = on_read j from req offset b
from_client from msg b = idle b

-- what a client may send to a broker
abbrev pub is_of_clients : Msg → Bool
is_of_clients (Append req j epoch offset selector take add content) = true
is_of_clients (Read req j offset) = true
is_of_clients msg = false

-- what another node may send to a broker
abbrev pub is_of_nodes : Msg → Bool
is_of_nodes (KsTxnOk req revision) = true
is_of_nodes (KsTxnNo req status key revision) = true
is_of_nodes (KsSinceDone req head changes) = true
is_of_nodes (KsChange revision writes) = true
is_of_nodes (Promise j epoch) = true
is_of_nodes (Promised j epoch adopted image) = true
is_of_nodes (Adopt j epoch image) = true
is_of_nodes (Adopted j epoch end) = true
is_of_nodes (Replicate j epoch offset entry head) = true
is_of_nodes (Held j epoch end) = true
is_of_nodes (Head j epoch head begin) = true
is_of_nodes (Append req j epoch offset selector take add content) = true
is_of_nodes (Read req j offset) = true
is_of_nodes (StoreDone req j begin end) = true
is_of_nodes (StoreGot req j status offset content) = true
is_of_nodes (StoreNames req j names) = true
is_of_nodes msg = false

abbrev pub step : Broker → Item → Outcome
step b (Deliver from client msg) = if client then from_client from msg b else from_node from msg b
step b Watch = watch b
step b (Sync j) = sync j b
step b (Flush j) = flush j b

-- all that a step sends, in its order
abbrev pub sends_of : Outcome → List Send
sends_of out = out.closings ++ out.sends
