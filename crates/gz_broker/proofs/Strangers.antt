-- Messages of kinds that a broker doesn't take.
use Rattle.std.proofs.Common.{◌≡◌, ℕ, List, refl, true, false}
use Rattle.std.proofs.lemmas.Bool.{true≢false}
use Rattle.gz_wire.specs.declared.msg.Msg.{Msg}
use Rattle.gz_wire.specs.declared.msg.Msg.TheVariants.{KsTxnOk, KsTxnNo, KsSinceDone, KsChange, Promise, Promised, Adopt, Adopted, Replicate, Held, Head, Append, Read, StoreDone, StoreGot, StoreNames}
use Rattle.gz_broker.specs.Brokers.{Broker, Deliver, idle}
use Rattle.gz_broker.specs.Step.{is_of_clients, is_of_nodes, from_client, from_node, step}

clients_idle : (from : List ℕ) (msg : Msg) (b : Broker) → is_of_clients msg ≡ false → from_client from msg b ≡ idle b
clients_idle from (Append req j epoch offset selector take add content) b e = absurd (true≢false e)
clients_idle from (Read req j offset) b e = absurd (true≢false e)
clients_idle from msg b e = refl

nodes_idle : (from : List ℕ) (msg : Msg) (b : Broker) → is_of_nodes msg ≡ false → from_node from msg b ≡ idle b
nodes_idle from (KsTxnOk req revision) b e = absurd (true≢false e)
nodes_idle from (KsTxnNo req status key revision) b e = absurd (true≢false e)
nodes_idle from (KsSinceDone req head changes) b e = absurd (true≢false e)
nodes_idle from (KsChange revision writes) b e = absurd (true≢false e)
nodes_idle from (Promise j epoch) b e = absurd (true≢false e)
nodes_idle from (Promised j epoch adopted image) b e = absurd (true≢false e)
nodes_idle from (Adopt j epoch image) b e = absurd (true≢false e)
nodes_idle from (Adopted j epoch end) b e = absurd (true≢false e)
nodes_idle from (Replicate j epoch offset entry head) b e = absurd (true≢false e)
nodes_idle from (Held j epoch end) b e = absurd (true≢false e)
nodes_idle from (Head j epoch head begin) b e = absurd (true≢false e)
nodes_idle from (Append req j epoch offset selector take add content) b e = absurd (true≢false e)
nodes_idle from (Read req j offset) b e = absurd (true≢false e)
nodes_idle from (StoreDone req j begin end) b e = absurd (true≢false e)
nodes_idle from (StoreGot req j status offset content) b e = absurd (true≢false e)
nodes_idle from (StoreNames req j names) b e = absurd (true≢false e)
nodes_idle from msg b e = refl

pub client_idle : (from : List ℕ) (msg : Msg) (b : Broker) → is_of_clients msg ≡ false → step b (Deliver from true msg) ≡ idle b
client_idle from msg b e = clients_idle from msg b e

pub node_idle : (from : List ℕ) (msg : Msg) (b : Broker) → is_of_nodes msg ≡ false → step b (Deliver from false msg) ≡ idle b
node_idle from msg b e = nodes_idle from msg b e
