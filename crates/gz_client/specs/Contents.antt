-- The messages of a publish, and the bytes that they are.
use Rattle.std.specs.Prelude.{ℕ, List, map, flat_map}
use Rattle.gz_uuid.specs.Producer.{client_octets}
use Rattle.gz_frame.specs.Line.{line_of}
use Rattle.gz_frame.specs.Messages.{Message, continue_txn, outside_txn, ack_txn}
use Rattle.gz_scenario.specs.declared.event.Flag.{Flag}
use Rattle.gz_scenario.specs.declared.event.Flag.TheVariants.{Outside, Continue, Ack}
use Rattle.gz_scenario.specs.declared.event.Draft.{Draft}
use Rattle.gz_scenario.specs.declared.event.Publish.{Publish}

abbrev pub flags_of : Flag → ℕ
flags_of Outside = outside_txn
flags_of Continue = continue_txn
flags_of Ack = ack_txn

-- a draft as a message of this producer
abbrev pub message_at : List ℕ → Draft → Message
message_at producer d = record { producer = producer; clock = d.clock; flags = flags_of d.flag; key = d.key; value = d.value }

abbrev pub messages_at : List ℕ → List Draft → List Message
messages_at producer drafts = map (message_at producer) drafts

-- their lines
abbrev pub content_at : List ℕ → List Draft → List ℕ
content_at producer drafts = flat_map line_of (messages_at producer drafts)

-- the messages of the client's producer, and their lines
abbrev pub messages_of : Publish → List Message
messages_of p = messages_at (client_octets p.producer) p.messages

abbrev pub content_of : Publish → List ℕ
content_of p = content_at (client_octets p.producer) p.messages
