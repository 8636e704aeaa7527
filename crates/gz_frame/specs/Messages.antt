-- Messages, and the flags that they carry.
use Rattle.std.specs.Prelude.{ℕ, ◌==◌, ◌||◌, ◌&&◌, nat_le, List, length, Bool, Option, Some, None, if◌then◌else◌}
use Rattle.std.specs.Str.{is_utf8}

-- A message: the producer's six octets, its clock and its flags, a key and a value.
pub record Message : Type 0 where
  pub producer : List ℕ
  pub clock : ℕ
  pub flags : ℕ
  pub key : List ℕ
  pub value : List ℕ

-- the message waits for an acknowledgement of its producer
abbrev pub continue_txn : ℕ
continue_txn = 0

-- the message stands by itself
abbrev pub outside_txn : ℕ
outside_txn = 1

-- the message acknowledges those before it
abbrev pub ack_txn : ℕ
ack_txn = 2

abbrev pub is_outside : Message → Bool
is_outside m = m.flags == outside_txn

abbrev pub is_ack : Message → Bool
is_ack m = m.flags == ack_txn

-- an ACK or an OUTSIDE message ends what its producer has pending
abbrev pub is_end : Message → Bool
is_end m = is_ack m || is_outside m

-- the most bytes of a key and of a value
abbrev pub max_key : ℕ
max_key = 256

abbrev pub max_value : ℕ
max_value = 4096

-- a text of at most so many bytes
abbrev pub is_text_within : ℕ → List ℕ → Bool
is_text_within most text = is_utf8 text && nat_le (length text) most

-- a message has a short key and a short value, both texts, and one of the three flags
abbrev pub is_message : Message → Bool
is_message m = is_text_within max_key m.key && is_text_within max_value m.value && nat_le m.flags ack_txn

abbrev pub message_if : Message → Option Message
message_if m = if is_message m then Some m else None
