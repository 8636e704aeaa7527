-- The one spelling of a message, and what bytes begin with.
use Rattle.std.specs.Prelude.{◌≡◌, ℕ, ◌+◌, ◌≤◌, List, [], ◌∷◌, ◌++◌, length, take, drop, Option, Some, None, Result, Ok, Err, nat_lt, if◌then◌else◌}
use Rattle.std.specs.Int.{w32, to_le_bytes, from_le_bytes}
use Rattle.gz_wire.specs.declared.msg.Msg.{Msg}
use Rattle.gz_wire.specs.declared.kind.Kind.{Kind}
use Rattle.gz_spelling.specs.declared.table.Row.{Row}
use Rattle.gz_spelling.specs.declared.wire.Decoded.{Decoded}
use Rattle.gz_codec.specs.declared.error.FieldError.{FieldError}
use Rattle.gz_codec.specs.declared.error.FieldError.TheVariants as field_errors
use Rattle.gz_spelling.specs.declared.error.WireError.{WireError}
use Rattle.gz_spelling.specs.declared.error.WireError.TheVariants.{TooLong, NeedMore, BadField, BadTag, NoMemory}
use Rattle.gz_wire.specs.Kinds.{kind_of}
use Rattle.gz_spelling.specs.Messages.{tag_of, kinds_of, fields_of, payload, message_at}
use Rattle.gz_spelling.specs.Table.{kind_tagged}
use Rattle.gz_codec.specs.Spelling.{text, FitsText, FitEach}
use Rattle.gz_codec.specs.Reading.{◌>>=◌, text_at}

-- the most bytes of a body
abbrev pub max_body : ℕ
max_body = 134217728

-- ---- spelling

-- the peer's name, the tag, and the fields
unfoldable pub body_of : List ℕ → Msg → List ℕ
body_of peer m = text peer ++ (tag_of (kind_of m) ∷ payload m)

-- the length in four bytes with the low one first, and the body
unfoldable pub framed : List ℕ → List ℕ
framed body = to_le_bytes w32 (length body) ++ body

abbrev pub spelling : List ℕ → Msg → List ℕ
spelling peer m = framed (body_of peer m)

-- a body with its length, where it isn't too long
unfoldable pub closed : List ℕ → Result (List ℕ) WireError
closed body = if nat_lt max_body (length body) then Err TooLong else Ok (framed body)

-- the spelling, where the body isn't too long
abbrev pub encoded : List ℕ → Msg → Result (List ℕ) WireError
encoded peer m = closed (body_of peer m)

-- what has a spelling: a name and fields that fit, and a body that isn't too long
abbrev pub FitsMessage : List ℕ → Msg → Type 0
FitsMessage peer m = FitsText peer × FitEach (kinds_of (kind_of m)) (fields_of m) × (length (body_of peer m) ≤ max_body)

-- the message of a spelling, and how many bytes it takes
abbrev pub decoded_of : List ℕ → Msg → Decoded
decoded_of peer m = record { peer = peer; msg = m; used = 4 + length (body_of peer m) }

-- The bytes begin with the spelling of the message, which takes so many bytes.
pub record Begins (bytes : List ℕ) (d : Decoded) : Type 0 where
  pub spelled : bytes ≡ spelling d.peer d.msg ++ drop d.used bytes
  pub used : d.used ≡ 4 + length (body_of d.peer d.msg)
  pub fits : FitsMessage d.peer d.msg

-- ---- reading

unfoldable pub body_in : List ℕ → Result (List ℕ) WireError
body_in bytes =
    if nat_lt (length bytes) 4 then Err NeedMore
    else (if nat_lt max_body (from_le_bytes w32 (take 4 bytes)) then Err TooLong
    else (if nat_lt (length (drop 4 bytes)) (from_le_bytes w32 (take 4 bytes)) then Err NeedMore
    else Ok (take (from_le_bytes w32 (take 4 bytes)) (drop 4 bytes))))

-- the field that can't be read, in a message with the tag
abbrev pub named : {A : Type 0} → ℕ → Result A ℕ → Result A WireError
named tag (Ok x) = Ok x
named tag (Err field) = Err (BadField tag field)

unfoldable pub peer_in : List ℕ → Result (List ℕ × List ℕ) WireError
peer_in body = named 0 (text_at 0 body)

abbrev pub of_kind : Option Kind → ℕ → List ℕ → Result Msg WireError
of_kind None tag bytes = Err (BadTag tag)
of_kind (Some k) tag bytes = named tag (message_at k bytes)

-- the message behind the peer's name, by a table
unfoldable pub msg_in : List Row → List ℕ → Result Msg WireError
msg_in rows [] = Err (BadField 0 1)
msg_in rows (tag ∷ bytes) = of_kind (kind_tagged tag rows) tag bytes

-- what the bytes begin with by a table: the peer's name and the message, and how many bytes they take
unfoldable pub decoded : List Row → List ℕ → Result Decoded WireError
decoded rows bytes = do
  body ← body_in bytes
  peer ← peer_in body
  msg ← msg_in rows peer.1
  Ok (record { peer = peer.0; msg = msg; used = 4 + length body })

-- ---- what a function returned, seen by view, is the answer, unless memory ran out

abbrev pub Fails : {Y : Type 0} → WireError → Result Y WireError → Type 0
Fails NoMemory answer = Unit {0}
Fails TooLong answer = answer ≡ Err TooLong
Fails NeedMore answer = answer ≡ Err NeedMore
Fails (BadField tag field) answer = answer ≡ Err (BadField tag field)
Fails (BadTag tag) answer = answer ≡ Err (BadTag tag)

abbrev pub Gives : {X Y : Type 0} → (X → Y) → Result X WireError → Result Y WireError → Type 0
Gives view (Ok x) answer = answer ≡ Ok (view x)
Gives view (Err e) answer = Fails e answer

abbrev pub in_message : ℕ → FieldError → WireError
in_message tag (field_errors.Bad field) = BadField tag field
in_message tag field_errors.NoMemory = NoMemory
