-- Which lines are messages, and the messages of a text.
use Rattle.std.specs.Prelude.{ℕ, ◌==◌, ◌+◌, List, [], ◌∷◌, ◌++◌, length, Option, Some, None, option_map, option_and_then, Bool, false, if◌then◌else◌, is_none, nat_le, codes}
use Rattle.serde_json.specs.Data.{Data, Members}
use Rattle.serde_json.specs.Find.{get, as_str, as_object}
use Rattle.uuid.specs.Text.{parsed}
use Rattle.gz_model.specs.Lines.{newline, lines_of}
use Rattle.gz_uuid.specs.Identifier.{is_identifier, producer_of, clock_of, flags_of}
use Rattle.gz_json.specs.Json.{json_of, first_unknown}
use Rattle.gz_frame.specs.Messages.{Message, message_if}

-- the most bytes of a line, with its newline
abbrev pub max_line : ℕ
max_line = 65536

-- what stands before a newline that only ends a line
abbrev pub ended_by : List ℕ → Option (List ℕ)
ended_by [] = Some []
ended_by (b ∷ bs) = None

-- the bytes before the newline, where a newline ends the line and no other one stands in it
abbrev pub content_of : List ℕ → Option (List ℕ)
content_of [] = None
content_of (b ∷ bs) = if b == newline then ended_by bs else option_map (λ content. b ∷ content) (content_of bs)

-- the text of the member of this name
abbrev pub text_at : List ℕ → Data → Option (List ℕ)
text_at name d = option_and_then as_str (get name d)

abbrev pub names : List (List ℕ)
names = codes "key" ∷ codes "uuid" ∷ codes "value" ∷ []

abbrev pub none_unknown : Option Members → Bool
none_unknown None = false
none_unknown (Some ms) = is_none (first_unknown names ms)

-- an object with no members but key, uuid and value
abbrev pub has_only_names : Data → Bool
has_only_names d = none_unknown (as_object d)

-- the message of an identifier, a key and a value, where they are those of one
abbrev pub message_with : List ℕ → List ℕ → List ℕ → Option Message
message_with id key value =
    if is_identifier id
    then message_if (record { producer = producer_of id; clock = clock_of id; flags = flags_of id; key = key; value = value })
    else None

-- the message of an object with exactly the members key, uuid and value, all texts
abbrev pub message_in : Data → Option Message
message_in d =
    if has_only_names d
    then option_and_then (λ key. option_and_then (λ value. option_and_then (λ uuid. option_and_then (λ id.
    message_with id key value) (parsed uuid)) (text_at (codes "uuid") d)) (text_at (codes "value") d)) (text_at (codes "key") d)
    else None

-- the message of the JSON that stands before a line's newline
abbrev pub message_read : List ℕ → Option Message
message_read content = option_and_then message_in (json_of content)

-- the message that a line is, where it is one
unfoldable pub message_of : List ℕ → Option Message
message_of line = if nat_le (length line) max_line then option_and_then message_read (content_of line) else None

-- a message in a text: the offset of its line's first byte, and the offset after the line's newline
pub record Placed : Type 0 where
  pub begin : ℕ
  pub end : ℕ
  pub message : Message

-- what stands at an offset in a line of so many bytes
abbrev pub placed_at : ℕ → ℕ → Option Message → List Placed
placed_at at len None = []
placed_at at len (Some m) = record { begin = at; end = at + len; message = m } ∷ []

-- the messages of lines, of which the first begins at an offset
abbrev pub messages_in : ℕ → List (List ℕ) → List Placed
messages_in at [] = []
messages_in at (line ∷ lines) = placed_at at (length line) (message_of line) ++ messages_in (at + length line) lines

-- The messages of a text that begins at an offset. Lines that are no messages have no effect.
unfoldable pub messages_of : ℕ → List ℕ → List Placed
messages_of at text = messages_in at (lines_of text)

-- the text's last byte; of no text, what stood before it
abbrev pub last_of : ℕ → List ℕ → ℕ
last_of before [] = before
last_of before (b ∷ bs) = last_of b bs

-- a text of whole lines: it is empty, or ends with a newline
abbrev pub is_whole : List ℕ → Bool
is_whole text = last_of newline text == newline
