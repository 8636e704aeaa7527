-- Every message that is taken from a text is a message.
use Rattle.std.proofs.Common.{◌≡◌, ℕ, ◌+◌, List, [], ◌∷◌, ◌++◌, length, filter, refl, sym, subst, Bool, true, false, cond, Option, Some, None, nat_le}
use Rattle.std.specs.Prelude.{⊤, option_and_then, codes}
use Rattle.gz_model.specs.Lines.{lines_of}
use Rattle.gz_frame.specs.Messages.{Message, is_message, message_if}
use Rattle.gz_frame.specs.Release.{Release}
use Rattle.gz_frame.specs.Text.{Placed, messages_of, messages_in, placed_at, message_of, message_in, message_read, message_with, content_of, max_line, text_at, has_only_names}
use Rattle.serde_json.specs.Data.{Data}
use Rattle.uuid.specs.Text.{parsed}
use Rattle.gz_uuid.specs.Identifier.{is_identifier, producer_of, clock_of, flags_of}
use Rattle.gz_json.specs.Json.{json_of}
use Rattle.gz_promise.specs.Parts.{part, is_between}
use Rattle.gz_sequencer.specs.Committed.{messages_alone, released_in}
use Rattle.gz_promise.specs.Journals.{Journal}
use Rattle.gz_promise.specs.Sources.{Source, all_committed, parts, committed, text_from}
use Rattle.gz_sequencer.proofs.Produced.{Each, each_two, each_behind, messages_behind}

abbrev pub IsMessage : Message → Type 0
IsMessage m = is_message m ≡ true

abbrev IfMessage : Option Message → Type 0
IfMessage None = ⊤
IfMessage (Some m) = IsMessage m

then_message : {A : Type 0} (f : A → Option Message) (o : Option A) → ((x : A) → IfMessage (f x)) → IfMessage (option_and_then f o)
then_message f None each = tt
then_message f (Some x) each = each x

cond_message : (b : Bool) (o : Option Message) → IfMessage o → IfMessage (cond b o None)
cond_message true o is = is
cond_message false o is = tt

if_message : (m : Message) (b : Bool) → is_message m ≡ b → IfMessage (cond b (Some m) None)
if_message m true is = is
if_message m false is = tt

with_message : (id key value : List ℕ) → IfMessage (message_with id key value)
with_message id key value =
    let m : Message = record { producer = producer_of id; clock = clock_of id; flags = flags_of id; key = key; value = value } in
    cond_message (is_identifier id) (message_if m) (if_message m (is_message m) refl)

parsed_message : (key value uuid : List ℕ) → IfMessage (option_and_then (λ id. message_with id key value) (parsed uuid))
parsed_message key value uuid = then_message (λ id. message_with id key value) (parsed uuid) (λ id. with_message id key value)

uuid_message : (d : Data) (key value : List ℕ) → IfMessage (option_and_then (λ uuid. option_and_then (λ id. message_with id key value) (parsed uuid)) (text_at (codes "uuid") d))
uuid_message d key value = then_message (λ uuid. option_and_then (λ id. message_with id key value) (parsed uuid)) (text_at (codes "uuid") d) (λ uuid. parsed_message key value uuid)

value_message : (d : Data) (key : List ℕ)
    → IfMessage (option_and_then (λ value. option_and_then (λ uuid. option_and_then (λ id. message_with id key value) (parsed uuid)) (text_at (codes "uuid") d)) (text_at (codes "value") d))
value_message d key =
    then_message (λ value. option_and_then (λ uuid. option_and_then (λ id. message_with id key value) (parsed uuid)) (text_at (codes "uuid") d)) (text_at (codes "value") d)
    (λ value. uuid_message d key value)

data_message : (d : Data) → IfMessage (message_in d)
data_message d =
    let behind : List ℕ → Option Message =
    λ key. option_and_then (λ value. option_and_then (λ uuid. option_and_then (λ id. message_with id key value) (parsed uuid)) (text_at (codes "uuid") d)) (text_at (codes "value") d) in
    cond_message (has_only_names d) (option_and_then behind (text_at (codes "key") d)) (then_message behind (text_at (codes "key") d) (λ key. value_message d key))

read_message : (content : List ℕ) → IfMessage (message_read content)
read_message content = then_message (λ d. message_in d) (json_of content) (λ d. data_message d)

line_message : (line : List ℕ) → IfMessage (message_of line)
unfolding message_of
line_message line =
    cond_message (nat_le (length line) max_line) (option_and_then (λ c. message_read c) (content_of line)) (then_message (λ c. message_read c) (content_of line) (λ c. read_message c))

placed_message : (at len : ℕ) (o : Option Message) (ps : List Placed) → IfMessage o → Each IsMessage (messages_alone ps) → Each IsMessage (messages_alone (placed_at at len o ++ ps))
placed_message at len None ps is each = each
placed_message at len (Some m) ps is each = (is, each)

lines_messages : (at : ℕ) (lines : List (List ℕ)) → Each IsMessage (messages_alone (messages_in at lines))
lines_messages at [] = tt
lines_messages at (line ∷ lines) =
    placed_message at (length line) (message_of line) (messages_in (at + length line) lines) (line_message line) (lines_messages (at + length line) lines)

text_messages : (at : ℕ) (text : List ℕ) → Each IsMessage (messages_alone (messages_of at text))
unfolding messages_of
text_messages at text = lines_messages at (lines_of text)

committed_messages : (js : List Journal) (s : Source) → Each IsMessage (released_in (committed js s))
committed_messages js s =
    subst (λ (ms : List Message). Each IsMessage ms) (sym (messages_behind [] (messages_of s.from (text_from js s))))
    (each_behind IsMessage [] (messages_alone (messages_of s.from (text_from js s))) tt (text_messages s.from (text_from js s)))

part_if : (r : Release) (rs : List Release) (b : Bool) → IsMessage r.message → Each IsMessage (released_in rs) → Each IsMessage (released_in (cond b (r ∷ rs) rs))
part_if r rs true is each = (is, each)
part_if r rs false is each = each

part_messages : (from to : ℕ) (rs : List Release) → Each IsMessage (released_in rs) → Each IsMessage (part from to rs)
part_messages from to [] each = tt
part_messages from to (r ∷ rs) each = part_if r (filter (λ x. is_between from to x) rs) (is_between from to r) each.0 (part_messages from to rs each.1)

pub parts_messages : (js : List Journal) (froms tos : List ℕ) (ss : List Source) → Each IsMessage (parts froms tos (all_committed js ss))
parts_messages js [] tos ss = tt
parts_messages js (from ∷ froms) [] ss = tt
parts_messages js (from ∷ froms) (to ∷ tos) [] = tt
parts_messages js (from ∷ froms) (to ∷ tos) (s ∷ ss) =
    each_two IsMessage (part from to (committed js s)) (parts froms tos (all_committed js ss))
    (part_messages from to (committed js s) (committed_messages js s)) (parts_messages js froms tos ss)
