-- A commit's text, and what is loaded from it.
use Rattle.std.specs.Prelude.{ℕ, ◌%◌, ◌==◌, List, [], ◌∷◌, length, map, slice_index, Option, Some, None, is_some, option_map, option_and_then, if◌then◌else◌, nat_le, codes, Result, Ok, Err, ⊤, ◌≡◌}
use Rattle.std.specs.BTreeMap.{insert_entry}
use Rattle.std.specs.Cmp.Lexicographic.{slice_cmp}
use Rattle.std.specs.Ordering.{nat_cmp}
use Rattle.std.specs.Str.{bytes_eq}
use Rattle.hex.specs.Hex.{encode_lower, decode_sized}
use Rattle.hex.specs.declared.error.FromHexError.{FromHexError}
use Rattle.serde_json.specs.Data.{Data, null, string, array, object, Items, no_items, item, Members, no_members, member}
use Rattle.serde_json.specs.Find.{get, as_null, as_number, as_u64, as_str, as_array, as_object}
use Rattle.serde_json.specs.View.{items_of}
use Rattle.serde_json.specs.Written.{compact_text}
use Rattle.gz_json.specs.Json.{json_of}
use Rattle.gz_sequencer.specs.Machine.{Mark, Point}
use Rattle.gz_app.specs.States.{State, state_data}
use Rattle.gz_app.specs.declared.state.Kept.{Kept}
use Rattle.gz_app.specs.declared.state.Kept.TheVariants.{Number, Text}
use Rattle.gz_store.specs.declared.error.LoadError.{LoadError}
use Rattle.gz_store.specs.declared.error.LoadError.TheVariants as why
use Rattle.gz_recovery.specs.Operations.{text_at, number_at, number_data}
use Rattle.gz_recovery.specs.Files.{Fsm, file_at}

-- an acknowledgement that is to go into a journal: its line, with the newline
pub record Intent : Type 0 where
  pub journal : List ℕ
  pub line : List ℕ

-- what has been read of a source
pub record Source : Type 0 where
  pub journal : List ℕ
  pub point : Point

pub record Checkpoint : Type 0 where
  pub sources : List Source
  pub intents : List Intent

-- a commit: the checkpoint and the state
pub record Store : Type 0 where
  pub checkpoint : Checkpoint
  pub state : State

-- ---- as text

abbrev pub or_null : Option ℕ → Data
or_null None = null
or_null (Some n) = number_data n

abbrev pub list_data : {A : Type 0} → (A → Data) → List A → Data
list_data f xs = array (items_of (map f xs))

abbrev pub intent_data : Intent → Data
intent_data i = object (member (codes "journal") (string i.journal) (member (codes "line") (string i.line) no_members))

-- a producer, as twelve lower-case hexadecimal digits, and its mark
abbrev pub producer_data : List ℕ × Mark → Data
producer_data e =
    object (member (codes "ack") (or_null e.1.ack)
    (member (codes "id") (string (encode_lower e.0)) (member (codes "pending") (or_null e.1.pending) no_members)))

abbrev pub source_data : Source → Data
source_data s =
    object (member (codes "journal") (string s.journal)
    (member (codes "offset") (number_data s.point.offset) (member (codes "producers") (list_data producer_data s.point.producers) no_members)))

abbrev pub checkpoint_data : Checkpoint → Data
checkpoint_data c =
    object (member (codes "intents") (list_data intent_data c.intents) (member (codes "sources") (list_data source_data c.sources) no_members))

abbrev pub store_data : Store → Data
store_data s = object (member (codes "checkpoint") (checkpoint_data s.checkpoint) (member (codes "state") (state_data s.state) no_members))

-- the text of a commit: compact JSON
unfoldable pub store_text : Store → List ℕ
store_text s = compact_text (store_data s)

-- ---- read back

-- the most bytes of a key, and of a journal's name
abbrev pub max_name : ℕ
max_name = 1024

-- entries that are put into a map one after another
abbrev pub map_with : {X : Type 0} → List (List ℕ × X) → List (List ℕ × X) → List (List ℕ × X)
map_with entries [] = entries
map_with entries (e ∷ es) = map_with (insert_entry (slice_cmp nat_cmp) entries e.0 e.1) es

abbrev pub all_of : {A : Type 0} → (Data → Option A) → Items → Option (List A)
all_of f no_items = Some []
all_of f (item d ds) = option_and_then (λ x. option_map (λ xs. x ∷ xs) (all_of f ds)) (f d)

-- what is printed of the list is read back
abbrev pub IsBack : {A : Type 0} → (Data → Option A) → (A → Data) → List A → Type 0
IsBack f g xs = all_of f (items_of (map g xs)) ≡ Some xs

abbrev pub items_at : List ℕ → Data → Option Items
items_at name d = option_and_then as_array (get name d)

abbrev pub if_name : List ℕ → Option (List ℕ)
if_name text = if nat_le (length text) max_name then Some text else None

abbrev pub name_at : List ℕ → Data → Option (List ℕ)
name_at name d = option_and_then if_name (text_at name d)

abbrev pub intent_of : Data → Option Intent
intent_of d =
    option_and_then (λ journal. option_map (λ line. record { journal = journal; line = line }) (text_at (codes "line") d)) (name_at (codes "journal") d)

abbrev pub number_of : Data → Option ℕ
number_of d = option_and_then as_u64 (as_number d)

abbrev pub null_or : Data → Option (Option ℕ)
null_or d = if is_some (as_null d) then Some None else option_map (λ n. Some n) (number_of d)

abbrev pub null_or_at : List ℕ → Data → Option (Option ℕ)
null_or_at name d = option_and_then null_or (get name d)

-- a producer's octets have the multicast bit in the first one
abbrev pub if_producer : List ℕ → Option (List ℕ)
if_producer octets = if slice_index octets 0 % 2 == 1 then Some octets else None

abbrev pub octets_in : Result (List ℕ) FromHexError → Option (List ℕ)
octets_in (Ok bytes) = if_producer bytes
octets_in (Err e) = None

abbrev pub id_at : Data → Option (List ℕ)
id_at d = option_and_then (λ text. octets_in (decode_sized text 6)) (text_at (codes "id") d)

abbrev pub producer_of : Data → Option (List ℕ × Mark)
producer_of d =
    option_and_then (λ id. option_and_then (λ ack. option_map (λ pending. (id, record { ack = ack; pending = pending }))
    (null_or_at (codes "pending") d)) (null_or_at (codes "ack") d)) (id_at d)

abbrev pub producers_of : Items → Option (List (List ℕ × Mark))
producers_of ds = option_map (λ producers. map_with [] producers) (all_of producer_of ds)

abbrev pub source_of : Data → Option Source
source_of d =
    option_and_then (λ journal. option_and_then (λ offset. option_map (λ producers. record { journal = journal; point = record { offset = offset; producers = producers } })
    (option_and_then producers_of (items_at (codes "producers") d))) (number_at (codes "offset") d)) (name_at (codes "journal") d)

abbrev pub checkpoint_of : Data → Option Checkpoint
checkpoint_of d =
    option_and_then (λ intents. option_map (λ sources. record { sources = sources; intents = intents })
    (option_and_then (λ ds. all_of source_of ds) (items_at (codes "sources") d))) (option_and_then (λ ds. all_of intent_of ds) (items_at (codes "intents") d))

abbrev pub kept_as : Option ℕ → Option (List ℕ) → Option Kept
kept_as (Some n) text = Some (Number n)
kept_as None text = option_map (λ t. Text t) text

abbrev pub kept_of : Data → Option Kept
kept_of d = kept_as (number_of d) (as_str d)

-- a key, with what is kept of it
abbrev pub entry_of : List ℕ → Data → Option (List ℕ × Kept)
entry_of key d = option_and_then (λ k. option_map (λ kept. (k, kept)) (kept_of d)) (if_name key)

abbrev pub entries_of : Members → Option State
entries_of no_members = Some []
entries_of (member key d ms) = option_and_then (λ e. option_map (λ es. e ∷ es) (entries_of ms)) (entry_of key d)

abbrev pub state_of_members : Members → Option State
state_of_members ms = option_map (λ entries. map_with [] entries) (entries_of ms)

abbrev pub store_in : Data → Option Store
store_in d =
    option_and_then (λ checkpoint. option_map (λ state. record { checkpoint = checkpoint; state = state })
    (option_and_then state_of_members (option_and_then as_object (get (codes "state") d)))) (option_and_then checkpoint_of (get (codes "checkpoint") d))

abbrev pub store_if : List ℕ → Store → Option Store
store_if text s = if bytes_eq (store_text s) text then Some s else None

-- The store whose text this is, byte by byte.
unfoldable pub store_read : List ℕ → Option Store
store_read text = option_and_then (store_if text) (option_and_then store_in (json_of text))

-- ---- what is loaded

pub data Loaded : Type 0 where
  NoState : Loaded
  BadState : Loaded
  Good : (store : Store) → Loaded

abbrev pub loaded_as : Option Store → Loaded
loaded_as None = BadState
loaded_as (Some s) = Good s

abbrev pub loaded_from : Option (List ℕ) → Loaded
loaded_from None = NoState
loaded_from (Some text) = loaded_as (store_read text)

-- the path under which the state stands
abbrev pub state_path : List ℕ
state_path = codes "state"

-- No state where no file is at its path; a bad one where the file's text is none of a commit.
abbrev pub load : Fsm → Loaded
load s = loaded_from (file_at state_path s.files)

-- what was returned is what is loaded, unless memory ran out
abbrev pub Loads : Result Store LoadError → Loaded → Type 0
Loads (Ok store) loaded = loaded ≡ Good store
Loads (Err why.NoState) loaded = loaded ≡ NoState
Loads (Err why.BadState) loaded = loaded ≡ BadState
Loads (Err why.NoMemory) loaded = ⊤
