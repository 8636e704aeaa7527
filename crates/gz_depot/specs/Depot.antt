-- The node that keeps fragments, and its step.
use Rattle.std.specs.Prelude.{ℕ, ◌+◌, ◌-◌, ◌==◌, ◌&&◌, List, [], ◌∷◌, length, map, take, drop, Bool, Option, Some, None, option_map, slice_get, if◌then◌else◌, nat_le, nat_lt}
use Rattle.std.specs.Option.{option_to_list}
use Rattle.std.specs.Str.{bytes_eq}
use Rattle.gz_wire.specs.declared.msg.Msg.{Msg}
use Rattle.gz_wire.specs.declared.msg.Send.{Send}
use Rattle.gz_wire.specs.declared.msg.Msg.TheVariants.{StorePut, StoreDone, StoreGet, StoreGot, StoreList, StoreNames}
use Rattle.gz_fragment.specs.Names.{name_of, name_text, last_end}
use Rattle.gz_fragment.specs.Fragments.{added, covering}
use Rattle.gz_fragment.specs.declared.fragment.Fragment.{Fragment}

-- the fragments of each journal that has some, the journals in the order of their first puts
abbrev pub Indexes : Type 0
Indexes = List (List ℕ × List Fragment)

-- what a step leaves, and what it sends
pub record Outcome : Type 0 where
  pub indexes : Indexes
  pub sends : List Send

abbrev pub index_of : List ℕ → Indexes → List Fragment
index_of journal [] = []
index_of journal (i ∷ is) = if bytes_eq journal i.0 then i.1 else index_of journal is

abbrev pub with_index : List ℕ → List Fragment → Indexes → Indexes
with_index journal fs [] = (journal, fs) ∷ []
with_index journal fs (i ∷ is) = if bytes_eq journal i.0 then (i.0, fs) ∷ is else i ∷ with_index journal fs is

abbrev pub send : List ℕ → Msg → Send
send to msg = record { to = to; msg = msg }

-- bytes from begin to end, of which there are some, and not past the last end
abbrev pub is_span : ℕ → ℕ → List ℕ → Bool
is_span begin end content = nat_lt begin end && begin + length content == end && nat_le end last_end

-- with the content in its journal's index
abbrev pub kept : List ℕ → ℕ → List ℕ → Indexes → Indexes
kept journal begin content all =
    with_index journal (added (record { name = name_of begin content; content = content }) (index_of journal all)) all

abbrev pub on_put : List ℕ → ℕ → List ℕ → ℕ → ℕ → List ℕ → Indexes → Outcome
on_put from req journal begin end content all =
    if is_span begin end content
    then record { indexes = kept journal begin content all; sends = send from (StoreDone req journal begin end) ∷ [] }
    else record { indexes = all; sends = [] }

-- the most bytes of an answer
abbrev pub max_read : ℕ
max_read = 262_144

-- the bytes of the covering fragment from the offset on
abbrev pub got : ℕ → List ℕ → ℕ → Option Fragment → Msg
got req journal offset None = StoreGot req journal 1 offset []
got req journal offset (Some f) = StoreGot req journal 0 offset (take max_read (drop (offset - f.name.begin) f.content))

abbrev pub names_of : List Fragment → List (List ℕ)
names_of fs = map (λ f. name_text f.name) fs

-- the name of the fragment at a place, where there is one
abbrev pub name_at : ℕ → List Fragment → List (List ℕ)
name_at place fs = option_to_list (option_map (λ f. name_text f.name) (slice_get fs place))

-- what the store makes of a message from this sender, and whether that is a client, who may not put
abbrev pub step : Indexes → List ℕ → Bool → Msg → Outcome
step all from client (StorePut req journal begin end content) =
    if client then record { indexes = all; sends = [] } else on_put from req journal begin end content all
step all from client (StoreGet req journal offset) =
    record { indexes = all; sends = send from (got req journal offset (covering offset (index_of journal all))) ∷ [] }
step all from client (StoreList req journal) =
    record { indexes = all; sends = send from (StoreNames req journal (names_of (index_of journal all))) ∷ [] }
step all from client msg = record { indexes = all; sends = [] }
