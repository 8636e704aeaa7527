-- The state of an application: what it keeps of each key.
use Rattle.std.specs.Prelude.{ℕ, ◌≤◌, List, [], ◌∷◌, length, Option, Some, None}
use Rattle.std.specs.List.{AllByRecursion}
use Rattle.std.specs.List.Sorted.{IsStrictlySortedBy}
use Rattle.std.specs.Ordering.{nat_cmp}
use Rattle.std.specs.Cmp.Lexicographic.{slice_cmp}
use Rattle.std.specs.Map.{lookup}
use Rattle.std.specs.BTreeMap.{insert_entry, is_at}
use Rattle.serde_json.specs.Data.{Data, Members, object, number, string, unsigned, no_members, put}
use Rattle.gz_app.specs.declared.state.Kept.{Kept}
use Rattle.gz_app.specs.declared.state.Kept.TheVariants.{Number, Text}

-- keys, in their order, each with what is kept of it
abbrev pub State : Type 0
State = List (List ℕ × Kept)

abbrev pub kept_at : List ℕ → State → Option Kept
kept_at key state = lookup (is_at (slice_cmp nat_cmp key)) state

-- the state with this kept of the key
abbrev pub keep : List ℕ → Kept → State → State
keep key kept state = insert_entry (slice_cmp nat_cmp) state key kept

abbrev pub number_in : Option Kept → ℕ
number_in None = 0
number_in (Some (Number n)) = n
number_in (Some (Text t)) = 0

-- the number of a key, which is 0 where nothing is kept of it or a text is
abbrev pub number_at : List ℕ → State → ℕ
number_at key state = number_in (kept_at key state)

-- what is kept, as JSON
abbrev pub kept_data : Kept → Data
kept_data (Number n) = number (unsigned n)
kept_data (Text t) = string t

-- the state as the members of an object, put in one after another
abbrev pub put_all : State → Members → Members
put_all [] members = members
put_all (e ∷ state) members = put_all state (put e.0 (kept_data e.1) members)

-- the state as JSON: an object with a member for each key
abbrev pub state_data : State → Data
state_data state = object (put_all state no_members)

-- keys are in their order, each once, and have at most 1,024 bytes
pub record AreKeys (keys : List (List ℕ)) : Type 0 where
  pub ordered : IsStrictlySortedBy (slice_cmp nat_cmp) keys
  pub short : AllByRecursion (λ key. length key ≤ 1024) keys
