-- What may happen to journals and shards, one thing after another.
use Rattle.std.specs.Prelude.{◌≡◌, ℕ, ◌+◌, ◌-◌, ◌<◌, ◌^◌, List, [], ◌∷◌, ◌++◌, length, map, Bool, true, false, if◌then◌else◌, Some, ⊤}
use Rattle.std.specs.Str.{bytes_eq}
use Rattle.gz_label.specs.declared.entry.Attempt.{Attempt}
use Rattle.gz_uuid.specs.Producer.{client_octets}
use Rattle.gz_frame.specs.Messages.{Message}
use Rattle.gz_frame.specs.Line.{line_of}
use Rattle.gz_frame.specs.Text.{message_of}
use Rattle.gz_plain.specs.Definitions.{Definition, redefined}
use Rattle.gz_promise.specs.Journals.{Journal, is_journal, appended}
use Rattle.gz_promise.specs.Names.{Distinct}
use Rattle.gz_plain.specs.Shards.{Shard, World, settled, text_of_lines}

-- ---- what there is at first

-- neither journals nor shards
abbrev pub nothing : World
nothing = record { journals = []; shards = [] }

abbrev pub all_empty : List (List ℕ) → List Journal
all_empty names = map (λ name. record { name = name; entries = [] }) names

-- empty journals of these names come behind the others
abbrev pub with_journals : List (List ℕ) → List Journal → List Journal
with_journals names js = js ++ all_empty names

-- Journals of these names come, and the shards are of these definitions from now on.
abbrev pub changed : List (List ℕ) → List Definition → World → World
changed names ds w = record {
  journals = with_journals names w.journals;
  shards = redefined (with_journals names w.journals) (1 + length w.shards) ds w.shards;
}

-- each of these is a journal
abbrev pub ArePresent : List (List ℕ) → List Journal → Type 0
ArePresent [] js = ⊤
ArePresent (n ∷ names) js = (is_journal n js ≡ true) × ArePresent names js

-- a shard's outputs are journals, and it names none of them twice
abbrev pub AreDefined : List Journal → List Definition → Type 0
AreDefined js [] = ⊤
AreDefined js (d ∷ ds) = Distinct d.outputs × ArePresent d.outputs js × AreDefined js ds

-- Among the definitions those of the shards come in their order, so that none of them is lost.
abbrev pub continues : List Definition → List Shard → Bool
continues [] [] = true
continues [] (s ∷ ss) = false
continues (d ∷ ds) [] = true
continues (d ∷ ds) (s ∷ ss) = if bytes_eq s.id d.id then continues ds ss else continues ds (s ∷ ss)

-- ---- what happens

-- messages land in the journal of a name, as an entry of an attempt, everything that is due happens, or journals and shards are changed
pub data Event : Type 0 where
  lands : Attempt → List ℕ → List Message → Event
  settles : Event
  changes : List (List ℕ) → List Definition → Event

abbrev pub after_event : Event → World → World
after_event (lands attempt name ms) w = record w { journals = appended attempt name (text_of_lines ms) w.journals }
after_event settles w = settled w
after_event (changes names ds) w = changed names ds w

abbrev pub after_events : List Event → World → World
after_events [] w = w
after_events (e ∷ es) w = after_events es (after_event e w)

-- the message's line is read as the message
abbrev pub IsLine : Message → Type 0
IsLine m = message_of (line_of m) ≡ Some m

-- messages of clients, whose lines are read
abbrev pub AreClients : List Message → Type 0
AreClients [] = ⊤
AreClients (m ∷ ms) = IsLine m × ((number : ℕ) × (m.producer ≡ client_octets number)) × AreClients ms

-- All that lands is messages of clients; shards emit to journals that are there, none is lost, and there is a
-- number for each.
abbrev pub MayHappen : Event → World → Type 0
MayHappen (lands attempt name ms) w = AreClients ms
MayHappen settles w = ⊤
MayHappen (changes names ds) w =
    AreDefined (with_journals names w.journals) ds × (continues ds w.shards ≡ true) × (length ds < 2 ^ 40 - 1)

abbrev pub MayAllHappen : List Event → World → Type 0
MayAllHappen [] w = ⊤
MayAllHappen (e ∷ es) w = MayHappen e w × MayAllHappen es (after_event e w)
