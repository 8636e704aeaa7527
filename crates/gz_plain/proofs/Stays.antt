-- What steps, rounds and settles leave: what the shards are said to be, and the names of the journals.
use Rattle.std.proofs.Common.{◌≡◌, ℕ, zero, suc, ◌+◌, List, [], ◌∷◌, ◌++◌, length, map, refl, ap, ◌∙◌, Bool, true, false, cond}
use Rattle.std.proofs.lemmas.List.{map-append}
use Rattle.gz_label.specs.declared.entry.Attempt.{Attempt}
use Rattle.gz_frame.specs.Messages.{Message}
use Rattle.gz_app.specs.Applications.{Output}
use Rattle.gz_promise.specs.Applications.{emitted}
use Rattle.gz_plain.specs.Definitions.{Definition, definition_of}
use Rattle.gz_promise.specs.Journals.{Journal, appended}
use Rattle.gz_promise.specs.Order.{Wiring}
use Rattle.gz_plain.specs.Rests.{wiring_of, wirings_of}
use Rattle.gz_plain.specs.Places.{names_of}
use Rattle.gz_plain.specs.Plain.{lines_from, ack_at}
use Rattle.gz_plain.specs.Runs.{all_empty, changed}
use Rattle.gz_plain.specs.Shards.{Shard, World, attempt_of, untaken, commit, commit_if, stepped, has_room, round, rounds, settled}
use Rattle.gz_plain.proofs.Places.{names_stay, names_empty, names_written}

-- ---- what the shards are said to be

said_room : (js : List Journal) (ms : List Message) (s : Shard) (room : Bool) → definition_of (cond room (commit js ms s) (record { journals = js; shard = s })).shard ≡ definition_of s
said_room js ms s true = refl
said_room js ms s false = refl

said_if : (js : List Journal) (ms : List Message) (s : Shard) → definition_of (commit_if js ms s).shard ≡ definition_of s
said_if js [] s = refl
said_if js (m ∷ ms) s = said_room js (m ∷ ms) s (has_room (m ∷ ms) s)

said_unless : (js : List Journal) (s : Shard) (disabled : Bool)
    → definition_of (cond disabled (record { journals = js; shard = s }) (commit_if js (untaken js s) s)).shard ≡ definition_of s
said_unless js s true = refl
said_unless js s false = said_if js (untaken js s) s

-- a step leaves it
pub definition_stepped : (js : List Journal) (s : Shard) → definition_of (stepped js s).shard ≡ definition_of s
definition_stepped js s = said_unless js s s.is_disabled

pub definitions_round : (ss : List Shard) (js : List Journal) → map definition_of (round ss js).shards ≡ map definition_of ss
definitions_round [] js = refl
definitions_round (s ∷ ss) js = rw (definition_stepped js s, definitions_round ss (stepped js s).journals) refl

pub definitions_rounds : (n : ℕ) (w : World) → map definition_of (rounds n w).shards ≡ map definition_of w.shards
definitions_rounds zero w = refl
definitions_rounds (suc n) w = definitions_rounds n (round w.shards w.journals) ∙ definitions_round w.shards w.journals

pub definitions_settled : (w : World) → map definition_of (settled w).shards ≡ map definition_of w.shards
definitions_settled w = definitions_rounds (length w.shards) w

-- ---- the wiring

-- how a shard of a definition is wired
abbrev pub wiring_said : Definition → Wiring
wiring_said d = record { id = d.id; sources = d.sources; outputs = d.outputs }

-- a step leaves it
pub wired : (js : List Journal) (s : Shard) → wiring_of (stepped js s).shard ≡ wiring_of s
wired js s = ap (λ (d : Definition). wiring_said d) (definition_stepped js s)

-- ---- the names of the journals

names_room : (js : List Journal) (ms : List Message) (s : Shard) (room : Bool)
    → names_of (cond room (commit js ms s) (record { journals = js; shard = s })).journals ≡ names_of js
names_room js ms s true =
    let os : List Output = emitted s.app s.store ms in
    names_written (attempt_of s) (length s.outputs) 0 (lines_from s.producer s.clock os) (ack_at s.producer (s.clock + length os + 1)) s.outputs js
names_room js ms s false = refl

names_if : (js : List Journal) (ms : List Message) (s : Shard) → names_of (commit_if js ms s).journals ≡ names_of js
names_if js [] s = refl
names_if js (m ∷ ms) s = names_room js (m ∷ ms) s (has_room (m ∷ ms) s)

names_unless : (js : List Journal) (s : Shard) (disabled : Bool)
    → names_of (cond disabled (record { journals = js; shard = s }) (commit_if js (untaken js s) s)).journals ≡ names_of js
names_unless js s true = refl
names_unless js s false = names_if js (untaken js s) s

-- a step leaves them
pub names_stepped : (js : List Journal) (s : Shard) → names_of (stepped js s).journals ≡ names_of js
names_stepped js s = names_unless js s s.is_disabled

pub names_round : (ss : List Shard) (js : List Journal) → names_of (round ss js).journals ≡ names_of js
names_round [] js = refl
names_round (s ∷ ss) js = names_round ss (stepped js s).journals ∙ names_stepped js s

pub names_rounds : (n : ℕ) (w : World) → names_of (rounds n w).journals ≡ names_of w.journals
names_rounds zero w = refl
names_rounds (suc n) w = names_rounds n (round w.shards w.journals) ∙ names_round w.shards w.journals

pub names_settled : (w : World) → names_of (settled w).journals ≡ names_of w.journals
names_settled w = names_rounds (length w.shards) w

-- an append leaves them
pub names_appended : (attempt : Attempt) (name bytes : List ℕ) (js : List Journal) → names_of (appended attempt name bytes js) ≡ names_of js
names_appended attempt name bytes js = names_stay attempt name bytes js

-- a change puts those of its journals behind them
pub names_changed : (names : List (List ℕ)) (ds : List Definition) (w : World) → names_of (changed names ds w).journals ≡ names_of w.journals ++ names
names_changed names ds w =
    map-append (λ (j : Journal). j.name) w.journals (all_empty names) ∙ ap (λ (more : List (List ℕ)). names_of w.journals ++ more) (names_empty names)
