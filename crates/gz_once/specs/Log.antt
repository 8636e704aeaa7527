-- A recovery log, the newest entry first. An entry is one whole append: a handoff or a commit.
use Rattle.std.specs.Prelude.{ℕ, ◌+◌, ◌==◌, List, [], ◌∷◌, ◌++◌, length, if◌then◌else◌, Option, Some, None, Bool, true, false, ◌&&◌}
use Rattle.gz_reader.specs.Reader.{Line, Message}
use Rattle.gz_once.specs.Applications.{App, lines_to, number, parts}

-- One transaction. Its lines are those of `emitted`, numbered from `first`; its acknowledgement has the next clock.
pub record Transaction : Type 0 where
  pub author : ℕ
  pub seq : ℕ
  pub producer : ℕ
  pub first : ℕ
  pub emitted : List ℕ
  pub state : ℕ
  pub offsets : ℕ → ℕ
  pub width : ℕ
  pub size : ℕ

abbrev pub ack : Transaction → ℕ
ack x = x.first + length x.emitted

abbrev pub lines : App → Transaction → ℕ → List Line
lines g x j = lines_to g j (number x.first x.emitted)

abbrev pub some_lines : List Line → Bool
some_lines [] = false
some_lines (l ∷ ls) = true

-- it has lines, and so an intent, for the output j
abbrev pub needs : App → Transaction → ℕ → Bool
needs g x j = some_lines (lines g x j)

-- an author's handoff, or a commit; each has the log's next number
pub data Entry : Type 0 where
  Handed : (author seq : ℕ) → Entry
  Committed : (x : Transaction) → Entry

abbrev pub by : Entry → ℕ
by (Handed a k) = a
by (Committed x) = x.author

-- an entry is one handoff, or a commit's operations
abbrev pub operations : Entry → ℕ
operations (Handed a k) = 1
operations (Committed x) = x.width + 1

-- its length (of a handoff any positive one does)
abbrev pub bytes : Entry → ℕ
bytes (Handed a k) = k + 1
bytes (Committed x) = x.size + 1

-- the number of records
abbrev pub count : List Entry → ℕ
count [] = 0
count (e ∷ es) = count es + operations e

abbrev pub end_of : List Entry → ℕ
end_of [] = 0
end_of (e ∷ es) = end_of es + bytes e

-- what the last handoff has put into the register `author`
abbrev pub author_of : List Entry → ℕ
author_of [] = 0
author_of (Handed a k ∷ es) = a
author_of (Committed x ∷ es) = author_of es

abbrev pub last : List Entry → Option Transaction
last [] = None
last (Handed a k ∷ es) = last es
last (Committed x ∷ es) = Some x

abbrev pub state_of : Option Transaction → ℕ
state_of None = 0
state_of (Some x) = x.state

abbrev pub offsets_of : App → Option Transaction → ℕ → ℕ
offsets_of g None = g.begin
offsets_of g (Some x) = x.offsets

abbrev pub store_of : List Entry → ℕ
store_of es = state_of (last es)

-- the recovery log's rule: a record has the next number, and its author is in force or it is a handoff; others are passed over
abbrev pub is_next : List Entry → Entry → Bool
is_next es (Handed a k) = k == count es + 1
is_next es (Committed x) = (x.seq == count es + 1) && (x.author == author_of es)

abbrev pub accepted : List Entry → List Entry
accepted [] = []
accepted (e ∷ es) = if is_next (accepted es) e then e ∷ accepted es else accepted es

-- what a commit right behind es consumes
abbrev pub consumed : App → (ℕ → List Message) → List Entry → Transaction → List Message
consumed g texts es x = parts g g.sources texts (offsets_of g (last es)) x.offsets

-- the messages that the commits consumed, in order
abbrev pub read_order : App → (ℕ → List Message) → List Entry → List Message
read_order g texts [] = []
read_order g texts (Handed a k ∷ es) = read_order g texts es
read_order g texts (Committed x ∷ es) = read_order g texts es ++ consumed g texts es x
