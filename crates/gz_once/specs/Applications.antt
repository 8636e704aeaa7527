-- Any application, and its sources and outputs: states, values and producers are numbers. What is said of it holds of every
-- application whose states and outputs are told by numbers.
use Rattle.std.specs.Prelude.{ℕ, zero, suc, ◌+◌, ◌==◌, nat_le, nat_lt, List, [], ◌∷◌, ◌++◌, length, drop, if◌then◌else◌, Bool, true, ◌&&◌}
use Rattle.gz_reader.specs.Reader.{Line, Message}
use Rattle.gz_reader.specs.Reader.{committed}

-- how a message changes a state and what it emits; which output a value goes to
pub record App : Type 0 where
  pub apply : ℕ → Message → ℕ
  pub emit : ℕ → Message → List ℕ
  pub choose : ℕ → ℕ
  pub outputs : ℕ
  pub sources : ℕ
  -- producers that no draw can be: those of clients
  pub foreign : ℕ → Bool
  -- where the source k is read from, and the length of a message's line, less one
  pub begin : ℕ → ℕ
  pub line : Message → ℕ

abbrev pub fold : App → ℕ → List Message → ℕ
fold g x [] = x
fold g x (m ∷ ms) = fold g (g.apply x m) ms

abbrev pub emits : App → ℕ → List Message → List ℕ
emits g x [] = []
emits g x (m ∷ ms) = g.emit x m ++ emits g (g.apply x m) ms

-- a value goes to the output j
abbrev pub goes : App → ℕ → ℕ → Bool
goes g j v = (g.choose v == j) && nat_lt j g.outputs

abbrev pub values_to : App → ℕ → List ℕ → List ℕ
values_to g j [] = []
values_to g j (v ∷ vs) = if goes g j v then v ∷ values_to g j vs else values_to g j vs

abbrev pub lines_to : App → ℕ → List Line → List Line
lines_to g j [] = []
lines_to g j (l ∷ ls) = if goes g j l.value then l ∷ lines_to g j ls else lines_to g j ls

-- clocks by tick
abbrev pub number : ℕ → List ℕ → List Line
number c [] = []
number c (v ∷ vs) = record { clock = c; value = v } ∷ number (c + 1) vs

-- the first n of a text, which is its newest first
abbrev pub prefix : {A : Type 0} → ℕ → List A → List A
prefix n [] = []
prefix n (x ∷ xs) = if nat_le (length (x ∷ xs)) n then x ∷ xs else prefix n xs

-- the end of the text of source k
abbrev pub reach : App → ℕ → List Message → ℕ
reach g k [] = g.begin k
reach g k (m ∷ t) = reach g k t + g.line m + 1

-- the whole lines of source k up to an offset
abbrev pub upto : App → ℕ → ℕ → List Message → List Message
upto g k n [] = []
upto g k n (m ∷ t) = if nat_le (reach g k (m ∷ t)) n then m ∷ t else upto g k n t

-- the committed messages of source k whose releasing line ends behind the one offset, and not behind the other
abbrev pub part : App → ℕ → List Message → ℕ → ℕ → List Message
part g k t from to = drop (length (committed (upto g k from t))) (committed (upto g k to t))

-- the parts of the first n sources, in their order
abbrev pub parts : App → ℕ → (ℕ → List Message) → (ℕ → ℕ) → (ℕ → ℕ) → List Message
parts g zero texts from to = []
parts g (suc n) texts from to = parts g n texts from to ++ part g n (texts n) (from n) (to n)

abbrev pub each_below : ℕ → (ℕ → Bool) → Bool
each_below zero f = true
each_below (suc n) f = f n && each_below n f
