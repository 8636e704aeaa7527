-- What a process that begins anew does, from wherever a run has come to, until it is ready to read; and what it does then, until
-- its commit lands.
use Rattle.std.specs.Prelude.{ℕ, zero, suc, ◌≡◌, ◌<◌, List, [], ◌∷◌, ◌++◌, length, Option, Some, None, true, false, if◌then◌else◌}
use Rattle.gz_reader.specs.Reader.{Message}
use Rattle.gz_once.specs.Applications.{App, parts}
use Rattle.gz_once.specs.Log.{Transaction, Handed, last, needs, offsets_of}
use Rattle.gz_once.specs.Processes.{Extent, Reading, transaction}
use Rattle.gz_once.specs.Worlds.{World, Event, Feed, Draw, Take, Poll, Poll_at, Next, Land, Reply, Reply_at, Consume, Restart, can_read, run}

-- it plays the whole log, takes the draw d, and hands off
abbrev pub hands_off : World → ℕ → ℕ → List Event
hands_off w p d =
    Restart p ∷ Feed p (length w.shared.log) ∷ Draw d ∷ Take p d ∷ Poll p ∷ Land w.shared.count ∷ Reply p ∷ []

-- it writes the acknowledgement of a transaction to the output j, if it needs one
abbrev pub writes_one : App → Transaction → ℕ → ℕ → World → List Event
writes_one g x p j w = if needs g x j then Poll_at p j ∷ Land w.shared.count ∷ Reply_at p j ∷ [] else []

-- to the first so many outputs
abbrev pub writes_all : App → Transaction → ℕ → ℕ → World → List Event
writes_all g x p zero w = []
writes_all g x p (suc j) w = writes_all g x p j w ++ writes_one g x p j (run g (writes_all g x p j w) w)

-- the acknowledgements of the last commit, if there is one
abbrev pub acknowledges : App → Option Transaction → ℕ → World → List Event
acknowledges g None p w = []
acknowledges g (Some x) p w = writes_all g x p g.outputs w

-- all of it
abbrev pub goes_on : App → World → ℕ → ℕ → List Event
goes_on g w p d =
    let handed = run g (hands_off w p d) w in
    hands_off w p d ++ (acknowledges g (last w.shared.log) p handed ++ Next p ∷ [])

-- The process is ready to read, in force, and knows the whole log, which is as it was, with its handoff.
pub record IsReady (w v : World) (p d : ℕ) : Type 0 where
  pub phase : (v.procs p).phase ≡ Reading
  pub author : (v.procs p).author ≡ d
  pub register : v.shared.register ≡ d
  pub knows : (v.procs p).text ≡ v.shared.log
  pub log : (k : ℕ) × (v.shared.log ≡ Handed d k ∷ w.shared.log)

-- a draw that is later than all others, and no client's
abbrev pub IsLater : App → World → ℕ → Type 0
IsLater g w d = (w.shared.drawn < d) × (g.foreign d ≡ false)

-- ---- a commit

-- what was released of its sources up to these offsets
abbrev pub released : App → World → ℕ → (ℕ → ℕ) → List Message
released g w p to = parts g g.sources w.shared.sources (offsets_of g (last (w.procs p).text)) to

abbrev pub transacted : App → World → ℕ → Extent → (ℕ → ℕ) → Transaction
transacted g w p extent to = transaction g (w.procs p) extent to (released g w p to)

-- it consumes that, writes its lines, and sends its commit, which lands
abbrev pub commits : App → World → ℕ → Extent → (ℕ → ℕ) → List Event
commits g w p extent to =
    let x = transacted g w p extent to in
    let begun = run g (Consume p extent to ∷ []) w in
    let lines = writes_all g x p g.outputs begun in
    Consume p extent to ∷ (lines ++ Next p ∷ Poll p ∷ Land (run g lines begun).shared.count ∷ [])

-- the process is ready and in force, and something was released
pub record CanCommit (g : App) (w : World) (p : ℕ) (to : ℕ → ℕ) : Type 0 where
  pub phase : (w.procs p).phase ≡ Reading
  pub force : w.shared.register ≡ (w.procs p).author
  pub within : can_read g w p to ≡ true
  pub some : (m : Message) × (ms : List Message) × (released g w p to ≡ m ∷ ms)
