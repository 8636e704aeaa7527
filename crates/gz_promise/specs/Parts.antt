-- What is released between two offsets, and what successive offsets have read.
use Rattle.std.specs.Prelude.{◌≤◌, ℕ, ◌&&◌, List, [], ◌∷◌, ◌++◌, filter, Bool, nat_lt, nat_le, ⊤}
use Rattle.gz_frame.specs.Messages.{Message}
use Rattle.gz_frame.specs.Release.{Release}
use Rattle.gz_sequencer.specs.Committed.{released_in}

-- the line that released it ends after `from` and at or before `to`
abbrev pub is_between : ℕ → ℕ → Release → Bool
is_between from to r = nat_lt from r.end && nat_le r.end to

-- the messages that are released between two offsets
abbrev pub part : ℕ → ℕ → List Release → List Message
part from to rs = released_in (filter (is_between from to) rs)

-- what offsets have read, one after another: from each to the next
abbrev pub read_of : ℕ → List ℕ → List Release → List Message
read_of from [] rs = []
read_of from (to ∷ offsets) rs = part from to rs ++ read_of to offsets rs

-- the offset up to which they have read
abbrev pub last_from : ℕ → List ℕ → ℕ
last_from from [] = from
last_from from (to ∷ offsets) = last_from to offsets

-- offsets that never fall
abbrev pub NeverFall : ℕ → List ℕ → Type 0
NeverFall from [] = ⊤
NeverFall from (to ∷ offsets) = (from ≤ to) × NeverFall to offsets
