-- How shards are wired, and what a settle comes to.
use Rattle.std.specs.Prelude.{◌≡◌, List, [], ◌∷◌, map, true, false, ⊤, ◌⊎◌}
use Rattle.gz_promise.specs.Journals.{Journal}
use Rattle.gz_promise.specs.Order.{Wiring}
use Rattle.gz_promise.specs.Promise.{ReadsAll}
use Rattle.gz_plain.specs.Promise.{account_of, IfKept}
use Rattle.gz_plain.specs.Shards.{Shard, untaken, has_room}

-- the wiring of a shard, which steps leave
abbrev pub wiring_of : Shard → Wiring
wiring_of s = record { id = s.id; sources = s.sources; outputs = s.outputs }

abbrev pub wirings_of : List Shard → List Wiring
wirings_of ss = map (λ s. wiring_of s) ss

-- A shard is at rest: it is disabled, has no clocks left for what it would take, or nothing that its sources have
-- committed is left to read.
abbrev pub Rests : List Journal → Shard → Type 0
Rests js s = (s.is_disabled ≡ true) ⊎ ((has_room (untaken js s) s ≡ false) ⊎ ReadsAll (account_of js s))

-- every shard that kept its definition is at rest
abbrev pub AllRest : List Journal → List Shard → Type 0
AllRest js [] = ⊤
AllRest js (s ∷ ss) = IfKept s.past (Rests js s) × AllRest js ss
