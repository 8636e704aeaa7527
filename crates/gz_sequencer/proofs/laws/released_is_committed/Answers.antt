use Rattle.std.proofs.Common.{List, [], ◌∷◌, arith}
use Rattle.gz_frame.specs.Text.{Placed}
use Rattle.gz_sequencer.proofs.PartHistories.{AllFrom, keeps_nothing, releases_are_committed}
use Rattle.gz_sequencer.proofs.laws.released_is_committed.Goals as goal

all_from_zero : (ps : List Placed) → AllFrom 0 ps
all_from_zero [] = tt
all_from_zero (p ∷ ps) = (omega arith, all_from_zero ps)

pub returns : goal.returns
returns c = λ ps. releases_are_committed ps [] 0 [] (all_from_zero ps) (λ q. keeps_nothing)
