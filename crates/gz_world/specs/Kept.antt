-- What is promised of the world of a run.
use Rattle.gz_plain.specs.Promise.{AllCommitLines, AllExactlyOnce, AllServe}
use Rattle.gz_plain.specs.Rests.{AllRest}
use Rattle.gz_plain.specs.Reports.{AllTellCaught, AllUpToDate}
use Rattle.std.specs.Prelude.{Option}
use Rattle.gz_converge.specs.declared.answer.Converged.{Converged}
use Rattle.gz_world.specs.Worlds.{World, IsRun, converged_if, settled}

pub record KeepsPromise (w : World) : Type 0 where
  -- it is what its events made of the specifications that it began with
  pub run : IsRun w
  -- each shard that kept its definition is exactly once, and nothing is missing at the readers of its outputs
  pub once : AllExactlyOnce w.cluster.journals w.cluster.shards
  -- Its users are served: of a client that writes transactions, or messages one by one, a prefix of its messages is read,
  -- each once, in its order; and with `count` a key's number is how often it stands in the read order.
  pub users : AllServe w.cluster.journals w.cluster.shards
  -- each offset of a commit is the end of a whole line of its source
  pub lines : AllCommitLines w.cluster.journals w.cluster.shards
  -- a settle ends with each of these shards at rest, whatever its converge answers
  pub rests : (answer : Option Converged) → AllRest (settled (converged_if answer w)).cluster.journals (settled (converged_if answer w)).cluster.shards
  -- each of them is told `caught` exactly where nothing that its sources have committed is left to read
  pub told : AllTellCaught w.cluster.journals w.cluster.shards
  -- and none is behind after a settle: it is caught, disabled, or has no clocks left
  pub settled_told : (answer : Option Converged) → AllUpToDate (settled (converged_if answer w)).cluster.journals (settled (converged_if answer w)).cluster.shards
