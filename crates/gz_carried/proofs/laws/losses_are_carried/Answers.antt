use Rattle.gz_carried.proofs.Sentences.{crashes, converges}
use Rattle.gz_carried.proofs.laws.losses_are_carried.Goals as goal

pub returns-clause-crash : goal.returns-clause-crash
returns-clause-crash c = crashes

pub returns-clause-converge : goal.returns-clause-converge
returns-clause-converge c = converges
