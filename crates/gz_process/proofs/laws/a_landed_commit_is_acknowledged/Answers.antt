use Rattle.gz_process.proofs.Committing.{landed}
use Rattle.gz_process.proofs.laws.a_landed_commit_is_acknowledged.Goals as goal

pub returns : goal.returns
returns c = landed
