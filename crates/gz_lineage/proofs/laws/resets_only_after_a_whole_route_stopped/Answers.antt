use Rattle.gz_lineage.proofs.Resets.{resets}
use Rattle.gz_lineage.proofs.laws.resets_only_after_a_whole_route_stopped.Goals as goal

pub returns : goal.returns
returns c = resets
