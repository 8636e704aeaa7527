use Rattle.std.proofs.Common.{rules}
use Rattle.gz_world.proofs.Happened.{start_run}
use Rattle.gz_world.proofs.world.World.start.Goals as goal

pub returns-clause-run : goal.returns-clause-run
returns-clause-run c = start_run c.args.specs _ c.requires (search rules)
