use Rattle.std.proofs.Common.{sym, ◌∙◌}
use Rattle.gz_links.specs.Levels.{level_of}
use Rattle.gz_links.proofs.Climbs.{none_returns}
use Rattle.gz_links.proofs.levels.is_ordered.Goals as goal

pub returns : goal.returns
returns c = λ up. none_returns (level_of c.in_ok-journals.journals.keys c.as_slice.result.now) c.args.shards.now (sym c.all_climb-ordered.ensures ∙ up)
