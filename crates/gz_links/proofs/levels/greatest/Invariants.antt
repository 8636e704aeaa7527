use Rattle.std.proofs.Common.{◌≡◌, drop}
use Rattle.gz_links.specs.Levels.{level_of, greatest}
use Rattle.gz_links.proofs.levels.greatest.Given as goal

abbrev pub invariant-loop-source : goal.invariant-loop-source
invariant-loop-source l =
    greatest (level_of l.journals.keys l.levels) l.greatest (drop l.source-index l.sources) ≡ greatest (level_of l.journals.keys l.levels) 0 l.sources
