use Rattle.std.proofs.Common.{◌≡◌, take}
use Rattle.gz_spec.proofs.source.copy_sources.Given as goal

abbrev pub invariant-loop-source : goal.invariant-loop-source
invariant-loop-source l = l.copied.items ≡ take l.source-index l.sources
