use Rattle.std.proofs.Common.{◌≡◌, drop}
use Rattle.gz_links.specs.Links.{sources_linked}
use Rattle.gz_links.proofs.links.refuse_sources.Given as goal

abbrev pub invariant-loop-k : goal.invariant-loop-k
invariant-loop-k l = sources_linked l.journals l.path l.k (drop l.k l.sources) ≡ sources_linked l.journals l.path 0 l.sources
