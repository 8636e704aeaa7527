use Rattle.std.proofs.Common.{◌≡◌, drop}
use Rattle.std.specs.List.{list_any}
use Rattle.std.specs.Str.{bytes_eq}
use Rattle.gz_links.proofs.cycles.is_source.Given as goal

abbrev pub invariant-loop-source : goal.invariant-loop-source
invariant-loop-source l = list_any (λ u. bytes_eq u.journal l.name) (drop l.source-index l.sources) ≡ list_any (λ u. bytes_eq u.journal l.name) l.sources
