use Rattle.std.proofs.Common.{◌≡◌, drop, codes}
use Rattle.std.specs.List.{list_any}
use Rattle.std.specs.Str.{bytes_eq}
use Rattle.gz_label.specs.Labels.{values_of}
use Rattle.gz_links.proofs.cycles.is_any_read.Given as goal

abbrev pub invariant-loop-label : goal.invariant-loop-label
invariant-loop-label l =
    list_any (λ o. list_any (λ u. bytes_eq u.journal o) l.sources) (values_of (codes "output") (drop l.label-index l.labels)) ≡ list_any (λ o. list_any (λ u. bytes_eq u.journal o) l.sources) (values_of (codes "output") l.labels)
