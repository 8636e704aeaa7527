use Rattle.std.proofs.Common.{◌≡◌, drop, codes}
use Rattle.std.specs.List.{list_all}
use Rattle.gz_label.specs.Labels.{values_of}
use Rattle.gz_links.specs.Links.{framing_at, is_lines}
use Rattle.gz_links.proofs.links.are_lines.Given as goal

abbrev pub invariant-loop-label : goal.invariant-loop-label
invariant-loop-label l =
    list_all (λ o. is_lines (framing_at l.journals o)) (values_of (codes "output") (drop l.label-index l.labels)) ≡ list_all (λ o. is_lines (framing_at l.journals o)) (values_of (codes "output") l.labels)
