use Rattle.std.proofs.Common.{◌≡◌, drop, codes, nat_lt}
use Rattle.std.specs.List.{list_all}
use Rattle.gz_label.specs.Labels.{values_of}
use Rattle.gz_links.specs.Levels.{level_of}
use Rattle.gz_links.proofs.levels.climbs.Given as goal

abbrev pub invariant-loop-label : goal.invariant-loop-label
invariant-loop-label l =
    list_all (λ o. nat_lt l.greatest (level_of l.journals.keys l.levels o)) (values_of (codes "output") (drop l.label-index l.label-items)) ≡ list_all (λ o. nat_lt l.greatest (level_of l.journals.keys l.levels o)) (values_of (codes "output") l.shard.labels)
