use Rattle.std.proofs.Common.{ap, ◌∙◌}
use Rattle.gz_spec.specs.Records.{Specs}
use Rattle.gz_plain.specs.Places.{names_of}
use Rattle.gz_world.proofs.Changes.{MayChange, may_change, rest_names}
use Rattle.gz_world.proofs.start.change.Goals as goal

pub change-requires : goal.change-requires
change-requires c =
    let named = rest_names c.args.specs.now c.args.there c.in_ok-names.names.items (names_of c.args.cluster.now.journals) c.as_slice.result.now (c.as_slice.ensures ∙ ap (λ (s : Specs). s.journals) c.specs.view_is) c.in_ok-names.ensures c.requires.names in
    let same = rw (c.as_slice-2.ensures ∙ ap (λ (s : Specs). s.shards) c.specs.view_is) at c.in_ok-definitions.ensures.value in
    let may : MayChange c.in_ok-names.names.items c.in_ok-definitions.definitions.items c.args.cluster.now =
    may_change c.args.specs.now c.in_ok-names.names.items c.in_ok-definitions.definitions.items c.args.cluster.now (rw (← c.specs.view_is) c.specs.invariant) c.requires.linked named same c.requires.few in
    record { names = may.distinct; few = may.few; offsets = c.in_ok-definitions.ensures.small; linked = may.linked }
