use Rattle.std.proofs.lemmas.Bool.{and_parts}
use Rattle.gz_spec.specs.Records.{Specs}
use Rattle.gz_spec.specs.Valid.{are_journals, are_shards}
use Rattle.gz_links.proofs.Joining.{specs_joined}
use Rattle.gz_links.proofs.cluster.join.Goals as goal

pub join_shards-requires-clause-old : goal.join_shards-requires-clause-old
join_shards-requires-clause-old c =
    (and_parts (are_shards c.specs.inside.shards) _ (and_parts (are_journals c.specs.inside.journals) _ c.specs.invariant).1).0

pub invariant_of-both : goal.invariant_of-both
invariant_of-both c =
    let own : Specs = record {
      journals = c.specs.inside.journals;
      shards = c.specs.inside.shards;
      brokers = c.specs.inside.brokers;
      consumers = c.specs.inside.consumers;
    } in
    let more : Specs = record {
      journals = c.more.inside.journals;
      shards = c.more.inside.shards;
      brokers = c.more.inside.brokers;
      consumers = c.more.inside.consumers;
    } in
    specs_joined own more c.in_ok-join_journals.field-0 c.in_ok-join_shards.field-0 c.in_ok-copy.field-0
    c.in_ok-copy-2.field-0 c.specs.invariant c.more.invariant (λ _ _. c.in_ok-join_journals.ensures.valid)
    (λ _ _. c.in_ok-join_shards.ensures.valid) c.in_ok-copy.ensures c.in_ok-copy-2.ensures

pub invariant_of-both-2 : goal.invariant_of-both-2
invariant_of-both-2 c = invariant_of-both c.before.before.before

pub returns-clause-valid : goal.returns-clause-valid
returns-clause-valid c = invariant_of-both c.before.before.before
