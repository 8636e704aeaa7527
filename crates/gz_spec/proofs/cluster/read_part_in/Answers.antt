use Rattle.serde_json.specs.View.{view}
use Rattle.gz_spec.proofs.Sound.{part_made}
use Rattle.gz_spec.proofs.cluster.read_part_in.Goals as goal

pub invariant_of-result : goal.invariant_of-result
invariant_of-result c =
    part_made (view c.args.value.now) c.in_ok-journals.journals c.in_ok-shards.shards c.in_ok-brokers.brokers
    c.in_ok-consumers.consumers _ _ c.in_ok-journals.ensures.gives c.in_ok-shards.ensures.gives c.new-used.ensures.empty
    c.in_ok-brokers.ensures.gives c.in_ok-brokers.ensures.noted c.in_ok-consumers.ensures.gives
