use Rattle.serde_json.specs.View.{view}
use Rattle.gz_spec.proofs.Readable.{journal_made}
use Rattle.gz_spec.proofs.journal.read_rest.Goals as goal

pub invariant_of-result : goal.invariant_of-result
invariant_of-result c =
    journal_made c.args.path.now c.args.name (view c.args.value.now) c.in_ok-replication.replication c.in_ok-labels.labels
    c.in_ok-fragment_length.fragment_length c.requires c.in_ok-replication.ensures c.in_ok-labels.ensures
    c.in_ok-fragment_length.ensures
