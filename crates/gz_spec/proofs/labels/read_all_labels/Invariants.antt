use Rattle.std.proofs.Common.{◌≡◌}
use Rattle.serde_json.specs.View.{members_view}
use Rattle.gz_fields.specs.Behind.{behind}
use Rattle.gz_spec.specs.Labels.{all_labels}
use Rattle.gz_spec.proofs.labels.read_all_labels.Given as goal

abbrev pub invariant-loop-name : goal.invariant-loop-name
invariant-loop-name l =
    behind l.labels.items (all_labels l.path (members_view l.name-iterator)) ≡ all_labels l.fn.path (members_view l.fn.members.entries)
