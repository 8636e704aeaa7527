use Rattle.std.proofs.Common.{◌≡◌, drop}
use Rattle.serde_json.specs.View.{items_view}
use Rattle.gz_fields.specs.Behind.{behind}
use Rattle.gz_spec.specs.Labels.{labels_from}
use Rattle.gz_spec.proofs.labels.read_values.Given as goal

abbrev pub invariant-loop-i : goal.invariant-loop-i
invariant-loop-i l =
    behind l.labels.items (labels_from l.path l.name l.i (items_view (drop l.i l.values))) ≡ behind l.fn.labels.items (labels_from l.path l.name 0 (items_view l.values))
