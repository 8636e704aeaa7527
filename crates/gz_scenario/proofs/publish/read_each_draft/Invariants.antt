use Rattle.std.proofs.Common.{◌≡◌, drop}
use Rattle.serde_json.specs.View.{items_view}
use Rattle.gz_fields.specs.Behind.{behind}
use Rattle.gz_scenario.specs.Events.{drafts_from}
use Rattle.gz_scenario.proofs.publish.read_each_draft.Given as goal

abbrev pub invariant-loop-i : goal.invariant-loop-i
invariant-loop-i l =
    behind l.drafts.items (drafts_from l.path l.i (items_view (drop l.i l.values))) ≡ drafts_from l.path 0 (items_view l.values)
