use Rattle.std.proofs.Common.{◌≡◌, drop, []}
use Rattle.serde_json.specs.View.{items_view}
use Rattle.gz_fields.specs.Behind.{behind}
use Rattle.gz_fields.specs.Lists.{each}
use Rattle.gz_spec.specs.Journals.{next_journal}
use Rattle.gz_spec.specs.Specs.{name_of_journal}
use Rattle.gz_spec.proofs.cluster.read_each_journal.Given as goal

abbrev pub invariant-loop-i : goal.invariant-loop-i
invariant-loop-i l =
    behind l.journals.items (each next_journal name_of_journal l.path l.i l.used.keys (items_view (drop l.i l.values))) ≡ each next_journal name_of_journal l.path 0 [] (items_view l.values)
