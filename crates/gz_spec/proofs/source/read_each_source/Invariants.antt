use Rattle.std.proofs.Common.{◌≡◌, drop, []}
use Rattle.serde_json.specs.View.{items_view}
use Rattle.gz_fields.specs.Behind.{behind}
use Rattle.gz_fields.specs.Lists.{each}
use Rattle.gz_spec.specs.Shards.{next_source, journal_named}
use Rattle.gz_spec.proofs.source.read_each_source.Given as goal

abbrev pub invariant-loop-i : goal.invariant-loop-i
invariant-loop-i l =
    behind l.sources.items (each next_source journal_named l.path l.i l.used.keys (items_view (drop l.i l.values))) ≡ each next_source journal_named l.path 0 [] (items_view l.values)
