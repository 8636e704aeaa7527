use Rattle.std.proofs.Common.{◌≡◌, [], drop, map}
use Rattle.gz_registry.specs.Keys.{put_named, journal_write}
use Rattle.gz_registry.proofs.writes.journal_table.Given as goal

abbrev pub invariant-loop-journal : goal.invariant-loop-journal
invariant-loop-journal l = put_named (map journal_write (drop l.journal-index l.journals)) l.table.entries ≡ put_named (map journal_write l.journals) []
