use Rattle.std.proofs.Common.{◌≡◌, ◌++◌, drop, map}
use Rattle.serde_json.specs.View.{view}
use Rattle.gz_print.specs.Printed.{journal_data}
use Rattle.gz_print.proofs.print.journal_values.Given as goal

abbrev pub invariant-loop-journal : goal.invariant-loop-journal
invariant-loop-journal l = map view l.values.items ++ map journal_data (drop l.journal-index l.journals) ≡ map journal_data l.journals
