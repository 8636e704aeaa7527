use Rattle.std.proofs.Common.{◌≡◌, ◌++◌, drop, map}
use Rattle.serde_json.specs.View.{view}
use Rattle.gz_print.specs.Printed.{source_data}
use Rattle.gz_print.proofs.print.source_values.Given as goal

abbrev pub invariant-loop-source : goal.invariant-loop-source
invariant-loop-source l = map view l.values.items ++ map source_data (drop l.source-index l.sources) ≡ map source_data l.sources
