use Rattle.std.proofs.Common.{◌≡◌, ◌++◌, drop, map}
use Rattle.serde_json.specs.Data.{string}
use Rattle.serde_json.specs.View.{view}
use Rattle.gz_print.specs.Printed.{first_values}
use Rattle.gz_print.proofs.print.first_values.Given as goal

abbrev pub invariant-loop-label : goal.invariant-loop-label
invariant-loop-label l = map view l.values.items ++ map string (first_values l.name (drop l.label-index l.labels)) ≡ map string (first_values l.name l.labels)
