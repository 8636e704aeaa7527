use Rattle.std.proofs.Common.{◌≡◌, ◌++◌, drop, map}
use Rattle.serde_json.specs.View.{view}
use Rattle.gz_print.specs.Printed.{member_data}
use Rattle.gz_print.proofs.print.member_values.Given as goal

abbrev pub invariant-loop-member : goal.invariant-loop-member
invariant-loop-member l = map view l.values.items ++ map member_data (drop l.member-index l.members) ≡ map member_data l.members
