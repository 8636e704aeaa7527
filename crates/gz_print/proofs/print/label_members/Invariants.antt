use Rattle.std.proofs.Common.{◌≡◌, ◌-◌, drop, length}
use Rattle.serde_json.specs.View.{members_view}
use Rattle.gz_print.specs.Printed.{label_members}
use Rattle.gz_print.proofs.print.label_members.Given as goal

abbrev pub invariant-loop-i : goal.invariant-loop-i
invariant-loop-i l = members_view l.members.entries ≡ label_members (drop (length l.labels - l.i) l.labels)
