use Rattle.std.proofs.Common.{◌≡◌, ◌++◌, drop, flat_map}
use Rattle.gz_world.specs.Report.{told_line}
use Rattle.gz_world.proofs.report.print_all_told.Given as goal

abbrev pub invariant-loop-told : goal.invariant-loop-told
invariant-loop-told l = l.out ++ flat_map told_line (drop l.told-index l.all) ≡ l.fn.out ++ flat_map told_line l.all
