use Rattle.std.proofs.Common.{◌≡◌, ◌++◌, drop}
use Rattle.gz_world.specs.Report.{shard_lines}
use Rattle.gz_world.proofs.report.print_shards.Given as goal

abbrev pub invariant-loop-report : goal.invariant-loop-report
invariant-loop-report l = l.out ++ shard_lines (drop l.report-index l.reports) ≡ l.fn.out ++ shard_lines l.reports
