use Rattle.std.proofs.Common.{◌≡◌, ◌++◌, map, drop}
use Rattle.gz_plain.specs.Reports.{report_of}
use Rattle.gz_plain.specs.Running.{AllKept}
use Rattle.gz_plain.specs.Seen.{shards_of}
use Rattle.gz_plain.proofs.report.report_all.Given as goal

abbrev pub invariant-loop-shard : goal.invariant-loop-shard
invariant-loop-shard l =
    AllKept l.journals (drop l.shard-index l.shards)
    × (l.reports.items ++ map (report_of l.journals) (shards_of (drop l.shard-index l.shards)) ≡ map (report_of l.journals) (shards_of l.shards))
