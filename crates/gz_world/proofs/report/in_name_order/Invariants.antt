use Rattle.std.proofs.Common.{◌≡◌, drop}
use Rattle.gz_world.specs.Report.{put_journals, in_name_order}
use Rattle.gz_world.proofs.report.in_name_order.Given as goal

abbrev pub invariant-loop-journal : goal.invariant-loop-journal
invariant-loop-journal l = put_journals (drop l.journal-index l.journals) l.entries.entries ≡ in_name_order l.journals
