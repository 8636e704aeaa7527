use Rattle.std.proofs.Common.{◌≡◌, ◌++◌, flat_map}
use Rattle.gz_world.specs.Report.{journal_line, in_name_order}
use Rattle.gz_world.proofs.report.print_journals.Given as goal

abbrev pub invariant-loop-name : goal.invariant-loop-name
invariant-loop-name l =
    let line = journal_line l.cluster.journals in
    l.out ++ flat_map line l.name-iterator ≡ l.fn.out ++ flat_map line (in_name_order l.journals)
