use Rattle.gz_print.proofs.SpecsBack.{part_back}
use Rattle.gz_print.proofs.print.print_specs.Goals as goal

pub returns-clause-reads_back : goal.returns-clause-reads_back
returns-clause-reads_back c =
    part_back c.args.specs.now _ _ c.in_ok-value.ensures c.in_ok-text.ensures.reads_back
    (rw (← c.specs.view_is) c.specs.invariant)
