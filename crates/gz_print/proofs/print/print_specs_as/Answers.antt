use Rattle.gz_print.proofs.SpecsBack.{says_as, part_as_back}
use Rattle.gz_print.proofs.print.print_specs_as.Goals as goal

pub returns-clause-value : goal.returns-clause-value
returns-clause-value c = says_as c.args.event.now c.args.specs.now _ _ c.in_ok-value.ensures c.in_ok-text.ensures.reads_back

pub returns-clause-reads_back : goal.returns-clause-reads_back
returns-clause-reads_back c =
    part_as_back c.args.event.now c.args.specs.now _ _ c.in_ok-value.ensures c.in_ok-text.ensures.reads_back
    (rw (← c.specs.view_is) c.specs.invariant)
