use Rattle.gz_print.proofs.SpecsBack.{shard_back}
use Rattle.gz_print.proofs.print.print_shard.Goals as goal

pub returns-clause-reads_back : goal.returns-clause-reads_back
returns-clause-reads_back c =
    shard_back c.args.shard.now _ _ c.in_ok-value.ensures c.in_ok-text.ensures.reads_back (rw (← c.shard.view_is) c.shard.invariant)
