use Rattle.std.proofs.Common.{◌<◌, arith}
use Rattle.gz_alloc.specs.Flow.{cells_of}
use Rattle.gz_alloc.proofs.SearchLemmas.{start_grows, passed_ranks_more, whole_at_end}
use Rattle.gz_alloc.proofs.search.Search.run.Goals as goal

pub loop-head-preserved : goal.loop-head-preserved
loop-head-preserved c =
    let few : c.loop-head.head < 64 = omega arith in
    record {
      start = start_grows c.args.network.now (cells_of c.args.flags.now) c.loop-head.self c.visit_rank.new.self c.loop-head.invariant.start c.visit_rank.ensures.advances;
      passed = passed_ranks_more c.args.network.now (cells_of c.args.flags.now) c.loop-head.self c.visit_rank.new.self c.visit_rank.ensures.advances.grows c.loop-head.head few c.visit_rank.ensures.later c.loop-head.invariant.passed c.in-None.ensures.passed;
    }

pub returns-clause-whole : goal.returns-clause-whole
returns-clause-whole c =
    whole_at_end c.args.network.now (cells_of c.args.flags.now) c.loop-head.self c.loop-head.invariant.start (λ r lr. c.loop-head.invariant.passed r (omega arith))
