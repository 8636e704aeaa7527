use Rattle.std.proofs.Common.{below_more}
use Rattle.gz_alloc.specs.Flow.{cells_of}
use Rattle.gz_alloc.proofs.SearchLemmas.{advances_trans, passed_grows}
use Rattle.gz_alloc.proofs.search.Search.visit_all.Goals as goal

pub loop-b-preserved : goal.loop-b-preserved
loop-b-preserved c = record {
  advances = advances_trans c.args.network.now (cells_of c.args.flags.now) c.args.self.now c.loop-b.self c.visit-wanted.new.self c.loop-b.invariant.advances c.visit-wanted.ensures.advances;
  passed = below_more _ _
      (λ b lb. passed_grows c.args.network.now (cells_of c.args.flags.now) c.loop-b.self c.visit-wanted.new.self c.visit-wanted.ensures.advances.grows c.args.t b (c.loop-b.invariant.passed b lb))
      (c.visit-wanted.ensures.passed c.if-wanted.false);
}
