use Rattle.std.proofs.Common.{◌≡◌, ℕ, ◌+◌, ◌<◌, ◌≤◌, sym, ◌∙◌, subst, arith}
use Rattle.gz_alloc.specs.Flow.{cells_of, members}
use Rattle.gz_alloc.specs.Search.{Marks, Advances, IsPassedAt, rank}
use Rattle.gz_alloc.proofs.SearchLemmas.{advances_trans, later_more, passed_at_more, passed_at_other}
use Rattle.gz_alloc.proofs.search.Search.visit_rank.Goals as goal
use Rattle.gz_alloc.proofs.search.Search.visit_rank.Goals.{then-rank-head+in-None, else-rank-head}

pub loop-t-preserved : goal.loop-t-preserved
loop-t-preserved c =
    let Kept : Marks → Type 0 = λ new. record {
      advances : Advances c.args.network.now (cells_of c.args.flags.now) c.args.self.now new;
      later : (m : ℕ) → 64 ≤ rank c.args.self.now m → rank new m < 64 → c.args.head < rank new m;
      passed : IsPassedAt c.args.network.now (cells_of c.args.flags.now) new c.args.head (c.loop-t.t + 1);
    } in
    elim c.if-rank-head.branch [
      | then-rank-head+in-None w ↦
          let at : rank c.loop-t.self c.loop-t.t ≡ c.args.head = sym c.rank.ensures ∙ w.if-rank-head.true in
          let in_range : c.loop-t.t < members c.args.network.now = omega arith in
          let known : rank c.loop-t.self c.loop-t.t < c.loop-t.self.found = c.loop-t.invariant.advances.search.below c.loop-t.t in_range (omega arith) in
          let low : c.args.head < c.loop-t.self.found = omega arith in
          subst Kept (sym w.self-is) (record {
            advances = advances_trans c.args.network.now (cells_of c.args.flags.now) c.args.self.now c.loop-t.self w.visit_all.new.self c.loop-t.invariant.advances w.visit_all.ensures.advances;
            later = later_more c.args.self.now c.loop-t.self w.visit_all.new.self w.visit_all.ensures.advances.grows c.args.head low c.loop-t.invariant.later;
            passed = passed_at_more c.args.network.now (cells_of c.args.flags.now) c.loop-t.self w.visit_all.new.self w.visit_all.ensures.advances.grows c.args.head c.loop-t.t c.requires.head low c.loop-t.invariant.passed w.in-None.ensures.passed;
          })
      | else-rank-head w ↦
          subst Kept (sym w.self-is) (record {
            advances = c.loop-t.invariant.advances;
            later = c.loop-t.invariant.later;
            passed = passed_at_other c.args.network.now (cells_of c.args.flags.now) c.loop-t.self c.args.head c.loop-t.t (λ e. w.if-rank-head.false (c.rank.ensures ∙ e)) c.loop-t.invariant.passed;
          })
    ]
