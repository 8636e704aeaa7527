use Rattle.std.proofs.Common.{◌≤◌, sym, subst, arith}
use Rattle.gz_alloc.specs.Flow.{cells_of}
use Rattle.gz_alloc.specs.Search.{IsSearch, target}
use Rattle.gz_alloc.proofs.SearchLemmas.{begins, begins_untargeted}
use Rattle.gz_alloc.proofs.search.Search.start.Goals as goal

pub loop-m-init : goal.loop-m-init
loop-m-init c = record {
  search = subst (λ s. IsSearch c.args.network.now (cells_of c.args.flags.now) s) (sym c.in_ok-search.ensures) (begins c.args.network.now (cells_of c.args.flags.now));
  untargeted = λ b lb. subst (λ s. 64 ≤ target s b) (sym c.in_ok-search.ensures) (begins_untargeted c.args.network.now b lb);
  roomy = λ m lm p. absurd (omega arith);
}
