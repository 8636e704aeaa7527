use Rattle.std.proofs.Common.{sym, ap, subst}
use Rattle.gz_alloc.specs.Tally.{IsTally}
use Rattle.gz_alloc.specs.Names.{keep_pairs}
use Rattle.gz_alloc.proofs.TallyLemmas.{tally_none}
use Rattle.gz_alloc.proofs.table.greedy.Goals as goal

pub loop-pair-init : goal.loop-pair-init
loop-pair-init c = record {
  tally = subst (λ t. IsTally c.args.network.now t) (sym c.in_ok-tally.ensures) (tally_none c.args.network.now);
  rest = ap (λ t. keep_pairs c.args.problem.now c.args.now.now t.flags) c.in_ok-tally.ensures;
}
