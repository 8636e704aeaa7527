use Rattle.gz_alloc.proofs.PlainLemmas.{greatest_at}
use Rattle.gz_alloc.proofs.plain.greatest_of.Goals as goal

pub returns : goal.returns
returns c = greatest_at c.args.problem.now c.in_ok-network.ensures.problem c.in_ok-network.network c.in_ok-network.ensures.numbers _ c.search-most.result c.search-most.ensures.attained c.search-most.ensures.most
