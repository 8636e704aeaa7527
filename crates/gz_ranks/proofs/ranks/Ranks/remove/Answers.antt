use Rattle.gz_ranks.proofs.NumberLemmas.{ascending_removed}
use Rattle.gz_ranks.proofs.ranks.Ranks.remove.Goals as goal

pub invariant_of-self : goal.invariant_of-self
invariant_of-self c = ascending_removed c.args.number c.removed.ensures c.replace-tree.ensures.value c.self.invariant
