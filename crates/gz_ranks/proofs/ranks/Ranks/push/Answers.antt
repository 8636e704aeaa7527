use Rattle.gz_ranks.proofs.NumberLemmas.{ascending_pushed}
use Rattle.gz_ranks.proofs.ranks.Ranks.push.Goals as goal

pub invariant_of-self : goal.invariant_of-self
invariant_of-self c =
    ascending_pushed c.with_last.ensures c.replace-tree.ensures.value c.slot.view_is c.self.view_is c.self.invariant c.requires.above
