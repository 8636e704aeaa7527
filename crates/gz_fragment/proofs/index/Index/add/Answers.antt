use Rattle.std.proofs.Common.{sym, subst}
use Rattle.gz_fragment.specs.Fragments.{AreAscending, AreNamed, IsNamed}
use Rattle.gz_fragment.proofs.ListLemmas.{ascending_added, named_added}
use Rattle.gz_fragment.proofs.index.Index.add.Goals as goal

pub invariant_of-self : goal.invariant_of-self
invariant_of-self c =
    let fragment = c.in_ok-node.node.value.fragment in
    let ascending : AreAscending c.replace-tree.result = rw c.replace-tree.ensures.value c.self.invariant.0 in
    let named : AreNamed c.replace-tree.result = rw c.replace-tree.ensures.value c.self.invariant.1 in
    let new : IsNamed fragment = subst IsNamed (sym c.in_ok-node.ensures.0) c.in_ok-check.ensures.named in
    rw c.insert.ensures (ascending_added fragment c.replace-tree.result ascending, named_added fragment c.replace-tree.result new named)
