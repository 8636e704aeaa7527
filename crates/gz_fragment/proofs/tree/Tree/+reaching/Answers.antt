use Rattle.std.proofs.Common.{◌≡◌, ◌∷◌, ◌++◌, sym, ap, ◌∙◌, arith}
use Rattle.gz_fragment.specs.Trees.{items_of}
use Rattle.gz_fragment.proofs.EndLemmas.{find_left, find_here, find_behind}
use Rattle.gz_fragment.proofs.tree.Tree.+reaching.Goals as goal

pub returns-then-end : goal.returns-then-end
returns-then-end t c =
    let is : c.args.self.now ≡ c.in-Top.node.value.left ++ c.in-Top.node.value.fragment ∷ c.in-Top.node.value.right = sym c.self.view_is ∙ ap items_of c.in-Top.is in
    rw is (cc (find_left c.args.end c.in-Top.node.value.left (c.in-Top.node.value.fragment ∷ c.in-Top.node.value.right) c.requires (grind arith)))

pub returns-then-end-2 : goal.returns-then-end-2
returns-then-end-2 t c =
    let is : c.args.self.now ≡ c.in-Top.node.value.left ++ c.in-Top.node.value.fragment ∷ c.in-Top.node.value.right = sym c.self.view_is ∙ ap items_of c.in-Top.is in
    rw is (cc (find_here c.args.end c.in-Top.node.value.left c.in-Top.node.value.fragment c.in-Top.node.value.right (grind arith) (grind arith)))

pub returns-else-end-2 : goal.returns-else-end-2
returns-else-end-2 t c =
    let is : c.args.self.now ≡ c.in-Top.node.value.left ++ c.in-Top.node.value.fragment ∷ c.in-Top.node.value.right = sym c.self.view_is ∙ ap items_of c.in-Top.is in
    rw is (cc (find_behind c.args.end c.in-Top.node.value.left c.in-Top.node.value.fragment c.in-Top.node.value.right (grind arith) (grind arith)))
