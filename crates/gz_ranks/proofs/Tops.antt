-- What is known of a tree's numbers at its top.
use Rattle.std.proofs.Common.{ℕ, ◌≡◌, ◌+◌, ◌<◌, length, length-append, arith, ◌∷◌, ◌++◌, List, Box, sym, ap, ◌∙◌, subst}
use Rattle.std.specs.declared.alloc.Global.{Global}
use Rattle.gz_ranks.specs.Numbers.{AreAscending}
use Rattle.gz_ranks.specs.Trees.{items_of}
use Rattle.gz_ranks.specs.declared.tree.Node.{Node}
use Rattle.gz_ranks.specs.declared.tree.Root.{Root}
use Rattle.gz_ranks.specs.declared.tree.Root.TheVariants.{Top}
use Rattle.gz_ranks.proofs.NumberLemmas.{ascending_left, ascending_right}

pub record AtTop (d : List ℕ) (left : List ℕ) (number : ℕ) (right : List ℕ) : Type 0 where
  pub is : d ≡ left ++ number ∷ right
  pub whole : AreAscending (left ++ number ∷ right)
  pub before : AreAscending left
  pub behind : AreAscending right
  pub count : length d ≡ length left + 1 + length right
  pub shorter_before : length left < length d
  pub shorter_behind : length right < length d

-- what a top has before it and behind it
pub at_top : {d : List ℕ} {r : Root} {node : Box Node Global} → items_of r ≡ d → r ≡ Top node → AreAscending d → AtTop d node.value.left node.value.number node.value.right
at_top {d} {r} {node} view_is top ascending =
    let is : d ≡ node.value.left ++ node.value.number ∷ node.value.right = sym view_is ∙ ap items_of top in
    let whole = subst AreAscending is ascending in
    record { is = is; whole = whole; before = ascending_left _ _ _ whole; behind = ascending_right _ _ _ whole; count = omega (arith, ap length is, length-append node.value.left (node.value.number ∷ node.value.right)); shorter_before = omega (arith, ap length is, length-append node.value.left (node.value.number ∷ node.value.right)); shorter_behind = omega (arith, ap length is, length-append node.value.left (node.value.number ∷ node.value.right)) }

-- equal parts make equal wholes
pub joined : {l m r s : List ℕ} {f g : ℕ} → l ≡ m → f ≡ g → r ≡ s → l ++ f ∷ r ≡ m ++ g ∷ s
joined a b c = λ i. a i ++ b i ∷ c i
