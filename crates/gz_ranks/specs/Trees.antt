-- The tree that keeps the numbers.
use Rattle.std.specs.Prelude.{◌≡◌, ℕ, ◌+◌, List, [], ◌∷◌, ◌++◌, length}
use Rattle.gz_ranks.specs.declared.tree.Node.{Node}
use Rattle.gz_ranks.specs.declared.tree.Root.{Root}
use Rattle.gz_ranks.specs.declared.tree.Root.TheVariants.{Empty, Top}
use Rattle.gz_ranks.specs.declared.ranks.Slot.TheInside as slot

-- the numbers, from the left to the right
abbrev pub items_of : Root → List ℕ
items_of Empty = []
items_of (Top node) = node.value.left ++ node.value.number ∷ node.value.right

-- a node has the number of its numbers
abbrev pub IsCounted : Root → Type 0
IsCounted Empty = Unit {0}
IsCounted (Top node) = node.value.count ≡ length node.value.left + 1 + length node.value.right

-- a node of one number alone
abbrev pub IsAlone : Node → Type 0
IsAlone node = (node.left ≡ []) × (node.right ≡ [])

abbrev pub slot_number : slot.Inside → ℕ
slot_number a = a.node.value.number
