-- The tree that keeps an index's fragments.
use Rattle.std.specs.Prelude.{◌≡◌, ◌+◌, List, [], ◌∷◌, ◌++◌, length, max}
use Rattle.gz_fragment.specs.Fragments.{index_end}
use Rattle.gz_fragment.specs.declared.fragment.Fragment.{Fragment}
use Rattle.gz_fragment.specs.declared.tree.Node.{Node}
use Rattle.gz_fragment.specs.declared.tree.Root.{Root}
use Rattle.gz_fragment.specs.declared.tree.Root.TheVariants.{Empty, Top}

-- the fragments, from the left to the right
abbrev pub items_of : Root → List Fragment
items_of Empty = []
items_of (Top node) = node.value.left ++ node.value.fragment ∷ node.value.right

-- a node has the number of its fragments and the greatest of their ends
abbrev pub IsMeasured : Root → Type 0
IsMeasured Empty = Unit {0}
IsMeasured (Top node) = (node.value.count ≡ length node.value.left + 1 + length node.value.right) × (node.value.end ≡ max (max (index_end node.value.left) node.value.fragment.name.end) (index_end node.value.right))

-- a node of this fragment alone
abbrev pub IsAlone : Fragment → Node → Type 0
IsAlone fragment node = (node.fragment ≡ fragment) × (node.left ≡ []) × (node.right ≡ [])
