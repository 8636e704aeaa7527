-- The index of a journal's fragments: a list of named contents, in the order of their names.
use Rattle.std.specs.Prelude.{◌≡◌, ℕ, ◌+◌, ◌&&◌, List, [], ◌∷◌, length, filter, Bool, Option, Some, None, if◌then◌else◌, nat_le, nat_lt, max}
use Rattle.std.specs.Ordering.{nat_cmp, ordering_then, match_ordering, is_lt}
use Rattle.std.specs.declared.cmp.Ordering.{Ordering}
use Rattle.std.specs.declared.cmp.Ordering.TheVariants.{Less}
use Rattle.std.specs.Cmp.Lexicographic.{slice_cmp}
use Rattle.sha1.specs.Sha1.{sha1}
use Rattle.gz_fragment.specs.Names.{FragmentName, name_cmp}
use Rattle.gz_fragment.specs.declared.fragment.Fragment.{Fragment}

-- with one more, in its place. A name that is there already changes nothing
abbrev pub added : Fragment → List Fragment → List Fragment
added f [] = f ∷ []
added f (g ∷ gs) = match_ordering (name_cmp f.name g.name) (f ∷ g ∷ gs) (g ∷ gs) (g ∷ added f gs)

-- the greatest end, or 0
abbrev pub index_end : List Fragment → ℕ
index_end [] = 0
index_end (f ∷ fs) = max f.name.end (index_end fs)

abbrev pub is_over : ℕ → Fragment → Bool
is_over offset f = nat_le f.name.begin offset && nat_lt offset f.name.end

-- the order of preference: the greater end, then the lesser begin, then the lesser sum
abbrev pub choice_cmp : FragmentName → FragmentName → Ordering
choice_cmp a b = ordering_then (nat_cmp b.end a.end) (ordering_then (nat_cmp a.begin b.begin) (slice_cmp nat_cmp a.sum b.sum))

abbrev pub preferred : Fragment → Option Fragment → Option Fragment
preferred f None = Some f
preferred f (Some g) = if is_lt (choice_cmp g.name f.name) then Some g else Some f

abbrev pub best_of : List Fragment → Option Fragment
best_of [] = None
best_of (f ∷ fs) = preferred f (best_of fs)

-- of the fragments over the offset the best one
abbrev pub covering : ℕ → List Fragment → Option Fragment
covering offset fs = best_of (filter (is_over offset) fs)

-- ---- what an index keeps

-- the name says where the content ends, and its sum
abbrev pub IsNamed : Fragment → Type 0
IsNamed f = (f.name.begin + length f.content ≡ f.name.end) × (f.name.sum ≡ sha1 f.content)

abbrev pub AreNamed : List Fragment → Type 0
AreNamed [] = Unit {0}
AreNamed (f ∷ fs) = IsNamed f × AreNamed fs

-- each name is greater than this one
abbrev pub AreAbove : FragmentName → List Fragment → Type 0
AreAbove name [] = Unit {0}
AreAbove name (f ∷ fs) = (name_cmp name f.name ≡ Less) × AreAbove name fs

-- the names ascend strictly, so none stands twice
abbrev pub AreAscending : List Fragment → Type 0
AreAscending [] = Unit {0}
AreAscending (f ∷ fs) = AreAbove f.name fs × AreAscending fs
