-- What a search of the tree looks for.
use Rattle.std.specs.Prelude.{ℕ, List, filter, Bool, nat_le}
use Rattle.gz_fragment.specs.Fragments.{index_end}
use Rattle.gz_fragment.specs.declared.fragment.Fragment.{Fragment}

abbrev pub begins_by : ℕ → Fragment → Bool
begins_by offset f = nat_le f.name.begin offset

-- the greatest end of the fragments that begin at the offset or before it, or 0
abbrev pub end_begun : ℕ → List Fragment → ℕ
end_begun offset fs = index_end (filter (begins_by offset) fs)

abbrev pub reaches : ℕ → Fragment → Bool
reaches end f = nat_le end f.name.end
