-- Levels of journals, which show that no shard reaches itself.
use Rattle.std.specs.Prelude.{ℕ, List, [], ◌∷◌, Bool, max, nat_lt, position, slice_get, unwrap_or, option_and_then}
use Rattle.std.specs.List.{list_all}
use Rattle.std.specs.Str.{bytes_eq}
use Rattle.gz_links.specs.Links.{outputs_of}
use Rattle.gz_spec.specs.Records.{SourceSpec, ShardSpec}

-- the level of the journal of this name, where the journals' levels stand in their order; that of any other is 0
abbrev pub level_of : List (List ℕ) → List ℕ → List ℕ → ℕ
level_of journals levels name = unwrap_or (option_and_then (slice_get levels) (position (bytes_eq name) journals)) 0

-- the greatest of a number and the levels of the sources
abbrev pub greatest : (List ℕ → ℕ) → ℕ → List SourceSpec → ℕ
greatest level n [] = n
greatest level n (u ∷ us) = greatest level (max n (level u.journal)) us

-- Each output has a greater level than each source.
abbrev pub climbs : (List ℕ → ℕ) → ShardSpec → Bool
climbs level s = list_all (λ o. nat_lt (greatest level 0 s.sources) (level o)) (outputs_of s)

abbrev pub all_climb : (List ℕ → ℕ) → List ShardSpec → Bool
all_climb level shards = list_all (climbs level) shards
