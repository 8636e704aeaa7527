-- Where each shard's outputs are above its sources, no shard reaches itself.
use Rattle.std.proofs.Common.{◌≡◌, ℕ, ◌<◌, ◌≤◌, max, inl, inr, List, [], ◌∷◌, length, refl, sym, ap, ◌∙◌, arith, Option, Some, None, Bool, true, slice_get, nat_lt}
use Rattle.std.specs.List.{list_all, list_any}
use Rattle.std.specs.Str.{bytes_eq}
use Rattle.std.proofs.Math.Nat.{le-max_left, le-max_right}
use Rattle.std.proofs.lemmas.Bool.{and_parts, or_cases}
use Rattle.std.proofs.lemmas.Grind.{common_steps}
use Rattle.std.proofs.lemmas.Slice.Eq.{bytes_eq-Decides}
use Rattle.gz_spec.specs.Records.{SourceSpec, ShardSpec}
use Rattle.gz_links.specs.Links.{outputs_of}
use Rattle.gz_links.specs.Cycles.{feeds_if, Reaches, next, through, first_cycle, closed, fed_rows, flag}
use Rattle.gz_links.specs.Levels.{greatest, climbs, all_climb}
use Rattle.std.proofs.lemmas.Option.{slice_get_within, get_or_from_slice_get}
use Rattle.gz_fields.proofs.Used.{not_true}
use Rattle.gz_links.proofs.Whole.{all_among}
use Rattle.gz_links.proofs.Reaching.{sound, flag_reached, first_is}

-- ---- one shard

at_least : (level : List ℕ → ℕ) (n : ℕ) (us : List SourceSpec) → n ≤ greatest level n us
at_least level n [] = omega arith
at_least level n (u ∷ us) =
    let more = at_least level (max n (level u.journal)) us in
    let here = le-max_left n (level u.journal) in
    omega (arith, more, here)

-- a journal among the sources has no greater level than the greatest
source_below : (level : List ℕ → ℕ) (n : ℕ) (us : List SourceSpec) (o : List ℕ)
    → list_any (λ u. bytes_eq u.journal o) us ≡ true → level o ≤ greatest level n us
source_below level n [] o is = absurd (cc)
source_below level n (u ∷ us) o is =
    elim (or_cases (bytes_eq u.journal o) (list_any (λ t. bytes_eq t.journal o) us) is) [
      | inl here ↦ (
          let same : level u.journal ≡ level o = ap level ((bytes_eq-Decides u.journal o).0 here) in
          let high = le-max_right n (level u.journal) in
          let more = at_least level (max n (level u.journal)) us in
          omega (arith, same, high, more)
          )
      | inr later ↦ source_below level (max n (level u.journal)) us o later
    ]

below_is : (a b : ℕ) → nat_lt a b ≡ true → a < b
below_is a b is = grind (arith, common_steps)

output_above : (level : List ℕ → ℕ) (n : ℕ) (os : List (List ℕ)) (t : ShardSpec)
    → list_all (λ o. nat_lt n (level o)) os ≡ true
    → list_any (λ o. list_any (λ u. bytes_eq u.journal o) t.sources) os ≡ true → n < greatest level 0 t.sources
output_above level n [] t up is = absurd (cc)
output_above level n (o ∷ os) t up is =
    let a = and_parts (nat_lt n (level o)) (list_all (λ p. nat_lt n (level p)) os) up in
    elim (or_cases (list_any (λ u. bytes_eq u.journal o) t.sources)
    (list_any (λ p. list_any (λ u. bytes_eq u.journal p) t.sources) os) is) [
      | inl here ↦ (
          let low = below_is n (level o) a.0 in
          let high = source_below level 0 t.sources o here in
          omega (arith, low, high)
          )
      | inr later ↦ output_above level n os t a.1 later
    ]

-- ---- along a path

abbrev height_if : (List ℕ → ℕ) → Option ShardSpec → ℕ
height_if level None = 0
height_if level (Some s) = greatest level 0 s.sources

-- the greatest level of the sources of the shard at this place
abbrev height : (List ℕ → ℕ) → List ShardSpec → ℕ → ℕ
height level shards i = height_if level (slice_get shards i)

climbs_at : (level : List ℕ → ℕ) (ss : List ShardSpec) (i : ℕ) (s : ShardSpec) → all_climb level ss ≡ true
    → slice_get ss i ≡ Some s → climbs level s ≡ true
climbs_at level ss i s up at = all_among (climbs level) ss s up
    (i, (slice_get_within ss i s at, sym (get_or_from_slice_get ss i s s at)))

step_up : (level : List ℕ → ℕ) (shards : List ShardSpec) (i : ℕ) (s t : Option ShardSpec)
    → all_climb level shards ≡ true → slice_get shards i ≡ s → feeds_if s t ≡ true
    → height_if level s < height_if level t
step_up level shards i None t up at fed = absurd (cc)
step_up level shards i (Some s) None up at fed = absurd (cc)
step_up level shards i (Some s) (Some t) up at fed = output_above level (greatest level 0 s.sources) (outputs_of s) t
    (climbs_at level shards i s up at) fed

path_up : (level : List ℕ → ℕ) (shards : List ShardSpec) (i j : ℕ) → all_climb level shards ≡ true
    → Reaches shards i j → height level shards i < height level shards j
path_up level shards i j up (next _ _ fed) = step_up level shards i (slice_get shards i) (slice_get shards j) up refl fed
path_up level shards i j up (through _ k _ fed more) =
    let first = step_up level shards i (slice_get shards i) (slice_get shards k) up refl fed in
    let rest = path_up level shards k j up more in
    omega (arith, first, rest)

pub none_returns : (level : List ℕ → ℕ) (shards : List ShardSpec) → all_climb level shards ≡ true → (i : ℕ)
    → Reaches shards i i → ⊥
none_returns level shards up i r = let more = path_up level shards i i up r in absurd (omega (arith, more))

-- where no shard reaches itself, none is found
pub none_found : (shards : List ShardSpec) → ((i : ℕ) → Reaches shards i i → ⊥) → None ≡ first_cycle shards
none_found shards none =
    let n = length shards in
    let test : ℕ → Bool = λ k. flag (closed n (fed_rows shards)) k k in
    first_is test n None (λ k below. not_true (test k)
    (λ h. none k (sound shards n k k (sym (flag_reached shards n k k) ∙ h))))
