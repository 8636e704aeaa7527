-- Shards none of which reaches itself are ranked: by how many reach them.
use Rattle.std.proofs.Common.{◌≡◌, ℕ, zero, suc, ◌<◌, ◌≤◌, inl, inr, List, [], ◌∷◌, ◌++◌, length, refl, sym, ap, ◌∙◌, subst, cond, arith, Option, Some, Bool, true, false, not, slice_get}
use Rattle.std.specs.List.{IsAmong}
use Rattle.std.specs.Str.{bytes_eq}
use Rattle.std.proofs.lemmas.Bool.{cases_order, and_parts, not-true}
use Rattle.std.proofs.lemmas.Option.{slice_get_read}
use Rattle.gz_spec.specs.Records.{ShardSpec}
use Rattle.gz_fields.specs.Lists.{is_used}
use Rattle.gz_spec.specs.Specs.{id_of_shard}
use Rattle.gz_spec.specs.Valid.{are_fresh}
use Rattle.gz_links.specs.Cycles.{feeds, feeds_at, Reaches, next, AreRanked}
use Rattle.gz_fields.proofs.Used.{same_bytes, bytes_turned, used_parts, not_true}
use Rattle.gz_links.proofs.Reaching.{reach, chain, sound, complete}

-- ---- how many places pass a test

abbrev count_below : (ℕ → Bool) → ℕ → ℕ
count_below test zero = 0
count_below test (suc n) = cond (test n) (suc (count_below test n)) (count_below test n)

one_le : (b c : Bool) (m n : ℕ) → (b ≡ true → c ≡ true) → m ≤ n → cond b (suc m) m ≤ cond c (suc n) n
one_le true true m n more le = omega arith
one_le true false m n more le = absurd (let e : false ≡ true = more refl in cc)
one_le false true m n more le = omega arith
one_le false false m n more le = le

one_lt : (b c : Bool) (m n : ℕ) → (b ≡ true → c ≡ true) → m < n → cond b (suc m) m < cond c (suc n) n
one_lt true true m n more lt = omega arith
one_lt true false m n more lt = absurd (let e : false ≡ true = more refl in cc)
one_lt false true m n more lt = omega arith
one_lt false false m n more lt = lt

count_le : (f g : ℕ → Bool) → ((k : ℕ) → f k ≡ true → g k ≡ true) → (n : ℕ) → count_below f n ≤ count_below g n
count_le f g more zero = omega arith
count_le f g more (suc n) = one_le (f n) (g n) (count_below f n) (count_below g n) (more n) (count_le f g more n)

-- where the second test passes a place more, it counts more
count_lt : (f g : ℕ → Bool) → ((k : ℕ) → f k ≡ true → g k ≡ true) → (i : ℕ) → f i ≡ false → g i ≡ true → (n : ℕ)
    → i < n → count_below f n < count_below g n
count_lt f g more i out here zero below = absurd (omega arith)
count_lt f g more i out here (suc n) below =
    elim (cases_order i n) [
      | inl same ↦ (
          let le : count_below f n ≤ count_below g n = count_le f g more n in
          let p : f n ≡ false = ap f (sym same) ∙ out in
          let q : g n ≡ true = ap g (sym same) ∙ here in
          rw (p, q) (omega arith)
          )
      | inr other ↦ elim other [
        | inl less ↦ one_lt (f n) (g n) (count_below f n) (count_below g n) (more n) (count_lt f g more i out here n less)
        | inr more ↦ absurd (omega arith)
      ]
    ]

count_any : (n : ℕ) → count_below (λ k. true) n ≡ n
count_any zero = refl
count_any (suc n) = ap (λ (m : ℕ). suc m) (count_any n)

-- ---- the place of a shard

abbrev place_of : List ℕ → List ShardSpec → ℕ
place_of id [] = 0
place_of id (s ∷ ss) = cond (bytes_eq s.id id) 0 (suc (place_of id ss))

same_some : (a b : ShardSpec) → (let o : Option ShardSpec = Some a in o ≡ Some b) → a ≡ b
same_some a b is = cc

-- a shard behind used ids has none of them
fresh_id : (used : List (List ℕ)) (ss : List ShardSpec) (i : ℕ) (s : ShardSpec) → are_fresh id_of_shard used ss ≡ true
    → slice_get ss i ≡ Some s → is_used used s.id ≡ false
fresh_id used [] i s fresh at = absurd (cc)
fresh_id used (t ∷ ts) zero s fresh at =
    let a = and_parts (not (is_used used t.id)) (are_fresh id_of_shard (used ++ t.id ∷ []) ts) fresh in
    let P : ShardSpec → Type 0 = λ u. is_used used u.id ≡ false in
    subst P (same_some t s at) (not-true (is_used used t.id) a.0)
fresh_id used (t ∷ ts) (suc i) s fresh at =
    let a = and_parts (not (is_used used t.id)) (are_fresh id_of_shard (used ++ t.id ∷ []) ts) fresh in
    (used_parts used t.id s.id (fresh_id (used ++ t.id ∷ []) ts i s a.1 at)).0

-- the place of a shard's id is its own, since no two have one id
place_is : (used : List (List ℕ)) (ss : List ShardSpec) (i : ℕ) (s : ShardSpec) → are_fresh id_of_shard used ss ≡ true
    → slice_get ss i ≡ Some s → place_of s.id ss ≡ i
place_is used [] i s fresh at = absurd (cc)
place_is used (t ∷ ts) zero s fresh at =
    let P : ShardSpec → Type 0 = λ u. place_of u.id (t ∷ ts) ≡ 0 in
    subst P (same_some t s at) (rw (same_bytes t.id) refl)
place_is used (t ∷ ts) (suc i) s fresh at =
    let a = and_parts (not (is_used used t.id)) (are_fresh id_of_shard (used ++ t.id ∷ []) ts) fresh in
    let other = bytes_turned t.id s.id ∙ (used_parts used t.id s.id (fresh_id (used ++ t.id ∷ []) ts i s a.1 at)).1 in
    rw other (ap (λ (n : ℕ). suc n) (place_is (used ++ t.id ∷ []) ts i s a.1 at))

-- ---- ranks

abbrev rank_at : List ShardSpec → ℕ → ℕ
rank_at shards i = count_below (λ k. reach (feeds_at shards) (length shards) k i) (length shards)

-- how many shards reach the one of this id
abbrev pub rank : List ShardSpec → List ℕ → ℕ
rank shards id = rank_at shards (place_of id shards)

not_itself : (shards : List ShardSpec) (i : ℕ) → (Reaches shards i i → ⊥)
    → reach (feeds_at shards) (length shards) i i ≡ false
not_itself shards i none = not_true (reach (feeds_at shards) (length shards) i i)
    (λ h. none (sound shards (length shards) i i h))

rank_rises : (shards : List ShardSpec) (i j : ℕ) → ((k : ℕ) → Reaches shards k k → ⊥) → i < length shards
    → feeds_at shards i j ≡ true → rank_at shards i < rank_at shards j
rank_rises shards i j none within fed =
    let n = length shards in
    let e = reach (feeds_at shards) n in
    count_lt (λ k. e k i) (λ k. e k j)
    (λ k h. complete shards k j (chain shards k i j (sound shards n k i h) (next i j fed)))
    i (not_itself shards i (none i)) (complete shards i j (next i j fed)) n within

rank_below : (shards : List ShardSpec) (i : ℕ) → (Reaches shards i i → ⊥) → i < length shards
    → rank_at shards i < length shards
rank_below shards i none within =
    let n = length shards in
    let less = count_lt (λ k. reach (feeds_at shards) n k i) (λ k. true) (λ k h. refl) i
    (not_itself shards i none) refl n within in
    let all : count_below (λ k. true) n ≡ n = count_any n in
    omega (arith, less, all)

at_of : (shards : List ShardSpec) (s : ShardSpec) (a : IsAmong shards s) → slice_get shards a.0 ≡ Some s
at_of shards s a = slice_get_read shards (length shards) a.0 s refl a.1.0 a.1.1

fed_at : (shards : List ShardSpec) (i j : ℕ) (s t : ShardSpec) → slice_get shards i ≡ Some s
    → slice_get shards j ≡ Some t → feeds s t ≡ true → feeds_at shards i j ≡ true
fed_at shards i j s t p q fed = rw (p, q) fed

-- shards of ids of their own, none of which reaches itself
pub ranked : (shards : List ShardSpec) → are_fresh id_of_shard [] shards ≡ true → ((k : ℕ) → Reaches shards k k → ⊥)
    → AreRanked (rank shards) shards
ranked shards fresh none = record {
  rises = λ s t a b fed.
      let p = at_of shards s a in
      let q = at_of shards t b in
      let f = ap (rank_at shards) (place_is [] shards a.0 s fresh p) in
      let g = ap (rank_at shards) (place_is [] shards b.0 t fresh q) in
      let less = rank_rises shards a.0 b.0 none a.1.0 (fed_at shards a.0 b.0 s t p q fed) in
      omega (arith, f, g, less);
  below = λ s a.
      let f = ap (rank_at shards) (place_is [] shards a.0 s fresh (at_of shards s a)) in
      let less = rank_below shards a.0 (none a.0) a.1.0 in
      omega (arith, f, less);
}
