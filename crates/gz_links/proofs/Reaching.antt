-- Paths among shards, and the rows that find them.
use Rattle.std.proofs.Common.{◌≡◌, ℕ, zero, suc, ◌+◌, ◌<◌, ◌≤◌, inl, inr, ◌&&◌, ◌||◌, List, [], ◌∷◌, map, length, refl, sym, ap, ◌∙◌, subst, cond, arith, Option, Some, None, Bool, true, false, slice_get}
use Rattle.std.proofs.lemmas.Bool.{or_cases, cases_order}
use Rattle.std.proofs.lemmas.Option.{slice_get_within}
use Rattle.gz_spec.specs.Records.{ShardSpec}
use Rattle.gz_links.specs.Cycles.{feeds, feeds_if, feeds_at, Reaches, next, through, IsToldCycle, bit, row, rest_of, either, widened, widened_all, closed, fed_rows, first_from, flag, first_cycle, IsToldFirst}

-- ---- tests

or_false : (a : Bool) → a ≡ (a || false)
or_false true = refl
or_false false = refl

or_left : (a b : Bool) → a ≡ true → (a || b) ≡ true
or_left a b h = rw h refl

or_right : (a b : Bool) → b ≡ true → (a || b) ≡ true
or_right true b h = refl
or_right false b h = h

and_true : (a b : Bool) → a ≡ true → b ≡ true → (a && b) ≡ true
and_true a b g h = rw (g, h) refl

and_first : (a b : Bool) → (a && b) ≡ true → a ≡ true
and_first true b h = refl
and_first false b h = h

and_second : (a b : Bool) → (a && b) ≡ true → b ≡ true
and_second true b h = h
and_second false b h = absurd (cc)

-- ---- rows

bit_rest : (j : ℕ) (bs : List Bool) → bit j (rest_of bs) ≡ bit (suc j) bs
bit_rest j [] = refl
bit_rest j (b ∷ bs) = refl

bit_either : (j : ℕ) (a b : List Bool) → bit j (either a b) ≡ (bit j a || bit j b)
bit_either j [] b = refl
bit_either zero (x ∷ a) b = refl
bit_either (suc j) (x ∷ a) b = bit_either j a (rest_of b) ∙ ap (λ (t : Bool). bit j a || t) (bit_rest j b)

row_map : (i : ℕ) (f : List Bool → List Bool) → f [] ≡ [] → (rows : List (List Bool)) → row i (map f rows) ≡ f (row i rows)
row_map i f none [] = sym none
row_map zero f none (r ∷ rs) = refl
row_map (suc i) f none (r ∷ rs) = row_map i f none rs

bit_choice : (b : Bool) (j : ℕ) (p r : List Bool) → bit j (cond b (either r p) r) ≡ (bit j r || (b && bit j p))
bit_choice true j p r = bit_either j r p
bit_choice false j p r = or_false (bit j r)

-- reached through the places below m
abbrev pub reach : (ℕ → ℕ → Bool) → ℕ → ℕ → ℕ → Bool
reach e zero i j = e i j
reach e (suc m) i j = reach e m i j || (reach e m i m && reach e m m j)

flag_widened : (m i j : ℕ) (rows : List (List Bool)) → flag (widened_all m rows) i j ≡ (flag rows i j || (flag rows i m && flag rows m j))
flag_widened m i j rows =
    ap (λ (r : List Bool). bit j r) (row_map i (widened m (row m rows)) refl rows) ∙ bit_choice (bit m (row i rows)) j (row m rows) (row i rows)

pub flag_closed : (rows : List (List Bool)) (m i j : ℕ) → flag (closed m rows) i j ≡ reach (flag rows) m i j
flag_closed rows zero i j = refl
flag_closed rows (suc m) i j =
    flag_widened m i j (closed m rows)
    ∙ rw (flag_closed rows m i j, flag_closed rows m i m, flag_closed rows m m j) refl

-- ---- the rows of the shards

bit_fed : (s : ShardSpec) (j : ℕ) (ts : List ShardSpec) → bit j (map (λ t. feeds s t) ts) ≡ feeds_if (Some s) (slice_get ts j)
bit_fed s j [] = refl
bit_fed s zero (t ∷ ts) = refl
bit_fed s (suc j) (t ∷ ts) = bit_fed s j ts

row_fed : (all : List ShardSpec) (i j : ℕ) (ss : List ShardSpec) → bit j (row i (map (λ s. map (λ t. feeds s t) all) ss)) ≡ feeds_if (slice_get ss i) (slice_get all j)
row_fed all i j [] = refl
row_fed all zero j (s ∷ ss) = bit_fed s j all
row_fed all (suc i) j (s ∷ ss) = row_fed all i j ss

flag_fed : (shards : List ShardSpec) (i j : ℕ) → flag (fed_rows shards) i j ≡ feeds_at shards i j
flag_fed shards i j = row_fed shards i j shards

reach_same : (e f : ℕ → ℕ → Bool) → ((i j : ℕ) → e i j ≡ f i j) → (m i j : ℕ) → reach e m i j ≡ reach f m i j
reach_same e f same zero i j = same i j
reach_same e f same (suc m) i j = rw (reach_same e f same m i j, reach_same e f same m i m, reach_same e f same m m j) refl

pub flag_reached : (shards : List ShardSpec) (m i j : ℕ) → flag (closed m (fed_rows shards)) i j ≡ reach (feeds_at shards) m i j
flag_reached shards m i j = flag_closed (fed_rows shards) m i j ∙ reach_same (flag (fed_rows shards)) (feeds_at shards) (flag_fed shards) m i j

-- ---- paths are found, and what is found is a path

pub chain : (shards : List ShardSpec) (i k j : ℕ) → Reaches shards i k → Reaches shards k j → Reaches shards i j
chain shards i k j (next _ _ p) r = through i k j p r
chain shards i k j (through _ h _ p q) r = through i h j p (chain shards h k j q r)

pub sound : (shards : List ShardSpec) (m i j : ℕ) → reach (feeds_at shards) m i j ≡ true → Reaches shards i j
sound shards zero i j h = next i j h
sound shards (suc m) i j h =
    let e = reach (feeds_at shards) m in
    elim (or_cases (e i j) (e i m && e m j) h) [
      | inl a ↦ sound shards m i j a
      | inr b ↦ chain shards i m j (sound shards m i m (and_first (e i m) (e m j) b)) (sound shards m m j (and_second (e i m) (e m j) b))
    ]

grows : (e : ℕ → ℕ → Bool) (m i j : ℕ) → e i j ≡ true → reach e m i j ≡ true
grows e zero i j h = h
grows e (suc m) i j h = or_left (reach e m i j) (reach e m i m && reach e m m j) (grows e m i j h)

-- to and from the place m, the place m itself adds nothing
to_last : (e : ℕ → ℕ → Bool) (m i : ℕ) → reach e (suc m) i m ≡ true → reach e m i m ≡ true
to_last e m i h = elim (or_cases (reach e m i m) (reach e m i m && reach e m m m) h) [ inl a ↦ a | inr b ↦ and_first (reach e m i m) (reach e m m m) b ]

from_last : (e : ℕ → ℕ → Bool) (m j : ℕ) → reach e (suc m) m j ≡ true → reach e m m j ≡ true
from_last e m j h = elim (or_cases (reach e m m j) (reach e m m m && reach e m m j) h) [ inl a ↦ a | inr b ↦ and_second (reach e m m m) (reach e m m j) b ]

-- a detour by a lesser place k, at one more place m
detour : (e : ℕ → ℕ → Bool) (m k : ℕ) → ((i j : ℕ) → reach e m i k ≡ true → reach e m k j ≡ true → reach e m i j ≡ true)
    → (i j : ℕ) → reach e (suc m) i k ≡ true → reach e (suc m) k j ≡ true → reach e (suc m) i j ≡ true
detour e m k joins i j p q =
    let r = reach e m in
    elim (or_cases (r i k) (r i m && r m k) p) [
      | inl a ↦ elim (or_cases (r k j) (r k m && r m j) q) [
        | inl b ↦ or_left (r i j) (r i m && r m j) (joins i j a b)
        | inr b ↦ or_right (r i j) (r i m && r m j) (and_true (r i m) (r m j) (joins i m a (and_first (r k m) (r m j) b)) (and_second (r k m) (r m j) b))
      ]
      | inr a ↦ elim (or_cases (r k j) (r k m && r m j) q) [
        | inl b ↦ or_right (r i j) (r i m && r m j) (and_true (r i m) (r m j) (and_first (r i m) (r m k) a) (joins m j (and_second (r i m) (r m k) a) b))
        | inr b ↦ or_right (r i j) (r i m && r m j) (and_true (r i m) (r m j) (and_first (r i m) (r m k) a) (and_second (r k m) (r m j) b))
      ]
    ]

at_last : (e : ℕ → ℕ → Bool) (m k : ℕ) → k ≡ m → (i j : ℕ) → reach e (suc m) i k ≡ true → reach e (suc m) k j ≡ true → reach e (suc m) i j ≡ true
at_last e m k same i j p q =
    or_right (reach e m i j) (reach e m i m && reach e m m j)
    (and_true (reach e m i m) (reach e m m j) (to_last e m i (rw same at p)) (from_last e m j (rw same at q)))

joined : (e : ℕ → ℕ → Bool) (m k : ℕ) → k < m → (i j : ℕ) → reach e m i k ≡ true → reach e m k j ≡ true → reach e m i j ≡ true
joined e zero k below i j p q = absurd (omega arith)
joined e (suc m) k below i j p q =
    elim (cases_order k m) [
      | inl same ↦ at_last e m k same i j p q
      | inr other ↦ elim other [
        | inl less ↦ detour e m k (joined e m k less) i j p q
        | inr more ↦ absurd (omega arith)
      ]
    ]

second_is : (shards : List ShardSpec) (i j : ℕ) (s t : Option ShardSpec) → t ≡ slice_get shards j → feeds_if s t ≡ true → j < length shards
second_is shards i j None t is h = absurd (cc)
second_is shards i j (Some s) None is h = absurd (cc)
second_is shards i j (Some s) (Some t) is h = slice_get_within shards j t (sym is)

first_place : (shards : List ShardSpec) (i : ℕ) (s t : Option ShardSpec) → s ≡ slice_get shards i → feeds_if s t ≡ true → i < length shards
first_place shards i None t is h = absurd (cc)
first_place shards i (Some s) t is h = slice_get_within shards i s (sym is)

pub begins_within : (shards : List ShardSpec) (i j : ℕ) → Reaches shards i j → i < length shards
begins_within shards i j (next _ _ p) = first_place shards i (slice_get shards i) (slice_get shards j) refl p
begins_within shards i j (through _ k _ p q) = first_place shards i (slice_get shards i) (slice_get shards k) refl p

pub complete : (shards : List ShardSpec) (i j : ℕ) → Reaches shards i j → reach (feeds_at shards) (length shards) i j ≡ true
complete shards i j (next _ _ p) = grows (feeds_at shards) (length shards) i j p
complete shards i j (through _ k _ p q) =
    joined (feeds_at shards) (length shards) k (second_is shards i k (slice_get shards i) (slice_get shards k) refl p) i j
    (grows (feeds_at shards) (length shards) i k p) (complete shards k j q)

-- ---- the first

pub different : (b : Bool) → b ≡ true → b ≡ false → ⊥
different b t f = cc

none_from : (test : ℕ → Bool) (i c : ℕ) → ((k : ℕ) → i ≤ k → k < i + c → test k ≡ false) → first_from test i c ≡ None
none_from test i zero none = refl
none_from test i (suc c) none = rw (none i (omega arith) (omega arith)) (none_from test (suc i) c (λ k above below. none k (omega arith) (omega arith)))

some_from : (test : ℕ → Bool) (i c f : ℕ) → i ≤ f → f < i + c → test f ≡ true → ((k : ℕ) → i ≤ k → k < f → test k ≡ false) → first_from test i c ≡ Some f
some_from test i zero f above below holds none = absurd (omega arith)
some_from test i (suc c) f above below holds none =
    elim (cases_order i f) [
      | inl same ↦ (let here : test i ≡ true = rw same holds in rw here (ap (λ (n : ℕ). let o : Option ℕ = Some n in o) same))
      | inr other ↦ elim other [
        | inl less ↦ rw (none i (omega arith) less) (some_from test (suc i) c f (omega arith) (omega arith) holds (λ k over under. none k (omega arith) under))
        | inr more ↦ absurd (omega arith)
      ]
    ]

pub first_is : (test : ℕ → Bool) (n : ℕ) (found : Option ℕ) → IsToldFirst test n found → found ≡ first_from test 0 n
first_is test n None told = sym (none_from test 0 n (λ k above below. told k (omega arith)))
first_is test n (Some f) told = sym (some_from test 0 n f (omega arith) (omega (arith, told.0)) told.1 (λ k above below. told.2 k below))

pub told_cycle : (shards : List ShardSpec) (found : Option ℕ) → IsToldFirst (λ i. flag (closed (length shards) (fed_rows shards)) i i) (length shards) found → IsToldCycle shards found
told_cycle shards None told = λ i r.
    different (flag (closed (length shards) (fed_rows shards)) i i) (flag_reached shards (length shards) i i ∙ complete shards i i r) (told i (begins_within shards i i r))
told_cycle shards (Some f) told = record {
  reaches = sound shards (length shards) f f (sym (flag_reached shards (length shards) f f) ∙ told.1);
  is_first = λ j below r.
      different (flag (closed (length shards) (fed_rows shards)) j j) (flag_reached shards (length shards) j j ∙ complete shards j j r) (told.2 j below);
}

-- the rows are searched for the first that has its own flag
pub is_cycle : (shards : List ShardSpec) (rows : List (List Bool)) (found : Option ℕ) → rows ≡ closed (length shards) (fed_rows shards)
    → IsToldFirst (λ i. flag rows i i) (length shards) found → found ≡ first_cycle shards
is_cycle shards rows found is told =
    first_is (λ i. flag (closed (length shards) (fed_rows shards)) i i) (length shards) found
    (let P : List (List Bool) → Type 0 = λ r. IsToldFirst (λ i. flag r i i) (length shards) found in subst P is told)

pub is_told : (shards : List ShardSpec) (rows : List (List Bool)) (found : Option ℕ) → rows ≡ closed (length shards) (fed_rows shards)
    → IsToldFirst (λ i. flag rows i i) (length shards) found → IsToldCycle shards found
is_told shards rows found is told =
    told_cycle shards found (let P : List (List Bool) → Type 0 = λ r. IsToldFirst (λ i. flag r i i) (length shards) found in subst P is told)

-- ---- that there is none

none_here : (b : Bool) (i : ℕ) (o : Option ℕ) → cond b (Some i) o ≡ None → (b ≡ false) × (o ≡ None)
none_here true i o none = absurd (cc)
none_here false i o none = (refl, none)

none_of : (test : ℕ → Bool) (i c k : ℕ) → first_from test i c ≡ None → i ≤ k → k < i + c → test k ≡ false
none_of test i zero k none above below = absurd (omega arith)
none_of test i (suc c) k none above below =
    let here = none_here (test i) i (first_from test (suc i) c) none in
    elim (cases_order i k) [
      | inl same ↦ ap test (sym same) ∙ here.0
      | inr other ↦ elim other [
        | inl less ↦ none_of test (suc i) c k here.1 less (omega arith)
        | inr more ↦ absurd (omega arith)
      ]
    ]

-- where no first was found, no shard reaches itself
pub none_reaches : (shards : List ShardSpec) → first_cycle shards ≡ None → (i : ℕ) → Reaches shards i i → ⊥
none_reaches shards none =
    told_cycle shards None (λ k below. none_of (λ i. flag (closed (length shards) (fed_rows shards)) i i) 0 (length shards) k none (omega arith) (omega arith))
