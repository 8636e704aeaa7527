-- Greatest ends of lists, and the search for the fragment over an offset that is preferred.
use Rattle.std.proofs.Common.{◌≡◌, ℕ, ◌<◌, ◌≤◌, Bool, true, false, cond, List, [], ◌∷◌, ◌++◌, refl, ap, ◌∙◌, arith, nat_le, Some}
use Rattle.std.specs.Prelude.{max, filter, find}
use Rattle.std.proofs.lemmas.Bool.{leb-true, leb-false, le-leb, lt-leb}
use Rattle.std.proofs.lemmas.List.Elements.{filter-append}
use Rattle.std.specs.Cmp.{ranks}
use Rattle.std.specs.Ordering.{nat_cmp, ordering_then, MatchOrdering}
use Rattle.std.specs.declared.cmp.Ordering.{Ordering}
use Rattle.std.specs.declared.cmp.Ordering.TheVariants.{Less, Equal, Greater}
use Rattle.gz_fragment.specs.Names.{FragmentName, name_cmp}
use Rattle.gz_fragment.specs.Fragments.{index_end, AreAbove, AreAscending}
use Rattle.gz_fragment.specs.Ends.{begins_by, end_begun, reaches}
use Rattle.gz_fragment.specs.declared.fragment.Fragment.{Fragment}
use Rattle.gz_fragment.proofs.ListLemmas.{above_at, above_right}

pub index_end_append : (xs ys : List Fragment) → index_end (xs ++ ys) ≡ max (index_end xs) (index_end ys)
index_end_append [] ys = omega arith
index_end_append (x ∷ xs) ys = omega (arith, index_end_append xs ys)

-- ---- the first fragment that reaches an end

-- where one on the left reaches it, it is the left's
pub find_left : (e : ℕ) (xs ys : List Fragment) → 0 < e → e ≤ index_end xs → find (reaches e) (xs ++ ys) ≡ find (reaches e) xs
find_left e [] ys some h = absurd (omega arith)
find_left e (x ∷ xs) ys some h = step (find_left e xs ys some) (nat_le e x.name.end) refl where
  step : (e ≤ index_end xs → find (reaches e) (xs ++ ys) ≡ find (reaches e) xs) → (b : Bool) → nat_le e x.name.end ≡ b → cond b (Some x) (find (reaches e) (xs ++ ys)) ≡ cond b (Some x) (find (reaches e) xs)
  step more true t = refl
  step more false t = let less = leb-false e x.name.end t in more (omega arith)

-- where none on the left reaches it, it is the right's
pub find_past : (e : ℕ) (xs ys : List Fragment) → index_end xs < e → find (reaches e) (xs ++ ys) ≡ find (reaches e) ys
find_past e [] ys h = refl
find_past e (x ∷ xs) ys h = step (find_past e xs ys (omega arith)) (nat_le e x.name.end) refl where
  step : find (reaches e) (xs ++ ys) ≡ find (reaches e) ys → (b : Bool) → nat_le e x.name.end ≡ b → cond b (Some x) (find (reaches e) (xs ++ ys)) ≡ find (reaches e) ys
  step more true t = let fits = leb-true e x.name.end t in absurd (omega arith)
  step more false t = more

-- ---- the fragments that begin by an offset

begin_of_less : (m n : ℕ) (r s : Ordering) → MatchOrdering r (m < n) (m ≡ n) (n < m) → ordering_then r s ≡ Less → m ≤ n
begin_of_less m n Less s h e = omega arith
begin_of_less m n Equal s h e = omega arith
begin_of_less m n Greater s h e = cc

-- a lesser name doesn't begin behind
pub begin_le : (a b : FragmentName) → name_cmp a b ≡ Less → a.begin ≤ b.begin
begin_le a b e = begin_of_less a.begin b.begin (nat_cmp a.begin b.begin) _ (ranks a.begin b.begin) e

-- none that is above a name behind the offset begins by it
pub none_begun : (offset : ℕ) (n : FragmentName) (fs : List Fragment) → offset < n.begin → AreAbove n fs → filter (begins_by offset) fs ≡ []
none_begun offset n [] h above = refl
none_begun offset n (f ∷ fs) h above =
    let behind = begin_le n f.name above.0 in
    let test : nat_le f.name.begin offset ≡ false = lt-leb f.name.begin offset (omega arith) in
    ap (λ b. cond b (f ∷ filter (begins_by offset) fs) (filter (begins_by offset) fs)) test ∙ none_begun offset n fs h above.1

-- each one before one that begins by the offset does so
all_begun : (offset : ℕ) (xs : List Fragment) (g : Fragment) (ys : List Fragment) → AreAscending (xs ++ g ∷ ys) → g.name.begin ≤ offset → filter (begins_by offset) xs ≡ xs
all_begun offset [] g ys h by = refl
all_begun offset (x ∷ xs) g ys h by =
    let before = begin_le x.name g.name (above_at x.name xs g ys h.0) in
    let test : nat_le x.name.begin offset ≡ true = le-leb x.name.begin offset (omega arith) in
    ap (λ b. cond b (x ∷ filter (begins_by offset) xs) (filter (begins_by offset) xs)) test ∙ ap (λ l. x ∷ l) (all_begun offset xs g ys h.1 by)

-- where the middle one begins behind the offset, only the left counts
pub end_begun_left : (offset : ℕ) (xs : List Fragment) (g : Fragment) (ys : List Fragment) → AreAscending (xs ++ g ∷ ys) → offset < g.name.begin → end_begun offset (xs ++ g ∷ ys) ≡ end_begun offset xs
end_begun_left offset xs g ys h behind =
    let test : nat_le g.name.begin offset ≡ false = lt-leb g.name.begin offset behind in
    let tail : filter (begins_by offset) (g ∷ ys) ≡ [] =
    ap (λ b. cond b (g ∷ filter (begins_by offset) ys) (filter (begins_by offset) ys)) test ∙ none_begun offset g.name ys behind (above_right xs g ys h) in
    let whole : filter (begins_by offset) (xs ++ g ∷ ys) ≡ filter (begins_by offset) xs ++ [] =
    filter-append (begins_by offset) xs (g ∷ ys) ∙ ap (λ l. filter (begins_by offset) xs ++ l) tail in
    ap index_end whole ∙ index_end_append (filter (begins_by offset) xs) [] ∙ omega arith

-- where it begins by the offset, the whole left counts
pub end_begun_right : (offset : ℕ) (xs : List Fragment) (g : Fragment) (ys : List Fragment) → AreAscending (xs ++ g ∷ ys) → g.name.begin ≤ offset → end_begun offset (xs ++ g ∷ ys) ≡ max (max (index_end xs) g.name.end) (end_begun offset ys)
end_begun_right offset xs g ys h by =
    let test : nat_le g.name.begin offset ≡ true = le-leb g.name.begin offset by in
    let tail : filter (begins_by offset) (g ∷ ys) ≡ g ∷ filter (begins_by offset) ys =
    ap (λ b. cond b (g ∷ filter (begins_by offset) ys) (filter (begins_by offset) ys)) test in
    let whole : filter (begins_by offset) (xs ++ g ∷ ys) ≡ xs ++ g ∷ filter (begins_by offset) ys =
    filter-append (begins_by offset) xs (g ∷ ys) ∙ ap (λ l. filter (begins_by offset) xs ++ l) tail ∙ ap (λ l. l ++ g ∷ filter (begins_by offset) ys) (all_begun offset xs g ys h by) in
    ap index_end whole ∙ index_end_append xs (g ∷ filter (begins_by offset) ys) ∙ omega arith

-- ---- the search at a tree's top

pub find_here : (e : ℕ) (xs : List Fragment) (g : Fragment) (ys : List Fragment) → index_end xs < e → e ≤ g.name.end → find (reaches e) (xs ++ g ∷ ys) ≡ Some g
find_here e xs g ys past here = find_past e xs (g ∷ ys) past ∙ ap (λ b. cond b (Some g) (find (reaches e) ys)) (le-leb e g.name.end here)

pub find_behind : (e : ℕ) (xs : List Fragment) (g : Fragment) (ys : List Fragment) → index_end xs < e → g.name.end < e → find (reaches e) (xs ++ g ∷ ys) ≡ find (reaches e) ys
find_behind e xs g ys past less = find_past e xs (g ∷ ys) past ∙ ap (λ b. cond b (Some g) (find (reaches e) ys)) (lt-leb e g.name.end less)
