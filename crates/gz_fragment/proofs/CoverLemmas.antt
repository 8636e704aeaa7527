-- The fragment that covers an offset is the first one that reaches the greatest end of those that begin by it.
use Rattle.std.proofs.Common.{◌≡◌, ℕ, ◌<◌, ◌≤◌, Bool, true, false, cond, ◌&&◌, List, [], ◌∷◌, refl, sym, ap, ◌∙◌, arith, nat_le, nat_lt, Some, None, Option}
use Rattle.std.specs.Prelude.{max, filter, find, IfSome}
use Rattle.std.proofs.lemmas.Bool.{leb-true, leb-false, le-leb, lt-leb, ltb-true, ltb-false, lt-ltb, le-ltb}
use Rattle.std.specs.Cmp.{IsTotalOrder, on_total, then_total, nat_cmp_total, ranks}
use Rattle.std.specs.Cmp.Lexicographic.{slice_cmp, nat_list_cmp_total}
use Rattle.std.specs.Ordering.{nat_cmp, ordering_then, ordering_reverse, MatchOrdering, is_lt}
use Rattle.std.specs.declared.cmp.Ordering.{Ordering}
use Rattle.std.specs.declared.cmp.Ordering.TheVariants.{Less, Equal, Greater}
use Rattle.gz_fragment.specs.Names.{FragmentName, name_cmp}
use Rattle.gz_fragment.specs.Fragments.{index_end, is_over, choice_cmp, preferred, best_of, covering, AreAbove, AreAscending}
use Rattle.gz_fragment.specs.Ends.{begins_by, end_begun, reaches}
use Rattle.gz_fragment.specs.declared.fragment.Fragment.{Fragment}
use Rattle.gz_fragment.proofs.EndLemmas.{begin_le, none_begun}

-- ---- which of two is preferred

begin_sum_total : IsTotalOrder (λ (a : FragmentName) (b : FragmentName). ordering_then (nat_cmp a.begin b.begin) (slice_cmp nat_cmp a.sum b.sum))
begin_sum_total = then_total (on_total (λ (n : FragmentName). n.begin) nat_cmp_total) (on_total (λ (n : FragmentName). n.sum) nat_list_cmp_total)

-- a lesser name is preferred to one that ends no later
pub not_before : (a b : FragmentName) → name_cmp a b ≡ Less → b.end ≤ a.end → is_lt (choice_cmp b a) ≡ false
not_before a b less le = step (nat_cmp a.end b.end) (ranks a.end b.end) less where
  step : (r : Ordering) → MatchOrdering r (a.end < b.end) (a.end ≡ b.end) (b.end < a.end)
      → ordering_then (nat_cmp a.begin b.begin) (ordering_then r (slice_cmp nat_cmp a.sum b.sum)) ≡ Less
      → is_lt (ordering_then r (ordering_then (nat_cmp b.begin a.begin) (slice_cmp nat_cmp b.sum a.sum))) ≡ false
  step Less h e = absurd (omega arith)
  step Equal h e = ap is_lt (begin_sum_total.antisymm b a ∙ ap ordering_reverse e)
  step Greater h e = refl

-- a later end is preferred
pub before : (a b : FragmentName) → a.end < b.end → choice_cmp b a ≡ Less
before a b less = step (nat_cmp a.end b.end) (ranks a.end b.end) where
  step : (r : Ordering) → MatchOrdering r (a.end < b.end) (a.end ≡ b.end) (b.end < a.end)
      → ordering_then r (ordering_then (nat_cmp b.begin a.begin) (slice_cmp nat_cmp b.sum a.sum)) ≡ Less
  step Less h = refl
  step Equal h = absurd (omega arith)
  step Greater h = absurd (omega arith)

-- ---- the best of a list

abbrev IsBelow : FragmentName → ℕ → Fragment → Type 0
IsBelow n e g = (name_cmp n g.name ≡ Less) × (g.name.end ≤ e)

preferred_below : (n : FragmentName) (e : ℕ) (g : Fragment) (o : Option Fragment) → IsBelow n e g → IfSome o (IsBelow n e) → IfSome (preferred g o) (IsBelow n e)
preferred_below n e g None p h = p
preferred_below n e g (Some h) p q = step (is_lt (choice_cmp h.name g.name)) where
  step : (b : Bool) → IfSome (cond b (Some h) (Some g)) (IsBelow n e)
  step true = q
  step false = p

best_below : (n : FragmentName) (e : ℕ) (fs : List Fragment) → AreAbove n fs → index_end fs ≤ e → IfSome (best_of fs) (IsBelow n e)
best_below n e [] above le = tt
best_below n e (g ∷ gs) above le =
    preferred_below n e g (best_of gs) (above.0, omega arith) (best_below n e gs above.1 (omega arith))

first_of_two : (f : Fragment) (o : Option Fragment) → IfSome o (IsBelow f.name f.name.end) → preferred f o ≡ Some f
first_of_two f None h = refl
first_of_two f (Some g) h = ap (λ b. cond b (Some g) (Some f)) (not_before f.name g.name h.0 h.1)

-- the first of a list that ends no later stays the best
pub keeps_first : (f : Fragment) (fs : List Fragment) → AreAbove f.name fs → index_end fs ≤ f.name.end → preferred f (best_of fs) ≡ Some f
keeps_first f fs above le = first_of_two f (best_of fs) (best_below f.name f.name.end fs above le)

-- one that reaches a later end is preferred
pub prefers_reaching : (f : Fragment) (e : ℕ) (fs : List Fragment) → f.name.end < e → e ≤ index_end fs → preferred f (find (reaches e) fs) ≡ find (reaches e) fs
prefers_reaching f e [] less le = absurd (omega arith)
prefers_reaching f e (g ∷ gs) less le = step (prefers_reaching f e gs less) (nat_le e g.name.end) refl where
  step : (e ≤ index_end gs → preferred f (find (reaches e) gs) ≡ find (reaches e) gs) → (b : Bool) → nat_le e g.name.end ≡ b → preferred f (cond b (Some g) (find (reaches e) gs)) ≡ cond b (Some g) (find (reaches e) gs)
  step more true t =
      let fits = leb-true e g.name.end t in
      ap (λ r. cond (is_lt r) (Some g) (Some f)) (before f.name g.name (omega arith))
  step more false t = let short = leb-false e g.name.end t in more (omega arith)

-- ---- parts of a list

above_filter : (n : FragmentName) (p : Fragment → Bool) (fs : List Fragment) → AreAbove n fs → AreAbove n (filter p fs)
above_filter n p [] h = tt
above_filter n p (f ∷ fs) h = step (above_filter n p fs h.1) (p f) where
  step : AreAbove n (filter p fs) → (b : Bool) → AreAbove n (cond b (f ∷ filter p fs) (filter p fs))
  step more true = (h.0, more)
  step more false = more

end_filter : (p : Fragment → Bool) (fs : List Fragment) → index_end (filter p fs) ≤ index_end fs
end_filter p [] = omega arith
end_filter p (f ∷ fs) = step (end_filter p fs) (p f) where
  step : index_end (filter p fs) ≤ index_end fs → (b : Bool) → index_end (cond b (f ∷ filter p fs) (filter p fs)) ≤ max f.name.end (index_end fs)
  step more true = omega arith
  step more false = omega arith

-- what is over an offset begins by it
over_begun : (offset : ℕ) (fs : List Fragment) → index_end (filter (is_over offset) fs) ≤ end_begun offset fs
over_begun offset [] = omega arith
over_begun offset (f ∷ fs) = step (over_begun offset fs) (nat_le f.name.begin offset) (nat_lt offset f.name.end) where
  step : index_end (filter (is_over offset) fs) ≤ index_end (filter (begins_by offset) fs) → (a b : Bool)
      → index_end (cond (a && b) (f ∷ filter (is_over offset) fs) (filter (is_over offset) fs)) ≤ index_end (cond a (f ∷ filter (begins_by offset) fs) (filter (begins_by offset) fs))
  step more true true = omega arith
  step more true false = omega arith
  step more false b = more

none_over : (offset : ℕ) (n : FragmentName) (fs : List Fragment) → offset < n.begin → AreAbove n fs → filter (is_over offset) fs ≡ []
none_over offset n [] h above = refl
none_over offset n (f ∷ fs) h above =
    let behind = begin_le n f.name above.0 in
    let test : nat_le f.name.begin offset ≡ false = lt-leb f.name.begin offset (omega arith) in
    ap (λ b. cond (b && nat_lt offset f.name.end) (f ∷ filter (is_over offset) fs) (filter (is_over offset) fs)) test ∙ none_over offset n fs h above.1

-- ---- the search

abbrev pub by_ends : ℕ → ℕ → List Fragment → Option Fragment
by_ends offset e fs = cond (nat_lt offset e) (find (reaches e) fs) None

-- one that begins behind the offset, and so do all others
behind_offset : (offset : ℕ) (f : Fragment) (fs : List Fragment) → AreAbove f.name fs → offset < f.name.begin → covering offset (f ∷ fs) ≡ by_ends offset (end_begun offset (f ∷ fs)) (f ∷ fs)
behind_offset offset f fs above behind =
    let test : nat_le f.name.begin offset ≡ false = lt-leb f.name.begin offset behind in
    let over : filter (is_over offset) (f ∷ fs) ≡ [] =
    ap (λ b. cond (b && nat_lt offset f.name.end) (f ∷ filter (is_over offset) fs) (filter (is_over offset) fs)) test ∙ none_over offset f.name fs behind above in
    let begun : filter (begins_by offset) (f ∷ fs) ≡ [] =
    ap (λ b. cond b (f ∷ filter (begins_by offset) fs) (filter (begins_by offset) fs)) test ∙ none_begun offset f.name fs behind above in
    ap best_of over ∙ sym (ap (λ e. by_ends offset e (f ∷ fs)) (ap index_end begun) ∙ ap (λ b. cond b (find (reaches 0) (f ∷ fs)) None) (le-ltb offset 0 (omega arith)))

-- one that ends by the offset doesn't count
passed_over : (offset e : ℕ) (f : Fragment) (fs : List Fragment) → f.name.end ≤ offset → by_ends offset e fs ≡ by_ends offset (max f.name.end e) (f ∷ fs)
passed_over offset e f fs short = step (nat_lt offset e) refl where
  step : (b : Bool) → nat_lt offset e ≡ b → by_ends offset e fs ≡ by_ends offset (max f.name.end e) (f ∷ fs)
  step true t =
      let less = ltb-true offset e t in
      let same : max f.name.end e ≡ e = omega arith in
      let past : nat_le e f.name.end ≡ false = lt-leb e f.name.end (omega arith) in
      ap (λ l. cond (nat_lt offset e) l None) (sym (ap (λ b. cond b (Some f) (find (reaches e) fs)) past)) ∙ sym (ap (λ d. by_ends offset d (f ∷ fs)) same)
  step false t =
      let most = ltb-false offset e t in
      let none : nat_lt offset (max f.name.end e) ≡ false = le-ltb offset (max f.name.end e) (omega arith) in
      ap (λ b. cond b (find (reaches e) fs) None) t ∙ sym (ap (λ b. cond b (find (reaches (max f.name.end e)) (f ∷ fs)) None) none)

-- one over the offset, before others of which the search is known
one_more_over : (offset : ℕ) (f : Fragment) (fs : List Fragment) → AreAbove f.name fs → covering offset fs ≡ by_ends offset (end_begun offset fs) fs → offset < f.name.end
    → preferred f (covering offset fs) ≡ by_ends offset (max f.name.end (end_begun offset fs)) (f ∷ fs)
one_more_over offset f fs above known over = step (nat_lt f.name.end (end_begun offset fs)) refl where
  step : (b : Bool) → nat_lt f.name.end (end_begun offset fs) ≡ b → preferred f (covering offset fs) ≡ by_ends offset (max f.name.end (end_begun offset fs)) (f ∷ fs)
  step true t =
      let less = ltb-true f.name.end (end_begun offset fs) t in
      let same : max f.name.end (end_begun offset fs) ≡ end_begun offset fs = omega arith in
      let some : nat_lt offset (end_begun offset fs) ≡ true = lt-ltb offset (end_begun offset fs) (omega arith) in
      let past : nat_le (end_begun offset fs) f.name.end ≡ false = lt-leb (end_begun offset fs) f.name.end less in
      let there : covering offset fs ≡ find (reaches (end_begun offset fs)) fs = known ∙ ap (λ b. cond b (find (reaches (end_begun offset fs)) fs) None) some in
      ap (preferred f) there ∙ prefers_reaching f (end_begun offset fs) fs less (end_filter (begins_by offset) fs)
      ∙ sym (ap (λ b. cond b (Some f) (find (reaches (end_begun offset fs)) fs)) past)
      ∙ sym (ap (λ b. cond b (find (reaches (end_begun offset fs)) (f ∷ fs)) None) some)
      ∙ sym (ap (λ d. by_ends offset d (f ∷ fs)) same)
  step false t =
      let most = ltb-false f.name.end (end_begun offset fs) t in
      let same : max f.name.end (end_begun offset fs) ≡ f.name.end = omega arith in
      let some : nat_lt offset f.name.end ≡ true = lt-ltb offset f.name.end over in
      let here : nat_le f.name.end f.name.end ≡ true = le-leb f.name.end f.name.end (omega arith) in
      let ends = over_begun offset fs in
      keeps_first f (filter (is_over offset) fs) (above_filter f.name (is_over offset) fs above) (omega arith)
      ∙ sym (ap (λ b. cond b (Some f) (find (reaches f.name.end) fs)) here)
      ∙ sym (ap (λ b. cond b (find (reaches f.name.end) (f ∷ fs)) None) some)
      ∙ sym (ap (λ d. by_ends offset d (f ∷ fs)) same)

one_more_begun : (offset : ℕ) (f : Fragment) (fs : List Fragment) → AreAbove f.name fs → covering offset fs ≡ by_ends offset (end_begun offset fs) fs → f.name.begin ≤ offset
    → covering offset (f ∷ fs) ≡ by_ends offset (end_begun offset (f ∷ fs)) (f ∷ fs)
one_more_begun offset f fs above known by = step (nat_lt offset f.name.end) refl where
  begins : nat_le f.name.begin offset ≡ true
  begins = le-leb f.name.begin offset by

  ends : end_begun offset (f ∷ fs) ≡ max f.name.end (end_begun offset fs)
  ends = ap (λ b. index_end (cond b (f ∷ filter (begins_by offset) fs) (filter (begins_by offset) fs))) begins

  step : (b : Bool) → nat_lt offset f.name.end ≡ b → covering offset (f ∷ fs) ≡ by_ends offset (end_begun offset (f ∷ fs)) (f ∷ fs)
  step true t =
      ap (λ a. best_of (cond (a && nat_lt offset f.name.end) (f ∷ filter (is_over offset) fs) (filter (is_over offset) fs))) begins
      ∙ ap (λ b. best_of (cond b (f ∷ filter (is_over offset) fs) (filter (is_over offset) fs))) t
      ∙ one_more_over offset f fs above known (ltb-true offset f.name.end t)
      ∙ sym (ap (λ e. by_ends offset e (f ∷ fs)) ends)
  step false t =
      ap (λ a. best_of (cond (a && nat_lt offset f.name.end) (f ∷ filter (is_over offset) fs) (filter (is_over offset) fs))) begins
      ∙ ap (λ b. best_of (cond b (f ∷ filter (is_over offset) fs) (filter (is_over offset) fs))) t
      ∙ known ∙ passed_over offset (end_begun offset fs) f fs (ltb-false offset f.name.end t)
      ∙ sym (ap (λ e. by_ends offset e (f ∷ fs)) ends)

pub covering_by_ends : (offset : ℕ) (fs : List Fragment) → AreAscending fs → covering offset fs ≡ by_ends offset (end_begun offset fs) fs
covering_by_ends offset [] h = sym (ap (λ b. cond b None None) (le-ltb offset 0 (omega arith)))
covering_by_ends offset (f ∷ fs) h = step (covering_by_ends offset fs h.1) (nat_le f.name.begin offset) refl where
  step : covering offset fs ≡ by_ends offset (end_begun offset fs) fs → (b : Bool) → nat_le f.name.begin offset ≡ b → covering offset (f ∷ fs) ≡ by_ends offset (end_begun offset (f ∷ fs)) (f ∷ fs)
  step known true t = one_more_begun offset f fs h.0 known (leb-true f.name.begin offset t)
  step known false t = behind_offset offset f fs h.0 (leb-false f.name.begin offset t)
