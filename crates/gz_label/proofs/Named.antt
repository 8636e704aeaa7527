-- The labels of one name among ascending ones.
use Rattle.std.proofs.Common.{◌≡◌, ℕ, List, [], ◌∷◌, refl, ap, true, false, is_lt, is_eq, cond, Ordering, Less, Equal, Greater, nat_cmp}
use Rattle.std.specs.Str.{bytes_eq}
use Rattle.std.specs.Ordering.{ordering_then}
use Rattle.std.specs.Cmp.{IsTotalOrder}
use Rattle.std.specs.Cmp.Lexicographic.{slice_cmp}
use Rattle.std.proofs.lemmas.Cmp.{nat_list_cmp_total}
use Rattle.std.proofs.lemmas.Map.Text.{is_eq-slice_cmp}
use Rattle.gz_label.specs.declared.label.Label.{Label}
use Rattle.gz_label.specs.Labels.{comes_before, are_ascending, is_label_set, labels_named, from_name, named_prefix}
use Rattle.gz_label.proofs.Sets.{both_left, both_right, ascending_of_set}

order : IsTotalOrder (slice_cmp nat_cmp)
order = nat_list_cmp_total

-- what is before something greater is less
above : (a b n : List ℕ) (o v : Ordering) → slice_cmp nat_cmp a b ≡ o → is_lt (ordering_then o v) ≡ true → slice_cmp nat_cmp a n ≡ Greater → slice_cmp nat_cmp b n ≡ Greater
above a b n Less v is before greater =
    let na : slice_cmp nat_cmp n a ≡ Less = rw (order.antisymm n a, greater) refl in
    let nb : slice_cmp nat_cmp n b ≡ Less = order.trans n a b na is in
    rw (order.antisymm b n, nb) refl
above a b n Equal v is before greater = rw (← order.congr a b n is) greater
above a b n Greater v is before greater = cc

not_less : (a b n : List ℕ) (o v : Ordering) → slice_cmp nat_cmp a b ≡ o → is_lt (ordering_then o v) ≡ true → slice_cmp nat_cmp a n ≡ Equal → is_lt (slice_cmp nat_cmp b n) ≡ false
not_less a b n Less v is before equal =
    let nb : slice_cmp nat_cmp n b ≡ Less = rw (← order.congr a n b equal) is in
    rw (order.antisymm b n, nb) refl
not_less a b n Equal v is before equal = rw (← order.congr a b n is, equal) refl
not_less a b n Greater v is before equal = cc

differs : (a n : List ℕ) (o : Ordering) → slice_cmp nat_cmp a n ≡ o → is_eq o ≡ false → bytes_eq a n ≡ false
differs a n o is apart = rw (← is_eq-slice_cmp a n, is) apart

same : (a n : List ℕ) → slice_cmp nat_cmp a n ≡ Equal → bytes_eq a n ≡ true
same a n is = rw (← is_eq-slice_cmp a n, is) refl

none_named : (ls : List Label) (name : List ℕ) (l : Label) → slice_cmp nat_cmp l.name name ≡ Greater → comes_before l ls ≡ true → are_ascending ls ≡ true → labels_named name (l ∷ ls) ≡ []
none_named [] name l greater first up = rw (differs l.name name Greater greater refl) refl
none_named (m ∷ ms) name l greater first up =
    let next : slice_cmp nat_cmp m.name name ≡ Greater = above l.name m.name name (slice_cmp nat_cmp l.name m.name) (slice_cmp nat_cmp l.value m.value) refl first greater in
    rw (differs l.name name Greater greater refl) (none_named ms name m next (both_left (comes_before m ms) (are_ascending ms) up) (both_right (comes_before m ms) (are_ascending ms) up))

-- from a label on whose name isn't less, those of the name come first
prefix_named : (ls : List Label) (name : List ℕ) (l : Label) (o : Ordering) → slice_cmp nat_cmp l.name name ≡ o → is_lt o ≡ false → comes_before l ls ≡ true → are_ascending ls ≡ true
    → named_prefix name (l ∷ ls) ≡ labels_named name (l ∷ ls)
prefix_named ls name l Less is low first up = cc
prefix_named ls name l Greater is low first up = rw (none_named ls name l is first up, differs l.name name Greater is refl) refl
prefix_named [] name l Equal is low first up = rw (same l.name name is) refl
prefix_named (m ∷ ms) name l Equal is low first up =
    let next : is_lt (slice_cmp nat_cmp m.name name) ≡ false = not_less l.name m.name name (slice_cmp nat_cmp l.name m.name) (slice_cmp nat_cmp l.value m.value) refl first is in
    let more : named_prefix name (m ∷ ms) ≡ labels_named name (m ∷ ms) = prefix_named ms name m (slice_cmp nat_cmp m.name name) refl next (both_left (comes_before m ms) (are_ascending ms) up) (both_right (comes_before m ms) (are_ascending ms) up) in
    rw (same l.name name is) (ap (λ ks. l ∷ ks) more)

named_step : (o : Ordering) (name : List ℕ) (l : Label) (ls : List Label) → slice_cmp nat_cmp l.name name ≡ o → comes_before l ls ≡ true → are_ascending ls ≡ true
    → named_prefix name (from_name name ls) ≡ labels_named name ls → named_prefix name (cond (is_lt o) (from_name name ls) (l ∷ ls)) ≡ labels_named name (l ∷ ls)
named_step Less name l ls is first up more = rw (differs l.name name Less is refl) more
named_step Equal name l ls is first up more = prefix_named ls name l Equal is refl first up
named_step Greater name l ls is first up more = prefix_named ls name l Greater is refl first up

named_prefix_of_ascending : (name : List ℕ) (ms : List Label) → are_ascending ms ≡ true → named_prefix name (from_name name ms) ≡ labels_named name ms
named_prefix_of_ascending name [] up = refl
named_prefix_of_ascending name (l ∷ ls) up =
    let rest : are_ascending ls ≡ true = both_right (comes_before l ls) (are_ascending ls) up in
    named_step (slice_cmp nat_cmp l.name name) name l ls refl (both_left (comes_before l ls) (are_ascending ls) up) rest (named_prefix_of_ascending name ls rest)

-- in a set, those of a name are before what is left from that name on
pub named_prefix_of_set : (name : List ℕ) (ms : List Label) → is_label_set ms ≡ true → named_prefix name (from_name name ms) ≡ labels_named name ms
named_prefix_of_set name ms set = named_prefix_of_ascending name ms (ascending_of_set ms set)
