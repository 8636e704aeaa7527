-- What a search by halves finds among names that rise.
use Rattle.std.proofs.Common.{◌≡◌, ℕ, ◌+◌, ◌<◌, ◌≤◌, ◌⊎◌, true, false, List, [], ◌∷◌, length, map, get_or, cond, Result, Ok, Err, IfOk, IfErr, Ordering, refl, ap, ◌∙◌, sym, subst, arith, inl, inr}
use Prim.Native.Nat.{suc}
use Rattle.std.specs.List.Sorted.{IsSearchInRange, IsBinarySearchResult, IsNonDecreasingBy}
use Rattle.std.specs.Ordering.{nat_cmp, ordering_index, ordering_reverse, is_lt, is_eq}
use Rattle.std.specs.declared.cmp.Ordering.TheVariants.{Less, Equal, Greater}
use Rattle.std.specs.Cmp.Lexicographic.{slice_cmp, nat_list_cmp_total, texts_ties}
use Rattle.std.proofs.lemmas.List.{get_or-map, length-map}
use Rattle.std.proofs.lemmas.List.Sorted.{searchable_from_sorted}
use Rattle.std.proofs.lemmas.Bool.{cases_lt}
use Rattle.gz_alloc.specs.Names.{same, name_at, place_of, rises}
use Rattle.gz_alloc.proofs.NameLemmas.{step, place_at}

abbrev order : List ℕ → List ℕ → Ordering
order = slice_cmp nat_cmp

-- whether names are the same, by their order
same_by : (a b : List ℕ) (o : Ordering) → order a b ≡ o → same a b ≡ is_eq o
same_by a b o is = texts_ties a b ∙ ap is_eq is

-- where no name is the same, the place is how many there are
place_missing : (name : List ℕ) (names : List (List ℕ)) → ((j : ℕ) → j < length names → same (name_at names j) name ≡ false) → place_of name names ≡ length names
place_missing name [] other = refl
place_missing name (n ∷ ns) other = ap (λ b. cond b 0 (suc (place_of name ns))) (other 0 (omega arith)) ∙ ap suc (place_missing name ns (λ j lj. other (suc j) (omega (arith, lj))))

-- things whose names rise are in the order that a search asks for
names_sorted : {X : Type 0} (key : X → List ℕ) (xs : List X) (name : List ℕ) → rises (map key xs) ≡ true → IsNonDecreasingBy (λ x. ordering_index (order (key x) name)) xs
names_sorted {X} key xs name ascending = searchable_from_sorted nat_list_cmp_total key xs name (λ k d low lt. ap is_lt (nat_list_cmp_total.antisymm (key (get_or xs (k + 1) d)) (key (get_or xs k d)) ∙ ap ordering_reverse (less k d lt)))
  where
    less : (k : ℕ) (d : X) → k + 1 < length xs → order (key (get_or xs k d)) (key (get_or xs (k + 1) d)) ≡ Less
    less k d lt =
        ap (λ n. order (key (get_or xs k d)) n) (sym (get_or-map key xs (k + 1) d [] lt)) ∙ ap (λ n. order n (name_at (map key xs) (k + 1))) (sym (get_or-map key xs k d [] (omega (arith, lt))))
        ∙ step (map key xs) ascending k (omega (arith, lt, length-map xs key))

-- a search by halves ends at the name's place, or there is none
pub searched : {X : Type 0} (key : X → List ℕ) (xs : List X) (name : List ℕ) (d : X) → rises (map key xs) ≡ true → (r : Result ℕ ℕ) → IsSearchInRange r (length xs) → IsBinarySearchResult (λ x. order (key x) name) xs r
    → record { found : IfOk r (λ i. i ≡ place_of name (map key xs)); absent : IfErr r (λ _. length xs ≡ place_of name (map key xs)) }
searched key xs name d ascending (Ok i) within equal = record {
  found = sym (place_at (map key xs) ascending name i (omega (arith, within, length-map xs key)) (subst (λ n. same n name ≡ true) (sym (get_or-map key xs i d [] within)) (same_by (key (get_or xs i d)) name Equal (equal d))));
  absent = tt;
}
searched key xs name d ascending (Err i) within parted = record {
  found = tt;
  absent = sym (place_missing name (map key xs) other ∙ length-map xs key);
}
  where
    at : (j : ℕ) → j < length xs → (j < i) ⊎ (i ≤ j) → same (key (get_or xs j d)) name ≡ false
    at j lj (inl before) = same_by (key (get_or xs j d)) name Less ((parted (names_sorted key xs name ascending)).0 j d (omega arith) before)
    at j lj (inr behind) = same_by (key (get_or xs j d)) name Greater ((parted (names_sorted key xs name ascending)).1 j d behind lj)

    other : (j : ℕ) → j < length (map key xs) → same (name_at (map key xs) j) name ≡ false
    other j lj = let within : j < length xs = omega (arith, lj, length-map xs key) in
        subst (λ n. same n name ≡ false) (sym (get_or-map key xs j d [] within)) (at j within (cases_lt j i))
