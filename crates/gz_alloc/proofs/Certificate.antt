-- What a placement and its cut are together.
use Rattle.std.proofs.Common.{◌≡◌, ℕ, ◌*◌, ◌≤◌, Bool, true, false, List, replicate, ap, ◌∙◌, sym, subst, arith}
use Rattle.std.specs.List.{list_all}
use Rattle.gz_alloc.specs.Flow.{Cells, Keeps, items, total, capacity, cells_of}
use Rattle.gz_alloc.specs.Search.{Marks, IsWhole, is_chosen, is_zone_chosen}
use Rattle.gz_alloc.specs.Names.{Asked, net_of, is_known, is_problem, paired, IsFeasible, IsFeasibleOf, size, greedy, greedy_pairs, mark_pairs, cut_members, cut_zones, cuts_member, cuts_zone, cut_capacity}
use Rattle.gz_alloc.proofs.Duality.{weak_duality}
use Rattle.gz_alloc.proofs.Cuts.{cut_counts}
use Rattle.gz_alloc.proofs.NameLemmas.{net_ok}
use Rattle.gz_alloc.proofs.TableLemmas.{marks_agree, agree_keeps, agree_total, agree_back, good_greedy}
use Rattle.gz_alloc.proofs.PickLemmas.{cut_same, pairs_feasible, size_of_pairs}

-- no feasible placement passes a cut
pub no_placement_passes : (asked : Asked) → is_problem asked ≡ true → (pairs : List (List ℕ × List ℕ)) → IsFeasible asked pairs → (names : List (List ℕ)) → (zones : List (List ℕ × List ℕ)) → size asked pairs ≤ cut_capacity asked names zones
no_placement_passes asked ok pairs feasible names zones = weak_duality (net_of asked) (net_ok asked ok) (paired asked pairs) feasible.keeps (cuts_member asked names) (cuts_zone asked zones)

-- the cut of a whole search has the capacity of its table
pub whole_cut : (asked : Asked) → is_problem asked ≡ true → (x : Cells) (s : Marks) → Keeps (net_of asked) x → IsWhole (net_of asked) x s → cut_capacity asked (cut_members asked s) (cut_zones asked s) ≡ total (net_of asked) x
whole_cut asked ok x s keeps whole = cut_same asked ok s ∙ both (capacity (net_of asked) (is_chosen s) (is_zone_chosen (net_of asked) s)) (total (net_of asked) x)
    (cut_counts (net_of asked) (net_ok asked ok) x s whole) (weak_duality (net_of asked) (net_ok asked ok) x keeps (is_chosen s) (is_zone_chosen (net_of asked) s))
  where
    both : (a b : ℕ) → a ≤ b → b ≤ a → a ≡ b
    both a b p q = omega arith

-- what a table of pairs says of them
pub table_yes : (asked : Asked) → is_problem asked ≡ true → (pairs : List (List ℕ × List ℕ)) (flags : List Bool) (n : ℕ) → flags ≡ mark_pairs asked pairs (replicate (64 * items (net_of asked)) false) →
    list_all (is_known asked) pairs ≡ true → Keeps (net_of asked) (cells_of flags) → total (net_of asked) (cells_of flags) ≡ n → IsFeasibleOf asked pairs n
table_yes asked ok pairs flags n e known keeps size_is =
    let kept : Keeps (net_of asked) (cells_of (mark_pairs asked pairs (replicate (64 * items (net_of asked)) false))) = subst (λ f. Keeps (net_of asked) (cells_of f)) e keeps in (
      record { known = known; keeps = agree_keeps (net_of asked) _ _ (marks_agree asked ok (net_ok asked ok) pairs) kept },
      sym (ap (λ f. total (net_of asked) (cells_of f)) e ∙ agree_total (net_of asked) _ _ (marks_agree asked ok (net_ok asked ok) pairs)) ∙ size_is,
    )

pub table_keeps : (asked : Asked) → is_problem asked ≡ true → (pairs : List (List ℕ × List ℕ)) (flags : List Bool) (n : ℕ) → flags ≡ mark_pairs asked pairs (replicate (64 * items (net_of asked)) false) →
    IsFeasibleOf asked pairs n → Keeps (net_of asked) (cells_of flags)
table_keeps asked ok pairs flags n e h = subst (λ f. Keeps (net_of asked) (cells_of f)) (sym e) (agree_keeps (net_of asked) _ _ (agree_back (net_of asked) _ _ (marks_agree asked ok (net_ok asked ok) pairs)) (h.0.keeps))

pub table_size : (asked : Asked) → is_problem asked ≡ true → (pairs : List (List ℕ × List ℕ)) (flags : List Bool) (n : ℕ) → flags ≡ mark_pairs asked pairs (replicate (64 * items (net_of asked)) false) →
    IsFeasibleOf asked pairs n → total (net_of asked) (cells_of flags) ≡ n
table_size asked ok pairs flags n e h = ap (λ f. total (net_of asked) (cells_of f)) e ∙ agree_total (net_of asked) _ _ (marks_agree asked ok (net_ok asked ok) pairs) ∙ h.1

-- the greedy placement, where it is of the size
pub greedy_of_size : (asked : Asked) → is_problem asked ≡ true → (now : List (List ℕ × List ℕ)) (n : ℕ) → total (net_of asked) (cells_of (greedy asked now)) ≡ n → IsFeasibleOf asked (greedy_pairs asked now) n
greedy_of_size asked ok now n e = let h = pairs_feasible asked ok (cells_of (greedy asked now)) ((good_greedy asked now (net_ok asked ok)).keeps) in (h.0, h.1 ∙ e)

pub greedy_not_size : (asked : Asked) → is_problem asked ≡ true → (now : List (List ℕ × List ℕ)) (n : ℕ) → (total (net_of asked) (cells_of (greedy asked now)) ≡ n → ⊥) → size asked (greedy_pairs asked now) ≡ n → ⊥
greedy_not_size asked ok now n other e = other (sym (size_of_pairs asked ok (cells_of (greedy asked now))) ∙ e)
