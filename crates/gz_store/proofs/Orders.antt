-- The orders of paths and of nodes.
use Rattle.std.proofs.Common.{◌≡◌, ℕ, ◌<◌, List, refl, ap, sym, ◌∙◌, true, false, nat_cmp}
use Rattle.std.specs.Ordering.{is_eq}
use Rattle.std.specs.declared.cmp.Ordering.{Ordering}
use Rattle.std.specs.declared.cmp.Ordering.TheVariants.{Less, Equal, Greater}
use Rattle.std.specs.Cmp.{nat_cmp_is}
use Rattle.std.specs.Cmp.Lexicographic.{slice_cmp}
use Rattle.std.proofs.lemmas.Cmp.{ranked}
use Rattle.std.proofs.lemmas.Map.Text.{is_eq-slice_cmp}
use Rattle.std.proofs.lemmas.Slice.Eq.{bytes_eq-Decides}
use Rattle.gz_recovery.specs.Files.{is_path, is_node}
use Rattle.gz_store.proofs.Lookups.{IsOrder, Apart}

equal : (o : Ordering) → is_eq o ≡ true → o ≡ Equal
equal Less e = cc
equal Equal e = refl
equal Greater e = cc

same_path : (x y : List ℕ) → is_path x y ≡ true → x ≡ y
same_path x y at = (bytes_eq-Decides x y).0 (sym (is_eq-slice_cmp x y) ∙ at)

pub paths_order : IsOrder (slice_cmp nat_cmp)
paths_order = record {
  same = λ x y e. same_path x y (ap (λ (o : Ordering). is_eq o) e);
  itself = λ x. equal (slice_cmp nat_cmp x x) (is_eq-slice_cmp x x ∙ (bytes_eq-Decides x x).1 refl);
}

-- paths are apart where one isn't the other
pub paths_apart : (x y : List ℕ) → is_path y x ≡ false → Apart (is_path x) (is_path y)
paths_apart x y other k at = ap (λ (z : List ℕ). is_path y z) (sym (same_path x k at)) ∙ other

by_rank : (x y : ℕ) (o : Ordering) → o ≡ nat_cmp x y → is_eq o ≡ true → x ≡ y
by_rank x y Less is at = cc
by_rank x y Equal is at = ranked x y Equal is
by_rank x y Greater is at = cc

pub same_node : (x y : ℕ) → is_node x y ≡ true → x ≡ y
same_node x y at = by_rank x y (nat_cmp x y) refl at

node_itself : (x : ℕ) → nat_cmp x x ≡ Equal
node_itself x = sym (nat_cmp_is x x Equal refl)

pub nodes_order : IsOrder nat_cmp
nodes_order = record {
  same = λ x y e. same_node x y (ap (λ (o : Ordering). is_eq o) e);
  itself = node_itself;
}

-- nodes are apart where one has the lesser number
pub nodes_apart : (m n : ℕ) → m < n → Apart (is_node m) (is_node n)
nodes_apart m n low k at =
    let same : m ≡ k = same_node m k at in
    let greater : Greater ≡ nat_cmp n m = nat_cmp_is n m Greater low in
    ap (λ (j : ℕ). is_node n j) (sym same) ∙ ap (λ (o : Ordering). is_eq o) (sym greater)
