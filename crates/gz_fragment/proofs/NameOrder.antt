-- The order of names.
use Rattle.std.proofs.Common.{◌≡◌, ap, ◌∙◌}
use Rattle.std.specs.Cmp.{IsTotalOrder, on_total, then_total, nat_cmp_total}
use Rattle.std.specs.Cmp.Lexicographic.{nat_list_cmp_total}
use Rattle.std.specs.Ordering.{ordering_reverse}
use Rattle.std.specs.declared.cmp.Ordering.{Ordering}
use Rattle.std.specs.declared.cmp.Ordering.TheVariants.{Less, Equal, Greater}
use Rattle.gz_fragment.specs.Names.{FragmentName, name_cmp}

-- names are in one order
pub name_total : IsTotalOrder name_cmp
name_total =
    then_total (on_total (λ (n : FragmentName). n.begin) nat_cmp_total)
    (then_total (on_total (λ (n : FragmentName). n.end) nat_cmp_total) (on_total (λ (n : FragmentName). n.sum) nat_list_cmp_total))

-- the other way round
pub turned : (a b : FragmentName) (r : Ordering) → name_cmp a b ≡ r → name_cmp b a ≡ ordering_reverse r
turned a b r e = name_total.antisymm b a ∙ ap ordering_reverse e

-- a name that is behind one that is behind a third
pub behind_both : (x g f : FragmentName) → name_cmp x g ≡ Less → name_cmp f g ≡ Greater → name_cmp f x ≡ Greater
behind_both x g f below above =
    let back : name_cmp g f ≡ Less = turned f g Greater above in
    turned x f Less (name_total.trans x g f below back)

-- an equal name is behind as well
pub behind_equal : (x g f : FragmentName) → name_cmp x g ≡ Less → name_cmp f g ≡ Equal → name_cmp f x ≡ Greater
behind_equal x g f below same = name_total.congr f g x same ∙ turned x g Less below
