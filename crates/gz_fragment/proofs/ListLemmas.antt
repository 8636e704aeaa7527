-- Lists of fragments that ascend, and one more among them.
use Rattle.std.proofs.Common.{◌≡◌, ◌+◌, ◌≤◌, List, [], ◌∷◌, ◌++◌, length, refl, ap, ◌∙◌, arith}
use Rattle.std.specs.Ordering.{match_ordering}
use Rattle.std.specs.declared.cmp.Ordering.{Ordering}
use Rattle.std.specs.declared.cmp.Ordering.TheVariants.{Less, Equal, Greater}
use Rattle.gz_fragment.specs.Names.{FragmentName, name_cmp}
use Rattle.gz_fragment.specs.Fragments.{added, AreAbove, AreAscending, IsNamed, AreNamed}
use Rattle.gz_fragment.specs.declared.fragment.Fragment.{Fragment}
use Rattle.gz_fragment.proofs.NameOrder.{name_total, turned, behind_both, behind_equal}

-- ---- parts of a list that ascends

pub above_left : (n : FragmentName) (xs ys : List Fragment) → AreAbove n (xs ++ ys) → AreAbove n xs
above_left n [] ys h = tt
above_left n (x ∷ xs) ys h = (h.0, above_left n xs ys h.1)

pub above_at : (n : FragmentName) (xs : List Fragment) (g : Fragment) (ys : List Fragment) → AreAbove n (xs ++ g ∷ ys) → name_cmp n g.name ≡ Less
above_at n [] g ys h = h.0
above_at n (x ∷ xs) g ys h = above_at n xs g ys h.1

pub ascending_left : (xs : List Fragment) (g : Fragment) (ys : List Fragment) → AreAscending (xs ++ g ∷ ys) → AreAscending xs
ascending_left [] g ys h = tt
ascending_left (x ∷ xs) g ys h = (above_left x.name xs (g ∷ ys) h.0, ascending_left xs g ys h.1)

pub ascending_right : (xs : List Fragment) (g : Fragment) (ys : List Fragment) → AreAscending (xs ++ g ∷ ys) → AreAscending ys
ascending_right [] g ys h = h.1
ascending_right (x ∷ xs) g ys h = ascending_right xs g ys h.1

pub above_right : (xs : List Fragment) (g : Fragment) (ys : List Fragment) → AreAscending (xs ++ g ∷ ys) → AreAbove g.name ys
above_right [] g ys h = h.0
above_right (x ∷ xs) g ys h = above_right xs g ys h.1

-- what is above a name is above each lesser one
pub above_lesser : (a b : FragmentName) (fs : List Fragment) → name_cmp a b ≡ Less → AreAbove b fs → AreAbove a fs
above_lesser a b [] less h = tt
above_lesser a b (f ∷ fs) less h = (name_total.trans a b f.name less h.0, above_lesser a b fs less h.1)

-- ---- one more

-- it goes to the left of a greater one
pub added_left : (f : Fragment) (xs : List Fragment) (g : Fragment) (ys : List Fragment) → name_cmp f.name g.name ≡ Less → added f (xs ++ g ∷ ys) ≡ added f xs ++ g ∷ ys
added_left f [] g ys e = ap (λ r. match_ordering r (f ∷ g ∷ ys) (g ∷ ys) (g ∷ added f ys)) e
added_left f (x ∷ xs) g ys e = step (added_left f xs g ys e) (name_cmp f.name x.name) where
  step : (added f (xs ++ g ∷ ys) ≡ added f xs ++ g ∷ ys) → (r : Ordering) → match_ordering r (f ∷ x ∷ (xs ++ g ∷ ys)) (x ∷ (xs ++ g ∷ ys)) (x ∷ added f (xs ++ g ∷ ys)) ≡ match_ordering r (f ∷ x ∷ xs) (x ∷ xs) (x ∷ added f xs) ++ g ∷ ys
  step more Less = refl
  step more Equal = refl
  step more Greater = ap (λ l. x ∷ l) more

-- it goes behind each lesser one
past : (f x : Fragment) (fs : List Fragment) → name_cmp f.name x.name ≡ Greater → added f (x ∷ fs) ≡ x ∷ added f fs
past f x fs e = ap (λ r. match_ordering r (f ∷ x ∷ fs) (x ∷ fs) (x ∷ added f fs)) e

-- one that is there stays
pub added_middle : (f : Fragment) (xs : List Fragment) (g : Fragment) (ys : List Fragment) → AreAscending (xs ++ g ∷ ys) → name_cmp f.name g.name ≡ Equal → added f (xs ++ g ∷ ys) ≡ xs ++ g ∷ ys
added_middle f [] g ys h e = ap (λ r. match_ordering r (f ∷ g ∷ ys) (g ∷ ys) (g ∷ added f ys)) e
added_middle f (x ∷ xs) g ys h e =
    past f x (xs ++ g ∷ ys) (behind_equal x.name g.name f.name (above_at x.name xs g ys h.0) e)
    ∙ ap (λ l. x ∷ l) (added_middle f xs g ys h.1 e)

-- it goes to the right of a lesser one
pub added_right : (f : Fragment) (xs : List Fragment) (g : Fragment) (ys : List Fragment) → AreAscending (xs ++ g ∷ ys) → name_cmp f.name g.name ≡ Greater → added f (xs ++ g ∷ ys) ≡ xs ++ g ∷ added f ys
added_right f [] g ys h e = past f g ys e
added_right f (x ∷ xs) g ys h e =
    past f x (xs ++ g ∷ ys) (behind_both x.name g.name f.name (above_at x.name xs g ys h.0) e)
    ∙ ap (λ l. x ∷ l) (added_right f xs g ys h.1 e)

-- a list grows by one at the most
pub length_added : (f : Fragment) (fs : List Fragment) → length (added f fs) ≤ length fs + 1
length_added f [] = omega arith
length_added f (g ∷ gs) = step (length_added f gs) (name_cmp f.name g.name) where
  step : (length (added f gs) ≤ length gs + 1) → (r : Ordering) → length (match_ordering r (f ∷ g ∷ gs) (g ∷ gs) (g ∷ added f gs)) ≤ length (g ∷ gs) + 1
  step more Less = omega arith
  step more Equal = omega arith
  step more Greater = omega arith

-- ---- what stays true with one more

above_added : (n : FragmentName) (f : Fragment) (fs : List Fragment) → name_cmp n f.name ≡ Less → AreAbove n fs → AreAbove n (added f fs)
above_added n f [] e h = (e, tt)
above_added n f (g ∷ gs) e h = step (above_added n f gs e h.1) (name_cmp f.name g.name) where
  step : AreAbove n (added f gs) → (r : Ordering) → AreAbove n (match_ordering r (f ∷ g ∷ gs) (g ∷ gs) (g ∷ added f gs))
  step more Less = (e, h)
  step more Equal = h
  step more Greater = (h.0, more)

pub ascending_added : (f : Fragment) (fs : List Fragment) → AreAscending fs → AreAscending (added f fs)
ascending_added f [] h = (tt, tt)
ascending_added f (g ∷ gs) h = step (ascending_added f gs h.1) (name_cmp f.name g.name) refl where
  step : AreAscending (added f gs) → (r : Ordering) → name_cmp f.name g.name ≡ r → AreAscending (match_ordering r (f ∷ g ∷ gs) (g ∷ gs) (g ∷ added f gs))
  step more Less e = ((e, above_lesser f.name g.name gs e h.0), h)
  step more Equal e = h
  step more Greater e = (above_added g.name f gs (turned f.name g.name Greater e) h.0, more)

pub named_added : (f : Fragment) (fs : List Fragment) → IsNamed f → AreNamed fs → AreNamed (added f fs)
named_added f [] n h = (n, tt)
named_added f (g ∷ gs) n h = step (named_added f gs n h.1) (name_cmp f.name g.name) where
  step : AreNamed (added f gs) → (r : Ordering) → AreNamed (match_ordering r (f ∷ g ∷ gs) (g ∷ gs) (g ∷ added f gs))
  step more Less = (n, h)
  step more Equal = h
  step more Greater = (h.0, more)
