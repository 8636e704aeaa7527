-- The names of the first fragments of an index, one after another.
use Rattle.std.proofs.Common.{◌≡◌, ℕ, zero, suc, ◌+◌, List, [], ◌∷◌, ◌++◌, length, take, refl, sym, ap, ◌∙◌, arith}
use Rattle.std.proofs.Math.Seq.{take-length}
use Rattle.std.proofs.lemmas.List.{append-nil}
use Rattle.gz_depot.specs.Depot.{name_at, names_of}
use Rattle.gz_fragment.specs.Names.{name_text}
use Rattle.gz_fragment.specs.declared.fragment.Fragment.{Fragment}

pub next_name : (fs : List Fragment) (place : ℕ) → names_of (take place fs) ++ name_at place fs ≡ names_of (take (place + 1) fs)
next_name [] zero = refl
next_name [] (suc place) = let one : suc place + 1 ≡ suc (place + 1) = omega arith in ap (λ n. names_of (take n [])) (sym one)
next_name (f ∷ fs) zero = refl
next_name (f ∷ fs) (suc place) =
    let one : suc place + 1 ≡ suc (place + 1) = omega arith in
    ap (λ l. name_text f.name ∷ l) (next_name fs place) ∙ ap (λ n. names_of (take n (f ∷ fs))) (sym one)

pub all_names : (fs : List Fragment) → names_of (take (length fs) fs) ≡ names_of fs
all_names fs = ap names_of (take-length fs)

pub none_more : (names : List (List ℕ)) → names ++ [] ≡ names
none_more names = append-nil names
