-- A part of a spool's text, entry by entry.
use Rattle.std.proofs.Common.{◌≡◌, ℕ, zero, suc, ◌+◌, ◌-◌, ◌<◌, ◌≤◌, List, [], ◌∷◌, ◌++◌, length, take, drop, get_or, refl, ap, sym, ◌∙◌, arith, append_assoc, append-nil}
use Rattle.gz_label.specs.declared.entry.Entry.{Entry}
use Rattle.gz_journal.specs.JournalList.{text_of}

one_behind : (n : ℕ) → suc n ≡ n + 1
one_behind n = omega arith

text_next : (es : List Entry) (place : ℕ) (e : Entry) → place < length es → e ≡ get_or es place e → text_of (drop place es) ≡ e.bytes ++ text_of (drop (suc place) es)
text_next [] place e within is = absurd (omega arith)
text_next (x ∷ es) zero e within is = ap (λ (y : Entry). y.bytes ++ text_of es) (sym is)
text_next (x ∷ es) (suc place) e within is = text_next es place e (omega arith) is

take_joined : (room : ℕ) (xs ys : List ℕ) → take room (xs ++ ys) ≡ take room xs ++ take (room - length xs) ys
take_joined zero xs ys = let none : zero - length xs ≡ zero = omega arith in ap (λ (n : ℕ). take n ys) (sym none)
take_joined (suc room) [] ys = let all : suc room - 0 ≡ suc room = omega arith in ap (λ (n : ℕ). take n ys) (sym all)
take_joined (suc room) (x ∷ xs) ys =
    let less : suc room - length (x ∷ xs) ≡ room - length xs = omega arith in
    ap (λ (zs : List ℕ). x ∷ zs) (take_joined room xs ys ∙ ap (λ (n : ℕ). take room xs ++ take n ys) (sym less))

drop_joined : (skip : ℕ) (xs ys : List ℕ) → drop skip (xs ++ ys) ≡ drop skip xs ++ drop (skip - length xs) ys
drop_joined zero xs ys = let none : zero - length xs ≡ zero = omega arith in ap (λ (n : ℕ). xs ++ drop n ys) (sym none)
drop_joined (suc skip) [] ys = let all : suc skip - 0 ≡ suc skip = omega arith in ap (λ (n : ℕ). drop n ys) (sym all)
drop_joined (suc skip) (x ∷ xs) ys =
    let less : suc skip - length (x ∷ xs) ≡ skip - length xs = omega arith in
    drop_joined skip xs ys ∙ ap (λ (n : ℕ). drop skip xs ++ drop n ys) (sym less)

-- what is left of a part behind the next entry
pub part_step : (done : List ℕ) (skip room : ℕ) (es : List Entry) (place : ℕ) (e : Entry) → place < length es → e ≡ get_or es place e
    → (done ++ take room (drop skip e.bytes)) ++ take (room - length (drop skip e.bytes)) (drop (skip - length e.bytes) (text_of (drop (place + 1) es)))
    ≡ done ++ take room (drop skip (text_of (drop place es)))
part_step done skip room es place e within is =
    let rest : List ℕ = text_of (drop (suc place) es) in
    append_assoc done (take room (drop skip e.bytes)) _
    ∙ ap (λ (n : ℕ). done ++ (take room (drop skip e.bytes) ++ take (room - length (drop skip e.bytes)) (drop (skip - length e.bytes) (text_of (drop n es))))) (sym (one_behind place))
    ∙ ap (λ (xs : List ℕ). done ++ xs) (sym (take_joined room (drop skip e.bytes) (drop (skip - length e.bytes) rest)))
    ∙ ap (λ (xs : List ℕ). done ++ take room xs) (sym (drop_joined skip e.bytes rest))
    ∙ ap (λ (xs : List ℕ). done ++ take room (drop skip xs)) (sym (text_next es place e within is))

-- nothing more is taken
pub no_room : (done xs : List ℕ) (room : ℕ) → room ≤ 0 → done ++ take room xs ≡ done
no_room done xs zero none = append-nil done
no_room done xs (suc room) none = absurd (omega arith)

all_dropped : (es : List Entry) (place : ℕ) → length es ≤ place → drop place es ≡ []
all_dropped [] zero past = refl
all_dropped [] (suc place) past = refl
all_dropped (x ∷ es) zero past = absurd (omega arith)
all_dropped (x ∷ es) (suc place) past = all_dropped es place (omega arith)

none_taken : (room skip : ℕ) → take room (drop skip (text_of [])) ≡ []
none_taken zero zero = refl
none_taken zero (suc skip) = refl
none_taken (suc room) zero = refl
none_taken (suc room) (suc skip) = refl

-- nothing more is there
pub all_read : (done : List ℕ) (room skip : ℕ) (es : List Entry) (place : ℕ) → length es ≤ place → done ++ take room (drop skip (text_of (drop place es))) ≡ done
all_read done room skip es place past =
    ap (λ (fs : List Entry). done ++ take room (drop skip (text_of fs))) (all_dropped es place past)
    ∙ ap (λ (xs : List ℕ). done ++ xs) (none_taken room skip) ∙ append-nil done
