-- What is in a set after a change.
use Rattle.std.proofs.Common.{◌≡◌, ℕ, ◌&&◌, ◌||◌, List, [], ◌∷◌, filter, refl, ap, sym, ◌∙◌, cond, not, is_eq, Bool, true, false, Ordering, Less, Equal, Greater, nat_cmp}
use Rattle.std.specs.Str.{bytes_eq}
use Rattle.std.specs.Ordering.{match_ordering, ordering_then}
use Rattle.std.specs.Cmp.Lexicographic.{slice_cmp}
use Rattle.std.proofs.lemmas.Cmp.{nat_list_cmp_total, alike_right}
use Rattle.std.proofs.lemmas.Map.Text.{is_eq-slice_cmp}
use Rattle.gz_label.specs.declared.label.Label.{Label}
use Rattle.gz_label.specs.Labels.{label_cmp, put_label, put_labels, same_label, has_label, takes, is_taken, labels_after}
use Rattle.gz_label.proofs.Sets.{both_left, both_right, label_total}

-- ---- equal labels

both_equal : (o p : Ordering) → is_eq (ordering_then o p) ≡ (is_eq o && is_eq p)
both_equal Less p = refl
both_equal Equal p = refl
both_equal Greater p = refl

same_by_order : (m k : Label) → same_label m k ≡ is_eq (label_cmp m k)
same_by_order m k =
    rw (both_equal (slice_cmp nat_cmp m.name k.name) (slice_cmp nat_cmp m.value k.value), is_eq-slice_cmp m.name k.name, is_eq-slice_cmp m.value k.value) refl

equal_order : (o : Ordering) → is_eq o ≡ true → o ≡ Equal
equal_order Less is = cc
equal_order Equal is = refl
equal_order Greater is = cc

bytes_alike : (a b t : List ℕ) → bytes_eq a b ≡ true → bytes_eq t a ≡ bytes_eq t b
bytes_alike a b t same =
    let tie : slice_cmp nat_cmp a b ≡ Equal = equal_order (slice_cmp nat_cmp a b) (is_eq-slice_cmp a b ∙ same) in
    sym (is_eq-slice_cmp t a) ∙ ap (λ (o : Ordering). is_eq o) (alike_right nat_list_cmp_total a b t tie) ∙ is_eq-slice_cmp t b

-- equal labels are taken alike
takes_alike : (m k t : Label) → same_label m k ≡ true → takes m t ≡ takes k t
takes_alike m k t same =
    rw (
      bytes_alike m.name k.name t.name (both_left (bytes_eq m.name k.name) (bytes_eq m.value k.value) same),
      bytes_alike m.value k.value t.value (both_right (bytes_eq m.name k.name) (bytes_eq m.value k.value) same),
    ) refl

taken_alike : (take : List Label) (m k : Label) → same_label m k ≡ true → is_taken take m ≡ is_taken take k
taken_alike [] m k same = refl
taken_alike (t ∷ ts) m k same = rw (takes_alike m k t same, taken_alike ts m k same) refl

-- ---- one more label

or_twice : (b c : Bool) → (b || c) ≡ (b || (b || c))
or_twice true c = refl
or_twice false c = refl

or_swap : (a b c : Bool) → (a || (b || c)) ≡ (b || (a || c))
or_swap true true c = refl
or_swap true false c = refl
or_swap false true c = refl
or_swap false false c = refl

or_shift : (a b c : Bool) → (a || (b || c)) ≡ ((b || a) || c)
or_shift true true c = refl
or_shift true false c = refl
or_shift false true c = refl
or_shift false false c = refl

has_placed : (o : Ordering) (l m k : Label) (ms rest : List Label) → label_cmp l m ≡ o → has_label k rest ≡ (same_label l k || has_label k ms)
    → has_label k (match_ordering o (l ∷ m ∷ ms) (m ∷ ms) (m ∷ rest)) ≡ (same_label l k || (same_label m k || has_label k ms))
has_placed Less l m k ms rest is more = refl
has_placed Equal l m k ms rest is more =
    let alike : same_label l k ≡ same_label m k = same_by_order l k ∙ ap (λ (o : Ordering). is_eq o) (label_total.congr l m k is) ∙ sym (same_by_order m k) in
    rw alike (or_twice (same_label m k) (has_label k ms))
has_placed Greater l m k ms rest is more = rw more (or_swap (same_label m k) (same_label l k) (has_label k ms))

has_put : (k l : Label) (ms : List Label) → has_label k (put_label l ms) ≡ (same_label l k || has_label k ms)
has_put k l [] = refl
has_put k l (m ∷ ms) = has_placed (label_cmp l m) l m k ms (put_label l ms) refl (has_put k l ms)

has_puts : (k : Label) (ls ms : List Label) → has_label k (put_labels ls ms) ≡ (has_label k ls || has_label k ms)
has_puts k [] ms = refl
has_puts k (l ∷ ls) ms = has_puts k ls (put_label l ms) ∙ rw (has_put k l ms) (or_shift (has_label k ls) (same_label l k) (has_label k ms))

-- ---- some labels less

and_false : (b : Bool) → (b && false) ≡ false
and_false true = refl
and_false false = refl

has_kept : (kept same here stays : Bool) (m k : Label) (rest : List Label) → same_label m k ≡ same → (same ≡ true → kept ≡ stays) → has_label k rest ≡ (here && stays)
    → has_label k (cond kept (m ∷ rest) rest) ≡ ((same || here) && stays)
has_kept true true here stays m k rest is alike more = rw is (alike refl)
has_kept true false here stays m k rest is alike more = rw is more
has_kept false true here stays m k rest is alike more =
    let gone : stays ≡ false = sym (alike refl) in
    more ∙ rw (gone, and_false here) refl
has_kept false false here stays m k rest is alike more = more

has_untaken : (take : List Label) (k : Label) (ms : List Label) → has_label k (filter (λ l. not (is_taken take l)) ms) ≡ (has_label k ms && not (is_taken take k))
has_untaken take k [] = refl
has_untaken take k (m ∷ ms) =
    has_kept (not (is_taken take m)) (same_label m k) (has_label k ms) (not (is_taken take k)) m k (filter (λ l. not (is_taken take l)) ms) refl
    (λ same. ap (λ (b : Bool). not b) (taken_alike take m k same)) (has_untaken take k ms)

-- a label is there after a change where it was added, or was there and wasn't taken
pub has_after : (k : Label) (set take add : List Label) → has_label k (labels_after set take add) ≡ (has_label k add || (has_label k set && not (is_taken take k)))
has_after k set take add = has_puts k add (filter (λ l. not (is_taken take l)) set) ∙ ap (λ (b : Bool). has_label k add || b) (has_untaken take k set)
