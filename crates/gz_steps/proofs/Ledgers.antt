-- What an open primary adds to the acknowledged list, in bytes and in marks: of its spool the entries between the list's end
-- and its head. Over a spool that is a cut of a list these are the list's marks between the two places, since no entry is
-- empty.
use Rattle.std.proofs.Common.{◌≡◌, ℕ, ◌+◌, ◌-◌, ◌<◌, ◌≤◌, List, [], ◌∷◌, length, take, drop, refl, ap, sym, ◌∙◌, arith, true, false, Bool, zero, suc}
use Rattle.std.specs.Prelude.{map, nat_le, ◌&&◌}
use Rattle.std.proofs.lemmas.Bool.{cond_both, le-leb, lt-leb}
use Rattle.std.proofs.lemmas.List.{length-drop, length-map}
use Rattle.gz_label.specs.declared.entry.Entry.{Entry}
use Rattle.gz_label.specs.declared.entry.Image.{Image}
use Rattle.gz_lineage.specs.Marks.{Mark, Added, end_of_marks}
use Rattle.gz_lineage.specs.Lists.{Each}
use Rattle.gz_carry.specs.Seen.{Fits}
use Rattle.gz_cluster.specs.Ledger as ledger

abbrev pub AllFull : List Entry → Type 0
AllFull es = Each (λ (e : Entry). 0 < length e.bytes) es

-- nothing stands past the head
none_past : (from to at : ℕ) (es : List Entry) → AllFull es → to ≤ at → ledger.entries_between from to at es ≡ []
none_past from to at [] f l = refl
none_past from to at (e ∷ es) f l =
    let past : nat_le (at + length e.bytes) to ≡ false = lt-leb (at + length e.bytes) to (omega (arith, f.0)) in
    cond_both (nat_le from at && nat_le (at + length e.bytes) to) (Added e ∷ ledger.entries_between from to (at + length e.bytes) es) (ledger.entries_between from to (at + length e.bytes) es) (λ ms. ms ≡ [])
    (λ t. absurd (no (nat_le from at) (nat_le (at + length e.bytes) to) past t))
    (λ _. none_past from to (at + length e.bytes) es f.1 (omega arith))
  where
    no : (x y : Bool) → y ≡ false → (x && y) ≡ true → ⊥
    no true y p q = (let z : true ≡ false = sym q ∙ p in cc)
    no false y p q = cc

-- from a place before them all, those up to the head
up_to : (from to at b : ℕ) (es : List Entry) → AllFull es → from ≤ at → b ≤ length es → to ≡ at + end_of_marks (take b (map Added es)) → ledger.entries_between from to at es ≡ take b (map Added es)
up_to from to at zero es f l m e = none_past from to at es f (omega arith)
up_to from to at (suc b) [] f l m e = absurd (omega arith)
up_to from to at (suc b) (x ∷ es) f l m e =
    let one : nat_le from at ≡ true = le-leb from at l in
    let two : nat_le (at + length x.bytes) to ≡ true = le-leb (at + length x.bytes) to (omega arith) in
    rw (one, two) (ap (λ ms. Added x ∷ ms) (up_to from to (at + length x.bytes) b es f.1 (omega arith) (omega arith) (omega arith)))

-- from a boundary of theirs, those behind it up to the head
pub between : (from to at a b : ℕ) (es : List Entry) → AllFull es → a ≤ b → b ≤ length es → from ≡ at + end_of_marks (take a (map Added es)) → to ≡ at + end_of_marks (take b (map Added es)) →
    ledger.entries_between from to at es ≡ drop a (take b (map Added es))
between from to at zero b es f l m d e = up_to from to at b es f (omega arith) m e
between from to at (suc a) zero es f l m d e = absurd (omega arith)
between from to at (suc a) (suc b) [] f l m d e = absurd (omega arith)
between from to at (suc a) (suc b) (x ∷ es) f l m d e =
    let one : nat_le from at ≡ false = lt-leb from at (omega (arith, f.0)) in
    rw one (between from to (at + length x.bytes) a b es f.1 (omega arith) (omega arith) (omega arith) (omega arith))

-- ---- the same over a spool that is a cut of a full list

ends_split : (cut a n : ℕ) (xs : List Mark) → n ≡ cut + a → end_of_marks (take n xs) ≡ end_of_marks (take cut xs) + end_of_marks (take a (drop cut xs))
ends_split zero a n xs e = let z : n ≡ a = omega arith in rw z (omega arith)
ends_split (suc cut) a zero xs e = absurd (omega arith)
ends_split (suc cut) a (suc n) [] e = omega (arith, none a)
  where
    none : (a : ℕ) → end_of_marks (take a []) ≡ 0
    none zero = refl
    none (suc a) = refl
ends_split (suc cut) a (suc n) (x ∷ xs) e = omega (arith, ends_split cut a n xs (omega arith))

parts_split : (cut a b n h : ℕ) (xs : List Mark) → n ≡ cut + a → h ≡ cut + b → drop a (take b (drop cut xs)) ≡ drop n (take h xs)
parts_split zero a b n h xs d e = let y : a ≡ n = omega arith in let z : b ≡ h = omega arith in rw (y, z) refl
parts_split (suc cut) a b zero h xs d e = absurd (omega arith)
parts_split (suc cut) a b (suc n) zero xs d e = absurd (omega arith)
parts_split (suc cut) a b (suc n) (suc h) [] d e = none a b
  where
    none : (a b : ℕ) → let e : List Mark = [] in drop a (take b e) ≡ []
    none zero zero = refl
    none zero (suc b) = refl
    none (suc a) zero = refl
    none (suc a) (suc b) = refl
parts_split (suc cut) a b (suc n) (suc h) (x ∷ xs) d e = parts_split cut a b n h xs (omega arith) (omega arith)

-- What an open primary adds, whose spool is this cut: the marks between the journal's end and its head.
pub adds : (i : Image) (xs : List Mark) (n h : ℕ) (f : Fits i xs h) (marks : List Mark) → AllFull i.entries → f.cut ≤ n → n ≤ h → end_of_marks marks ≡ end_of_marks (take n xs) →
    ledger.entries_between (end_of_marks marks) i.head i.begin i.entries ≡ drop n (take h xs)
adds i xs n h f marks full low high e =
    let a = n - f.cut in
    let b = h - f.cut in
    let many : length xs ≡ f.cut + length i.entries = omega (arith, ap length f.entries, length-drop f.cut xs, length-map i.entries Added, f.begins.within) in
    (between (end_of_marks marks) i.head i.begin a b i.entries full (omega arith) (omega (arith, f.heads.within, many))
    (omega (arith, e, f.begins.ends, ends_split f.cut a n xs (omega arith), ap (λ ys. end_of_marks (take a ys)) f.entries))
    (omega (arith, f.heads.ends, f.begins.ends, ends_split f.cut b h xs (omega arith), ap (λ ys. end_of_marks (take b ys)) f.entries)))
    ∙ ap (λ ys. drop a (take b ys)) (sym f.entries) ∙ parts_split f.cut a b n h xs (omega arith) (omega arith)
