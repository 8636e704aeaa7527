-- What a spool lets go: a trim to the boundary of an entry moves the cut behind the entries before it, and the list stays.
use Rattle.std.proofs.Common.{◌≡◌, ℕ, ◌+◌, ◌<◌, ◌≤◌, List, [], ◌∷◌, ◌++◌, length, take, drop, refl, ap, sym, arith, Option, Some, None, zero, suc}
use Rattle.std.specs.Prelude.{map, ◌==◌, Bool, true, false, if◌then◌else◌, nat_le}
use Rattle.std.proofs.lemmas.Bool.{eqb-true, leb-true}
use Rattle.gz_label.specs.declared.label.Label.{Label}
use Rattle.gz_label.specs.declared.entry.Entry.{Entry}
use Rattle.gz_label.specs.declared.entry.Image.{Image}
use Rattle.gz_spool.specs.Spools.{Rest, rest_from, with_rest, trimmed}
use Rattle.gz_lineage.specs.Marks.{Mark, Added, registers_from}
use Rattle.gz_carry.specs.Seen.{PlaceSeen, Fits}
use Rattle.gz_carry.proofs.Ends.{end_append, registers_append}

-- these entries are what the list has behind a cut, which is at that offset, with those registers
pub record Stands (at : ℕ) (base : List Label) (es : List Entry) (xs : List Mark) : Type 0 where
  pub cut : ℕ
  pub begins : PlaceSeen xs at cut
  pub registers : base ≡ registers_from [] (take cut xs)
  pub entries : drop cut xs ≡ map Added es

-- an image's entries do, behind its cut
pub stands_of : (i : Image) (xs : List Mark) (h : ℕ) → Fits i xs h → Stands i.begin i.base i.entries xs
stands_of i xs h f = record { cut = f.cut; begins = f.begins; registers = f.base; entries = f.entries }

-- one mark further on
pub one_more : (c : ℕ) (xs : List Mark) (e : Entry) (es : List Entry) → drop c xs ≡ Added e ∷ map Added es → (c < length xs) × (take (suc c) xs ≡ take c xs ++ Added e ∷ []) × (drop (suc c) xs ≡ map Added es)
one_more zero [] e es d = cc
one_more zero (x ∷ xs) e es d = (omega arith, cc, cc)
one_more (suc c) [] e es d = cc
one_more (suc c) (x ∷ xs) e es d = let r = one_more c xs e es d in (omega (arith, r.0), ap (λ l. x ∷ l) r.1, r.2)

-- the first entry goes
pub goes_on : (at : ℕ) (base : List Label) (e : Entry) (es : List Entry) (xs : List Mark) → Stands at base (e ∷ es) xs → Stands (at + length e.bytes) e.registers es xs
goes_on at base e es xs s =
    let r = one_more s.cut xs e es s.entries in
    record {
      cut = suc s.cut;
      begins = record { within = omega (arith, r.0); ends = rw r.1 (omega (arith, s.begins.ends, end_append (take s.cut xs) (Added e ∷ []))) };
      registers = rw r.1 (sym (registers_append [] (take s.cut xs) (Added e ∷ [])));
      entries = r.2;
    }

-- what is left from an offset on stands in the list, where anything is
abbrev Left : ℕ → List Mark → Option Rest → Type 0
Left offset xs None = Unit {0}
Left offset xs (Some r) = Stands offset r.base r.entries xs

-- either branch of a test is left
left_if : (b : Bool) (offset : ℕ) (xs : List Mark) (r : Rest) (v : Option Rest) → (b ≡ true → Stands offset r.base r.entries xs) → Left offset xs v → Left offset xs (if b then Some r else v)
left_if true offset xs r v f a = f refl
left_if false offset xs r v f a = a

-- what is left from an offset on, where it is a boundary, stands behind a cut too
left_of : (offset at : ℕ) (base : List Label) (es : List Entry) (xs : List Mark) → Stands at base es xs → Left offset xs (rest_from offset at base es)
left_of offset at base [] xs s = left_if (at == offset) offset xs (record { base = base; entries = [] }) None (λ t. rw (← eqb-true at offset t) s) tt
left_of offset at base (e ∷ es) xs s = left_if (at == offset) offset xs (record { base = base; entries = e ∷ es }) (rest_from offset (at + length e.bytes) e.registers es) (λ t. rw (← eqb-true at offset t) s)
    (left_of offset (at + length e.bytes) e.registers es xs (goes_on at base e es xs s))

-- an image of what is left is a cut
with_left : (i : Image) (xs : List Mark) (h begin : ℕ) → Fits i xs h → begin ≤ i.head → (v : Option Rest) → Left begin xs v → Fits (with_rest begin i v) xs h
with_left i xs h begin f l None a = f
with_left i xs h begin f l (Some r) a = record { cut = a.cut; begins = a.begins; base = a.registers; entries = a.entries; heads = f.heads; order = l }

-- either branch of a test is a cut
fits_if : (b : Bool) (x y : Image) (xs : List Mark) (h : ℕ) → (b ≡ true → Fits x xs h) → Fits y xs h → Fits (if b then x else y) xs h
fits_if true x y xs h f g = f refl
fits_if false x y xs h f g = g

-- an image that was trimmed is a cut of the same list
pub fits_trimmed : (begin : ℕ) (i : Image) (xs : List Mark) (h : ℕ) → Fits i xs h → Fits (trimmed begin i) xs h
fits_trimmed begin i xs h f =
    fits_if (nat_le begin i.head) (with_rest begin i (rest_from begin i.begin i.base i.entries)) i xs h
    (λ t. with_left i xs h begin f (leb-true begin i.head t) (rest_from begin i.begin i.base i.entries)
    (left_of begin i.begin i.base i.entries xs (stands_of i xs h f))) f
