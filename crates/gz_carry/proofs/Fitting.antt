-- Images that are cuts of lists: such an image ends where its list does, with the same registers, and stays a cut where an
-- entry is added to both, where the head rises, and where the image is the empty one at the store's end.
use Rattle.std.proofs.Common.{◌≡◌, ℕ, ◌+◌, List, [], ◌∷◌, ◌++◌, length, take, drop, refl, ap, sym, ◌∙◌, arith, inl, inr}
use Rattle.std.specs.Prelude.{map, min, max}
use Rattle.std.proofs.lemmas.List.{take-append-drop, take_all, take-append-le, drop-append-le, length_push}
use Rattle.std.proofs.Math.ListN.{drop_of_length-le}
use Rattle.std.proofs.lemmas.Bool.{cases_lt}
use Rattle.gz_label.specs.declared.entry.Entry.{Entry}
use Rattle.gz_label.specs.declared.entry.Image.{Image}
use Rattle.gz_journal.specs.declared.request.Request.{Request}
use Rattle.gz_journal.specs.JournalList.{end_of, judgement}
use Rattle.gz_spool.specs.Spools.{spool_end, spool_registers, extended, raised, empty_at}
use Rattle.gz_lineage.specs.Prefix.{IsPrefix}
use Rattle.gz_lineage.specs.Marks.{Mark, Reset, Added, end_of_marks, registers_from, judged_at}
use Rattle.gz_lineage.proofs.Prefixes.{pre_take_of}
use Rattle.gz_carry.specs.Seen.{PlaceSeen, Fits}
use Rattle.gz_carry.proofs.Ends.{end_append, end_added, registers_added, registers_append, end_whole, end_more}

-- ---- where an image ends

-- an image ends where its list does
pub fits_end : (i : Image) (xs : List Mark) (h : ℕ) → Fits i xs h → spool_end i ≡ end_of_marks xs
fits_end i xs h f =
    let whole : take f.cut xs ++ drop f.cut xs ≡ xs = take-append-drop f.cut xs in
    let parts = end_append (take f.cut xs) (drop f.cut xs) in
    let back : end_of_marks (drop f.cut xs) ≡ end_of i.entries = ap end_of_marks f.entries ∙ end_added i.entries in
    let all : end_of_marks (take f.cut xs ++ drop f.cut xs) ≡ end_of_marks xs = ap end_of_marks whole in
    omega (arith, f.begins.ends)

-- and its registers are those behind its list
pub fits_registers : (i : Image) (xs : List Mark) (h : ℕ) → Fits i xs h → spool_registers i ≡ registers_from [] xs
fits_registers i xs h f =
    rw f.base (sym (registers_added (registers_from [] (take f.cut xs)) i.entries)
    ∙ ap (λ ys. registers_from (registers_from [] (take f.cut xs)) ys) (sym f.entries)
    ∙ sym (registers_append [] (take f.cut xs) (drop f.cut xs)) ∙ ap (λ ys. registers_from [] ys) (take-append-drop f.cut xs))

-- so a request is judged the same at the end of both
pub judged_alike : (i : Image) (xs : List Mark) (h : ℕ) (request : Request) → Fits i xs h → judgement (spool_end i) (spool_registers i) request ≡ judged_at xs request
judged_alike i xs h request f =
    ap (λ e. judgement e (spool_registers i) request) (fits_end i xs h f) ∙ ap (λ x. judgement (end_of_marks xs) x request) (fits_registers i xs h f)

-- ---- an entry more

-- the last of a list of entries is the last of its marks
map_push : (es : List Entry) (e : Entry) → map Added es ++ Added e ∷ [] ≡ map Added (es ++ e ∷ [])
map_push [] e = refl
map_push (x ∷ es) e = ap (λ ys. Added x ∷ ys) (map_push es e)

-- a place stays where it is when the list gets longer
pub place_pushed : (xs : List Mark) (x : Mark) (offset k : ℕ) → PlaceSeen xs offset k → PlaceSeen (xs ++ x ∷ []) offset k
place_pushed xs x offset k p = record {
  within = omega (arith, p.within, length_push xs x);
  ends = rw (take-append-le k xs (x ∷ []) p.within) p.ends;
}

-- an entry is added on both sides
pub fits_extended : (i : Image) (xs : List Mark) (h : ℕ) (e : Entry) → Fits i xs h → Fits (extended e i) (xs ++ Added e ∷ []) h
fits_extended i xs h e f = record {
  cut = f.cut;
  begins = place_pushed xs (Added e) i.begin f.cut f.begins;
  base = rw (take-append-le f.cut xs (Added e ∷ []) f.begins.within) f.base;
  entries = drop-append-le f.cut xs (Added e ∷ []) f.begins.within ∙ ap (λ ys. ys ++ Added e ∷ []) f.entries ∙ map_push i.entries e;
  heads = place_pushed xs (Added e) i.head h f.heads;
  order = f.order;
}

-- ---- a greater head

-- the later of two ends is that of the longer prefix
pub max_ends : (j k : ℕ) (xs : List Mark) → max (end_of_marks (take j xs)) (end_of_marks (take k xs)) ≡ end_of_marks (take (max j k) xs)
max_ends j k xs = elim (cases_lt j k) [
  | inl l ↦ (let x : max j k ≡ k = omega arith in rw x (omega (arith, end_more j k xs (omega arith))))
  | inr l ↦ (let x : max j k ≡ j = omega arith in rw x (omega (arith, end_more k j xs (omega arith))))
]

-- and the earlier one that of the shorter
pub min_ends : (j k : ℕ) (xs : List Mark) → min (end_of_marks (take j xs)) (end_of_marks (take k xs)) ≡ end_of_marks (take (min j k) xs)
min_ends j k xs = elim (cases_lt j k) [
  | inl l ↦ (let x : min j k ≡ j = omega arith in rw x (omega (arith, end_more j k xs (omega arith))))
  | inr l ↦ (let x : min j k ≡ k = omega arith in rw x (omega (arith, end_more k j xs (omega arith))))
]

-- The head rises towards a place of a longer list, as far as the image goes. So a member follows its primary's head.
pub fits_followed : (i : Image) (xs ys : List Mark) (h offset k : ℕ) → Fits i xs h → IsPrefix xs ys → PlaceSeen ys offset k → Fits (raised offset i) xs (max h (min k (length xs)))
fits_followed i xs ys h offset k f p at =
    let c = min k (length xs) in
    let prefix : take c ys ≡ take c xs = pre_take_of c p (omega arith) in
    let end : end_of_marks xs ≡ end_of_marks (take (length xs) ys) = ap end_of_marks (sym p.prefix) in
    let short : min (end_of_marks (take k ys)) (spool_end i) ≡ end_of_marks (take c xs) =
    rw (fits_end i xs h f, end) (min_ends k (length xs) ys ∙ ap end_of_marks prefix) in
    let reach : min offset (spool_end i) ≡ end_of_marks (take c xs) = ap (λ x. min x (spool_end i)) at.ends ∙ short in
    record {
      cut = f.cut;
      begins = f.begins;
      base = f.base;
      entries = f.entries;
      heads = record { within = omega (arith, f.heads.within); ends = rw (reach, f.heads.ends) (max_ends h c xs) };
      order = omega (arith, f.order);
    }

-- the head rises to a place of the image's own list
pub fits_raised : (i : Image) (xs : List Mark) (h offset k : ℕ) → Fits i xs h → PlaceSeen xs offset k → Fits (raised offset i) xs (max h k)
fits_raised i xs h offset k f at =
    let low : min offset (spool_end i) ≡ end_of_marks (take k xs) = omega (arith, at.ends, fits_end i xs h f, end_whole xs, end_more k (length xs) xs at.within) in
    record {
      cut = f.cut;
      begins = f.begins;
      base = f.base;
      entries = f.entries;
      heads = record { within = omega (arith, f.heads.within, at.within); ends = rw (low, f.heads.ends) (max_ends h k xs) };
      order = omega (arith, f.order);
    }

-- ---- the store's end

-- An empty image at the store's end is a cut of the store's list and a reset: the cut is behind the reset, the head before
-- it, at the same offset.
pub fits_store : (text : List Mark) (end : ℕ) → end ≡ end_of_marks text → Fits (empty_at end) (text ++ Reset ∷ []) (length text)
fits_store text end e =
    let xs = text ++ Reset ∷ [] in
    let size : length xs ≡ length text + 1 = length_push text Reset in
    let all : take (length text + 1) xs ≡ xs = take_all (length text + 1) xs (omega (arith, size)) in
    record {
      cut = length text + 1;
      begins = record { within = omega (arith, size); ends = rw all (omega (arith, e, end_append text (Reset ∷ []))) };
      base = rw all (sym (registers_append [] text (Reset ∷ [])));
      entries = drop_of_length-le xs (omega (arith, size));
      heads = record { within = omega (arith, size); ends = rw (take-append-le (length text) text (Reset ∷ []) (omega arith)) (e ∙ sym (end_whole text)) };
      order = omega arith;
    }
