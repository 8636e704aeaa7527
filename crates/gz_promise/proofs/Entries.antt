-- What an append makes of a journal's entries.
use Rattle.std.proofs.Common.{◌≡◌, ℕ, ◌+◌, ◌==◌, List, [], ◌∷◌, ◌++◌, length, refl, ap, sym, ◌∙◌, subst, Bool, true, false, cond, nat_lt, Option, Some, None, append-nil}
use Rattle.std.proofs.Math.Dec.{eqb-suc-zero}
use Rattle.std.proofs.lemmas.List.Concat.{flat_map-append}
use Rattle.gz_label.specs.declared.entry.Attempt.{Attempt}
use Rattle.gz_label.specs.declared.entry.Entry.{Entry}
use Rattle.gz_label.specs.declared.label.Label.{Label}
use Rattle.gz_journal.specs.declared.judgement.Judged.{Judged}
use Rattle.gz_journal.specs.declared.judgement.Landed.TheVariants.{TooLarge}
use Rattle.gz_journal.specs.declared.judgement.Landed.TheVariants as landed
use Rattle.gz_journal.specs.JournalList.{text_of, end_of, registers_of, max_end, is_landed, plain, refused, judgement, judged_of, entry_of, with_entry, appended}
use Rattle.gz_promise.specs.Journals.{with_bytes, entries_after}

-- the bytes are behind the text
pub text_with_bytes : (attempt : Attempt) (bytes : List ℕ) (es : List Entry) → text_of (with_bytes attempt bytes es) ≡ text_of es ++ bytes
text_with_bytes attempt [] es = sym (append-nil (text_of es))
text_with_bytes attempt (b ∷ bs) es =
    let e : Entry = record { attempt = attempt; bytes = b ∷ bs; registers = registers_of es } in
    flat_map-append (λ (o : Entry). o.bytes) es (e ∷ []) ∙ ap (λ (back : List ℕ). text_of es ++ back) (append-nil (b ∷ bs))

-- the judgement where there are no registers
abbrev judged_at : Bool → List Entry → List ℕ → Judged
judged_at over es bytes = cond over (refused (TooLarge max_end) []) (record { landed = landed.Landed (end_of es) (end_of es + length bytes); after = cond (length bytes == 0) [] [] })

is_judged : (es : List Entry) (attempt : Attempt) (bytes : List ℕ) → registers_of es ≡ [] → judged_of es (plain attempt bytes) ≡ judged_at (nat_lt max_end (end_of es + length bytes)) es bytes
is_judged es attempt bytes none = ap (λ (ls : List Label). judgement (end_of es) ls (plain attempt bytes)) none

-- bytes become an entry behind the others, and no bytes become none
lands_one : (none : Bool) (es : List Entry) (attempt : Attempt) (b : ℕ) (bs : List ℕ) → registers_of es ≡ [] → none ≡ false
    → with_entry (cond none None (Some (end_of es + length (b ∷ bs)))) (entry_of (plain attempt (b ∷ bs)) (cond none [] [])) es ≡ with_bytes attempt (b ∷ bs) es
lands_one true es attempt b bs registers is = cc
lands_one false es attempt b bs registers is = ap (λ (ls : List Label). es ++ record { attempt = attempt; bytes = b ∷ bs; registers = ls } ∷ []) (sym registers)

lands_at : (over : Bool) (es : List Entry) (attempt : Attempt) (bytes : List ℕ) → registers_of es ≡ []
    → appended (judged_at over es bytes) (plain attempt bytes) es ≡ cond (is_landed (judged_at over es bytes).landed) (with_bytes attempt bytes es) es
lands_at true es attempt bytes registers = refl
lands_at false es attempt [] registers = refl
lands_at false es attempt (b ∷ bs) registers = lands_one (length (b ∷ bs) == 0) es attempt b bs registers (eqb-suc-zero (length bs))

-- Where a journal has no registers, what it makes of an append is one entry, where it lands, and nothing else.
pub lands_behind : (es : List Entry) (attempt : Attempt) (bytes : List ℕ) → registers_of es ≡ []
    → appended (judged_of es (plain attempt bytes)) (plain attempt bytes) es ≡ entries_after attempt bytes es
lands_behind es attempt bytes registers =
    let P : Judged → Type 0 = λ judged. appended judged (plain attempt bytes) es ≡ cond (is_landed judged.landed) (with_bytes attempt bytes es) es in
    subst P (sym (is_judged es attempt bytes registers)) (lands_at (nat_lt max_end (end_of es + length bytes)) es attempt bytes registers)
