-- Requests that expect no offset and leave the registers as they are.
use Rattle.std.proofs.Common.{◌≡◌, ℕ, ◌+◌, ◌≤◌, ◌^◌, ◌==◌, List, [], ◌∷◌, ◌++◌, length, refl, ap, ◌∙◌, cond, nat_lt, Bool, true, false, arith, append-nil}
use Rattle.std.proofs.lemmas.Bool.{eqb-true}
use Rattle.std.proofs.lemmas.Grind.{common_steps}
use Rattle.std.proofs.lemmas.List.{length-append}
use Rattle.gz_label.specs.declared.entry.Attempt.{Attempt}
use Rattle.gz_label.specs.declared.entry.Entry.{Entry}
use Rattle.gz_label.specs.declared.label.Label.{Label}
use Rattle.gz_journal.specs.declared.request.Request.{Request}
use Rattle.gz_journal.specs.declared.judgement.Judged.{Judged}
use Rattle.gz_journal.specs.declared.judgement.Landed.TheVariants.{TooLarge}
use Rattle.gz_journal.specs.declared.judgement.Landed.TheVariants as landed
use Rattle.gz_journal.specs.JournalList.{text_of, end_of, registers_of, max_end, is_empty, is_landed, plain, refused, judgement, judged_of, entry_of, appended}
use Rattle.gz_journal.proofs.Ends.{text_more}
use Rattle.gz_journal.proofs.Lands.{pushed}

-- what becomes of the request where there are no registers
abbrev judged_plain : Bool → Bool → ℕ → Request → Judged
judged_plain over empty end r = cond over (refused (TooLarge max_end) []) (record { landed = landed.Landed end (end + length r.content); after = cond empty [] [] })

is_judged : (es : List Entry) (attempt : Attempt) (content : List ℕ) → registers_of es ≡ []
    → judged_of es (plain attempt content) ≡ judged_plain (nat_lt max_end (end_of es + length content)) (length content == 0) (end_of es) (plain attempt content)
is_judged es attempt content none = ap (λ (ls : List Label). judgement (end_of es) ls (plain attempt content)) none

text_behind : (es : List Entry) (e : Entry) → text_of (es ++ e ∷ []) ≡ text_of es ++ e.bytes
text_behind es e = text_more es (e ∷ []) ∙ ap (λ (bs : List ℕ). text_of es ++ bs) (append-nil e.bytes)

registers_plain : (over empty : Bool) (es : List Entry) (r : Request) → is_empty r ≡ empty → registers_of es ≡ [] → registers_of (appended (judged_plain over empty (end_of es) r) r es) ≡ []
registers_plain true empty es r is none = none
registers_plain false true es r is none = rw is none
registers_plain false false es r is none = rw is (pushed es (entry_of r []))

end_plain : (over empty : Bool) (es : List Entry) (r : Request) → nat_lt max_end (end_of es + length r.content) ≡ over → is_empty r ≡ empty → end_of es ≤ 2 ^ 62
    → end_of (appended (judged_plain over empty (end_of es) r) r es) ≤ 2 ^ 62
end_plain true empty es r over is short = short
end_plain false true es r over is short = rw is short
end_plain false false es r over is short =
    let less : end_of es + length r.content ≤ max_end = grind (arith, common_steps) in
    let joined : end_of (es ++ entry_of r [] ∷ []) ≡ end_of es + length r.content =
    ap (λ (bs : List ℕ). length bs) (text_behind es (entry_of r [])) ∙ length-append (text_of es) r.content in
    rw is (omega (arith, less, joined))

-- ---- what an append makes of a journal without registers

-- there are still none
pub plain_registers : (es : List Entry) (attempt : Attempt) (content : List ℕ) → registers_of es ≡ []
    → registers_of (appended (judged_of es (plain attempt content)) (plain attempt content) es) ≡ []
plain_registers es attempt content none =
    rw (is_judged es attempt content none)
    (registers_plain (nat_lt max_end (end_of es + length content)) (length content == 0) es (plain attempt content) refl none)

-- and the end is at most 2^62
pub plain_end : (es : List Entry) (attempt : Attempt) (content : List ℕ) → registers_of es ≡ [] → end_of es ≤ 2 ^ 62
    → end_of (appended (judged_of es (plain attempt content)) (plain attempt content) es) ≤ 2 ^ 62
plain_end es attempt content none short =
    rw (is_judged es attempt content none)
    (end_plain (nat_lt max_end (end_of es + length content)) (length content == 0) es (plain attempt content) refl refl short)
