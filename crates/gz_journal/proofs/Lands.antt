-- The registers behind a request.
use Rattle.std.proofs.Common.{◌≡◌, ℕ, ◌+◌, List, [], ◌∷◌, ◌++◌, length, refl, ap, ◌∙◌, cond, not, nat_lt, Option, Some, None, Bool, true, false}
use Rattle.gz_label.specs.declared.label.Label.{Label}
use Rattle.gz_label.specs.declared.entry.Entry.{Entry}
use Rattle.gz_label.specs.Selectors.{matches}
use Rattle.gz_journal.specs.declared.request.Request.{Request}
use Rattle.gz_journal.specs.declared.judgement.Judged.{Judged}
use Rattle.gz_journal.specs.declared.judgement.Landed.TheVariants.{WrongOffset, TooLarge}
use Rattle.gz_journal.specs.declared.judgement.Landed.TheVariants as landed
use Rattle.gz_journal.specs.JournalList.{end_of, registers_of, max_end, is_empty, is_expected, refused, mismatch, change_of, changed_at, judgement, judged_of, entry_of, appended}
use Rattle.gz_journal.specs.Laws.{Lands}

-- those of an entry behind the others
pub pushed : (es : List Entry) (e : Entry) → registers_of (es ++ e ∷ []) ≡ e.registers
pushed [] e = refl
pushed (x ∷ []) e = refl
pushed (x ∷ y ∷ es) e = pushed (y ∷ es) e

-- the registers are those that the judgement says
abbrev IsAfter : Judged → Request → List Entry → Type 0
IsAfter judged r es = registers_of (appended judged r es) ≡ judged.after

after_landed : (over empty : Bool) (end : ℕ) (es : List Entry) (changed : List Label) (r : Request) → is_empty r ≡ empty
    → IsAfter (cond over (refused (TooLarge max_end) (registers_of es)) (record { landed = landed.Landed end (end + length r.content); after = cond (is_empty r) (registers_of es) changed })) r es
after_landed true empty end es changed r is = refl
after_landed false true end es changed r is = rw is refl
after_landed false false end es changed r is = rw is (pushed es (entry_of r changed))

after_changed : (change : Option (List Label)) (end : ℕ) (es : List Entry) (r : Request) → IsAfter (changed_at end (registers_of es) change r) r es
after_changed None end es r = refl
after_changed (Some changed) end es r = after_landed (nat_lt max_end (end + length r.content)) (is_empty r) end es changed r refl

after_judged : (expected matching : Bool) (end : ℕ) (es : List Entry) (r : Request)
    → IsAfter (cond (not expected) (refused (WrongOffset end) (registers_of es)) (cond (not matching) (refused (mismatch (registers_of es)) (registers_of es)) (changed_at end (registers_of es) (change_of r (registers_of es)) r))) r es
after_judged false matching end es r = refl
after_judged true false end es r = refl
after_judged true true end es r = after_changed (change_of r (registers_of es)) end es r

same_judged : (end : ℕ) (registers : List Label) (es : List Entry) (r : Request) → end ≡ end_of es → registers ≡ registers_of es → judgement end registers r ≡ judged_of es r
same_judged end registers es r ends are = ap (λ (n : ℕ). judgement n registers r) ends ∙ ap (λ (ls : List Label). judgement (end_of es) ls r) are

pub lands : (es : List Entry) (r : Request) → Lands es r
lands es r = record {
  judged = λ end registers ends are. same_judged end registers es r ends are;
  after = after_judged (is_expected r.offset (end_of es)) (matches r.selector (registers_of es)) (end_of es) es r;
}
