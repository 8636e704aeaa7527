-- What a client is told of an append, and what lands.
use Rattle.std.specs.Prelude.{ℕ, List, [], ◌∷◌, ◌++◌, length, Option, Some, None, Bool, true, false, if◌then◌else◌, nat_le, codes}
use Rattle.std.specs.Fmt.{decimal}
use Rattle.gz_label.specs.declared.label.Label.{Label}
use Rattle.gz_label.specs.Labels.{print_of}
use Rattle.gz_journal.specs.JournalList.{is_landed}
use Rattle.gz_journal.specs.declared.judgement.Landed.{Landed}
use Rattle.gz_journal.specs.declared.judgement.Landed.TheVariants as landed
use Rattle.gz_spec.specs.declared.framing.Framing.{Framing}
use Rattle.gz_spec.specs.declared.framing.Framing.TheVariants.{Lines, FixedFrames, RecoveryLog, Bytes}
use Rattle.gz_client.specs.declared.answer.Answer.{Answer}
use Rattle.gz_client.specs.declared.answer.Answer.TheVariants.{NameUsed, NoRoute, TooLarge, NotFramed, Judged}
use Rattle.gz_client.specs.declared.answer.TheConstants.{MAX_APPEND}

-- ---- before the journal is asked

-- Lines may land in journals of lines and of any bytes. No line begins a fixed frame.
abbrev pub takes_lines : Framing → Bool
takes_lines Lines = true
takes_lines FixedFrames = false
takes_lines RecoveryLog = false
takes_lines Bytes = true

abbrev pub refusal_at : Framing → ℕ → Option Answer
refusal_at framing len = if nat_le len MAX_APPEND then (if takes_lines framing then None else Some NotFramed) else Some TooLarge

-- no journal, or one of this framing
abbrev pub refusal_in : Option Framing → ℕ → Option Answer
refusal_in None len = Some NoRoute
refusal_in (Some framing) len = refusal_at framing len

-- The first of these that holds: the client's name isn't free; there is no such journal; there are too many bytes; the
-- journal takes no lines. Otherwise the journal is asked.
abbrev pub refusal_of : Bool → Option Framing → ℕ → Option Answer
refusal_of is_taken framing len = if is_taken then Some NameUsed else refusal_in framing len

-- ---- the answer

-- the refusal, or what the journal judged
abbrev pub answer_of : Option Answer → Landed → Answer
answer_of None judged = Judged judged
answer_of (Some answer) judged = answer

-- the content stands in the journal
abbrev pub stands : Answer → Bool
stands NameUsed = false
stands NoRoute = false
stands TooLarge = false
stands NotFramed = false
stands (Judged l) = is_landed l

-- ---- its text

-- the labels, or `-` where there are none
abbrev pub labels_text : List Label → List ℕ
labels_text [] = codes "-"
labels_text (l ∷ ls) = print_of (l ∷ ls)

abbrev pub landed_text : Landed → List ℕ
landed_text (landed.Landed begin end) = codes "ok " ++ (decimal begin ++ (codes " " ++ decimal end))
landed_text (landed.WrongOffset head) = codes "wrong offset " ++ decimal head
landed_text (landed.RegisterMismatch registers) = codes "register mismatch " ++ labels_text registers
landed_text (landed.TooLarge limit) = codes "too large " ++ decimal limit

abbrev pub answer_text : Answer → List ℕ
answer_text NameUsed = codes "name used"
answer_text NoRoute = codes "no route"
answer_text TooLarge = codes "too large " ++ decimal MAX_APPEND
answer_text NotFramed = codes "not framed"
answer_text (Judged l) = landed_text l
