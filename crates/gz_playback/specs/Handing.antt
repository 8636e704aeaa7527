-- A handoff to an author, and what its answer tells.
use Rattle.std.specs.Prelude.{ℕ, List, [], ◌∷◌, Option, Some, None, Result, Ok, Err, ⊤, ◌≡◌, codes}
use Rattle.gz_label.specs.declared.label.Label.{Label}
use Rattle.gz_label.specs.declared.entry.Attempt.{Attempt}
use Rattle.gz_journal.specs.declared.request.Request.{Request}
use Rattle.gz_journal.specs.declared.judgement.Landed.{Landed}
use Rattle.gz_journal.specs.declared.judgement.Landed.TheVariants.{WrongOffset, RegisterMismatch, TooLarge}
use Rattle.gz_journal.specs.declared.judgement.Landed.TheVariants as landed
use Rattle.gz_frame.specs.Frame.{frame_of}
use Rattle.gz_recovery.specs.Operations.{Op, op_text, author_text}
use Rattle.gz_recovery.specs.declared.op.OpKind.TheVariants.{Handoff}
use Rattle.gz_recovery.specs.Files.{next_op}
use Rattle.gz_recovery.specs.declared.error.RecordError.{RecordError}
use Rattle.gz_recovery.specs.declared.error.RecordError.TheVariants.{SeqEnd, NoMemory}
use Rattle.gz_playback.specs.declared.handing.Learnt.{Learnt}
use Rattle.gz_playback.specs.declared.handing.Learnt.TheVariants.{Own, Retry}
use Rattle.gz_playback.specs.Playing.{Player, at}

-- the register `author`, of which the empty value stands for each
abbrev pub author_label : List ℕ → List Label
author_label value = record { name = codes "author"; value = value } ∷ []

-- It expects the offset that the player wants next, and puts the author in place of the one that the register has.
abbrev pub handoff_with : Attempt → Player → Result Op RecordError → Result Request RecordError
handoff_with attempt p (Err e) = Err e
handoff_with attempt p (Ok op) = Ok (record {
  attempt = attempt;
  offset = Some (at p);
  selector = [];
  take = author_label [];
  add = author_label (author_text op.author);
  content = frame_of (op_text op);
})

abbrev pub handoff : ℕ → Attempt → Player → Result Request RecordError
handoff author attempt p = handoff_with attempt p (next_op Handoff (record { author = author; next = p.fsm.next }))

-- what was returned is this, unless memory ran out
abbrev pub HandsOver : Result Request RecordError → Result Request RecordError → Type 0
HandsOver (Ok request) made = made ≡ Ok request
HandsOver (Err SeqEnd) made = made ≡ Err SeqEnd
HandsOver (Err NoMemory) made = ⊤

-- what the answer tells
abbrev pub learnt : Landed → Option Learnt
learnt (landed.Landed begin end) = Some Own
learnt (WrongOffset head) = Some (Retry head)
learnt (RegisterMismatch registers) = None
learnt (TooLarge limit) = None
