use Rattle.std.proofs.Common.{arith, ◌≡◌, ◌++◌, ◌-◌, ◌+◌, ◌<◌, ◌∙◌, List, ℕ, drop, length, take, ap, sym}
use Rattle.gz_journal.specs.JournalList.{text_of}
use Rattle.gz_brokering.proofs.Parts.{part_step, no_room, all_read}
use Rattle.gz_brokering.proofs.content.part_of.Goals.{then-entries-test+else-left-gt0, else-entries-test}
use Rattle.gz_brokering.proofs.content.part_of.Goals as goal

pub entries-preserved : goal.entries-preserved
entries-preserved c =
    let within : c.entries.place < length c.args.spool.now.image.entries = omega arith in
    let same : c.as_slice.result.now ≡ c.entry-entry.result.now.bytes = c.as_slice.ensures in
    let done : c.take_part.new.blob ≡ c.entries.bytes ++ take c.entries.left.room (drop c.entries.left.skip c.entry-entry.result.now.bytes) =
    c.in_ok-left.ensures.bytes ∙ ap (λ (xs : List ℕ). c.entries.bytes ++ take c.entries.left.room (drop c.entries.left.skip xs)) same in
    let skip : c.in_ok-left.left.skip ≡ c.entries.left.skip - length c.entry-entry.result.now.bytes =
    c.in_ok-left.ensures.skip ∙ ap (λ (xs : List ℕ). c.entries.left.skip - length xs) same in
    let room : c.in_ok-left.left.room ≡ c.entries.left.room - length (drop c.entries.left.skip c.entry-entry.result.now.bytes) =
    c.in_ok-left.ensures.room ∙ ap (λ (xs : List ℕ). c.entries.left.room - length (drop c.entries.left.skip xs)) same in
    (λ i. done i ++ take (room i) (drop (skip i) (text_of (drop (c.entries.place + 1) c.args.spool.now.image.entries))))
    ∙ part_step c.entries.bytes c.entries.left.skip c.entries.left.room c.args.spool.now.image.entries c.entries.place c.entry-entry.result.now within c.entry-entry.ensures
    ∙ c.entries.invariant

pub returns : goal.returns
returns c = elim c.entries-test.branch [
  | then-entries-test+else-left-gt0 w ↦
      sym (no_room c.entries.bytes (drop c.entries.left.skip (text_of (drop c.entries.place c.args.spool.now.image.entries))) c.entries.left.room (omega arith)) ∙ c.entries.invariant
  | else-entries-test w ↦
      sym (all_read c.entries.bytes c.entries.left.room c.entries.left.skip c.args.spool.now.image.entries c.entries.place (omega arith)) ∙ c.entries.invariant
]
