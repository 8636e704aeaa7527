use Rattle.std.proofs.Common.{◌≡◌, ◌+◌, drop, length}
use Rattle.gz_plain.specs.Places.{all_appended, places_of}
use Rattle.gz_plain.proofs.writer.append_texts.Given as goal

abbrev pub invariant-loop-text : goal.invariant-loop-text
invariant-loop-text l =
    (l.i + length l.text-iterator.rest.items ≡ length l.writers)
    × (all_appended l.attempt (places_of (drop l.i l.writers)) l.text-iterator.rest.items l.journals ≡ all_appended l.attempt (places_of l.writers) l.fn.texts.items l.initial.journals)
