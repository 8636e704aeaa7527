use Rattle.std.proofs.Common.{◌≡◌, ◌+◌, drop}
use Rattle.gz_promise.specs.Journals.{place_of}
use Rattle.gz_plain.proofs.journals.place_among.Given as goal

abbrev pub invariant-loop-i : goal.invariant-loop-i
invariant-loop-i l = l.i + place_of l.name (drop l.i l.journals) ≡ place_of l.name l.journals
