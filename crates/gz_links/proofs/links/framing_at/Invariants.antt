use Rattle.std.proofs.Common.{◌≡◌, drop}
use Rattle.gz_links.specs.Links.{framing_at}
use Rattle.gz_links.proofs.links.framing_at.Given as goal

abbrev pub invariant-loop-journal : goal.invariant-loop-journal
invariant-loop-journal l = framing_at (drop l.journal-index l.journals) l.name ≡ framing_at l.journals l.name
