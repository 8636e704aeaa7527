use Rattle.std.proofs.Common.{◌≡◌, ◌+◌, ◌++◌, length}
use denote.Text.{Utf8}
use denote.Shadow.{shadow}
use Rattle.gz_store.specs.Commits.{pieces}
use Rattle.gz_store.proofs.commit.push_writes.Given as goal

abbrev pub invariant-pieces : goal.invariant-pieces
invariant-pieces l =
    shadow (Utf8 l.rest)
    × (l.kinds.items ++ pieces (length l.rest) l.fnode l.offset l.rest ≡ l.fn.kinds.items ++ pieces (length l.fn.text) l.fnode 0 l.fn.text)
    × (l.offset + length l.rest ≡ length l.fn.text)

abbrev pub decreases-pieces : goal.decreases-pieces
decreases-pieces l = length l.rest
