use Rattle.std.proofs.Common.{◌≡◌, ◌++◌, take}
use Rattle.gz_spool.proofs.spool.append_copies.Given as goal

abbrev pub invariant-loop-entry : goal.invariant-loop-entry
invariant-loop-entry l = l.out.items ≡ l.fn.out.items ++ take l.entry-index l.entries
