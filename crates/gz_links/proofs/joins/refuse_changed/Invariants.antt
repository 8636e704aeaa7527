use Rattle.std.proofs.Common.{◌≡◌, drop}
use Rattle.gz_links.specs.Joins.{contents_kept}
use Rattle.gz_links.proofs.joins.refuse_changed.Given as goal

abbrev pub invariant-loop-i : goal.invariant-loop-i
invariant-loop-i l = contents_kept l.old l.i (drop l.i l.more) ≡ contents_kept l.old 0 l.more
