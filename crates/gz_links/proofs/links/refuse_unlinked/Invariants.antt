use Rattle.std.proofs.Common.{◌≡◌, drop}
use Rattle.gz_links.specs.Links.{all_linked}
use Rattle.gz_links.proofs.links.refuse_unlinked.Given as goal

abbrev pub invariant-loop-i : goal.invariant-loop-i
invariant-loop-i l = all_linked l.journals l.i (drop l.i l.shards) ≡ all_linked l.journals 0 l.shards
