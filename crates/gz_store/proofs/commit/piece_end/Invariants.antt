use Rattle.std.proofs.Common.{◌≡◌, ◌≤◌}
use Rattle.gz_store.specs.Commits.{piece_end}
use Rattle.gz_store.proofs.commit.piece_end.Given as goal

abbrev pub invariant-back : goal.invariant-back
invariant-back l = record {
  rest : piece_end l.end l.text ≡ piece_end 65536 l.text;
  within : l.end ≤ 65536;
}

abbrev pub decreases-back : goal.decreases-back
decreases-back l = l.end
