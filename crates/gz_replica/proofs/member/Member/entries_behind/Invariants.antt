use Rattle.std.proofs.Common.{◌≡◌, ◌++◌, drop}
use Rattle.gz_replica.specs.Resending.{entries_behind}
use Rattle.gz_replica.proofs.member.Member.entries_behind.Given as goal

abbrev pub invariant-loop-one : goal.invariant-loop-one
invariant-loop-one l = l.sends ++ entries_behind l.journal l.epoch l.self (drop l.one-index l.one-items) ≡ entries_behind l.journal l.epoch l.self l.held
