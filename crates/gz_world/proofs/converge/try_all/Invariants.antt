use Rattle.std.proofs.Common.{◌≡◌, drop}
use Rattle.gz_world.specs.Worlds.{AreOfNoMember, after_tries}
use Rattle.gz_world.proofs.converge.try_all.Given as goal

abbrev pub invariant-loop-txn : goal.invariant-loop-txn
invariant-loop-txn l = record {
  rest : after_tries (drop l.txn-index l.txns) l.registry ≡ after_tries l.txns l.fn.registry;
  others : AreOfNoMember (drop l.txn-index l.txns);
}
