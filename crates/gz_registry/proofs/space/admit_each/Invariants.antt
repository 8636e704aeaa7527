use Rattle.std.proofs.Common.{◌≡◌, ◌+◌, drop}
use Rattle.gz_keyspace.specs.Space.{revision_of}
use Rattle.gz_registry.specs.Registered.{seen, members_in, each_joined, OnlyMembers, AreNew}
use Rattle.gz_registry.proofs.space.admit_each.Given as goal

abbrev pub invariant-loop-one : goal.invariant-loop-one
invariant-loop-one l = record {
  value : each_joined (drop l.one-index l.joined) (seen l.keys l.members.entries) ≡ each_joined l.joined (seen l.fn.keys l.fn.members.entries);
  new : AreNew (drop l.one-index l.joined) (members_in l.members.entries);
  only : OnlyMembers (seen l.keys l.members.entries);
  count : revision_of l.keys.changes ≡ revision_of l.fn.keys.changes + l.one-index;
}
