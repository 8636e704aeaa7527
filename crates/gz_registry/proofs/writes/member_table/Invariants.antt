use Rattle.std.proofs.Common.{◌≡◌, [], drop, map}
use Rattle.gz_registry.specs.Keys.{put_named, member_named}
use Rattle.gz_registry.proofs.writes.member_table.Given as goal

abbrev pub invariant-loop-member : goal.invariant-loop-member
invariant-loop-member l = put_named (map (member_named l.consumer) (drop l.member-index l.members)) l.table.entries ≡ put_named (map (member_named l.consumer) l.members) []
