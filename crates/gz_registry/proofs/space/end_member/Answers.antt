use Rattle.std.proofs.Common.{sym}
use Rattle.gz_registry.proofs.Members.{expired}
use Rattle.gz_registry.proofs.space.end_member.Goals as goal

pub returns-in_ok-revision-in-Some-clause-ok : goal.returns-in_ok-revision-in-Some-clause-ok
returns-in_ok-revision-in-Some-clause-ok c =
    expired c.args.name.now c.args.keys.now c.end_lease.new.keys c.args.members.now.entries c.in-Some.lease.now (sym c.in-Some.ensures.value) c.in_ok-revision-in-Some.ensures.ok
