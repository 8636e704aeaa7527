use Rattle.gz_registry.specs.Registered.{seen}
use Rattle.gz_registry.proofs.Members.{only_after_expiry}
use Rattle.gz_registry.proofs.registry.Registry.expire.Goals as goal

pub invariant_of-self-2 : goal.invariant_of-self-2
invariant_of-self-2 c =
    only_after_expiry c.args.name.now (seen c.self.inside.keys c.self.inside.members.entries) (seen c.end_member.new.keys c.self.inside.members.entries) c.self.invariant c.in_ok-revision.ensures.ok
