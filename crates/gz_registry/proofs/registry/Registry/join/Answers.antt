use Rattle.std.proofs.Common.{sym, subst}
use Rattle.gz_registry.specs.Registered.{seen, OnlyMembers}
use Rattle.gz_registry.proofs.Members.{only_after_join}
use Rattle.gz_registry.proofs.registry.Registry.join.Goals as goal

pub invariant_of-self-2 : goal.invariant_of-self-2
invariant_of-self-2 c =
    subst OnlyMembers (sym c.in_ok-lease.ensures.ok) (only_after_join c.args.joined.now (seen c.self.inside.keys c.self.inside.members.entries) c.self.invariant)
