use Rattle.std.proofs.Common.{◌∙◌}
use Rattle.gz_registry.specs.Registered.{members_in}
use Rattle.gz_registry.proofs.Elsewhere.{only_put}
use Rattle.gz_registry.proofs.registry.Registry.put.Goals as goal

pub invariant_of-self-2 : goal.invariant_of-self-2
invariant_of-self-2 c =
    let ws = c.as_slice.ensures ∙ c.in_ok-writes.ensures.value in
    only_put c.args.part.now c.as_slice.result.now c.self.inside.keys c.write_all.new.keys (members_in c.self.inside.members.entries) c.in_ok-revision.ensures.ok ws c.self.invariant
