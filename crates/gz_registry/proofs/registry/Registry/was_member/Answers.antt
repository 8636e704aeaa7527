use Rattle.std.proofs.Common.{◌∙◌}
use Rattle.gz_registry.proofs.Members.{was_in}
use Rattle.gz_registry.proofs.registry.Registry.was_member.Goals as goal

pub returns : goal.returns
returns c = rw (← c.self.view_is) (c.contains_key.ensures ∙ was_in c.args.name.now c.self.inside.members.entries)
