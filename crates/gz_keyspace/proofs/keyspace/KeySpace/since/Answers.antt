use Rattle.std.proofs.Common.{◌∙◌, ap, drop}
use Rattle.gz_keyspace.proofs.SpaceLemmas.{later}
use Rattle.gz_keyspace.proofs.keyspace.KeySpace.since.Goals as goal

pub returns-clause-value : goal.returns-clause-value
returns-clause-value c = rw (← c.self.view_is) (c.in_ok-changes.ensures ∙ c.behind-later.ensures ∙ ap (drop c.args.after) c.as_slice.ensures.value ∙ later c.args.after c.self.inside.tables.changes.items c.self.invariant.1)
