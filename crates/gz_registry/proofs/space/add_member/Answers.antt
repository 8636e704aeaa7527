use Rattle.std.proofs.Common.{◌∙◌, arith, ◌<◌}
use Rattle.indexmap.specs.IndexMap.{spare}
use Rattle.indexmap.proofs.CallerLemmas.{insert_entry-new}
use Rattle.gz_keyspace.specs.Keys.{same_key}
use Rattle.gz_keyspace.proofs.SpaceLemmas.{on_ok}
use Rattle.gz_registry.proofs.space.add_member.Goals as goal

pub returns : goal.returns
returns c =
    let some : 0 < spare c.args.members.now = omega (arith, c.requires.room) in
    on_ok c.insert.result _ (c.insert.ensures.succeeds some) c.insert.ensures.entries
    ∙ insert_entry-new same_key c.args.members.now c.args.id c.args.lease c.requires.new
