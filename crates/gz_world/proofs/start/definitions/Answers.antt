use Rattle.std.specs.Map.Iter.{deref_pair}
use Rattle.std.proofs.lemmas.Map.Iter.{rest_more}
use Rattle.gz_world.proofs.Begun.{definitions_next}
use Rattle.gz_world.proofs.start.definitions.Goals as goal

pub loop-shard-preserved : goal.loop-shard-preserved
loop-shard-preserved c =
    let i = c.loop-shard.invariant in
    let more = rest_more deref_pair c.loop-shard.shard-iterator c.next.new.self c.next.result (c.in-Some.field-0-0, c.in-Some.shard) c.in-Some.is c.next.ensures.steps in
    let next = definitions_next _ _ _ _ _ _ _ _ c.in_ok-push.ensures.items more c.in_ok-one.ensures.value c.in_ok-one.ensures.small i.made i.lawful i.small in
    record { made = next.0; lawful = next.1.0; small = next.1.1 }
