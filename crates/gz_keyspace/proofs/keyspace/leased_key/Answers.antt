use Rattle.std.proofs.Common.{sym, ap, ◌∙◌, option_map}
use Rattle.gz_keyspace.proofs.SpaceLemmas.{lease_found, lease_passed}
use Rattle.gz_keyspace.proofs.keyspace.leased_key.Goals as goal

pub returns-then-at-lease : goal.returns-then-at-lease
returns-then-at-lease c =
    sym (lease_found c.args.leases.now.entries c.loop-place.place c.unwrap.result.0.now c.unwrap.result.1.now c.args.lease
    (sym c.get_index.ensures.entry ∙ ap (option_map _) c.unwrap.ensures) c.if-at-lease.true)
    ∙ c.loop-place.invariant

pub loop-place-preserved : goal.loop-place-preserved
loop-place-preserved c =
    sym (lease_passed c.args.leases.now.entries c.loop-place.place c.unwrap.result.0.now c.unwrap.result.1.now c.args.lease
    (sym c.get_index.ensures.entry ∙ ap (option_map _) c.unwrap.ensures) c.if-at-lease.false)
    ∙ c.loop-place.invariant
