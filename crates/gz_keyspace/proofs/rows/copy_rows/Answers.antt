use Rattle.std.proofs.Common.{◌++◌, ◌∷◌, [], sym, ap, ◌∙◌, option_map}
use Rattle.gz_keyspace.proofs.SortLemmas.{take_at}
use Rattle.gz_keyspace.proofs.rows.copy_rows.Goals as goal

pub loop-place-preserved : goal.loop-place-preserved
loop-place-preserved c =
    c.in_ok-push.ensures.items
    ∙ (λ i. c.loop-place.invariant i ++ (c.in_ok-copy.ensures i, c.in_ok-copy-2.ensures i) ∷ [])
    ∙ sym (take_at c.args.table.now.entries c.loop-place.place (c.unwrap.result.0.now, c.unwrap.result.1.now)
    (sym c.get_index.ensures.entry ∙ ap (option_map _) c.unwrap.ensures))
