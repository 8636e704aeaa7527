use Rattle.std.proofs.Common.{sym, subst, ◌∙◌}
use Rattle.gz_keyspace.specs.Keys.{KeyMap}
use Rattle.gz_keyspace.specs.Mirrors.{IsAscending}
use Rattle.gz_keyspace.specs.Rows.{IsAt, IsGap}
use Rattle.gz_keyspace.proofs.RowLemmas.{delete_found, delete_in_gap, ascending_delete}
use Rattle.gz_keyspace.proofs.rows.delete_row.Goals as goal

pub returns-in-Ok-clause-value : goal.returns-in-Ok-clause-value
returns-in-Ok-clause-value c =
    let at = subst (λ (rows : KeyMap). IsAt c.args.key.now rows c.in-Ok.place) c.as_slice.ensures.value c.in-Ok.ensures.found in
    c.remove.ensures.items ∙ delete_found c.args.key.now c.args.rows.now.items c.in-Ok.place c.requires at.within at.has_key

pub returns-in-Ok-clause-ordered : goal.returns-in-Ok-clause-ordered
returns-in-Ok-clause-ordered c =
    let at = subst (λ (rows : KeyMap). IsAt c.args.key.now rows c.in-Ok.place) c.as_slice.ensures.value c.in-Ok.ensures.found in
    let is = c.remove.ensures.items ∙ delete_found c.args.key.now c.args.rows.now.items c.in-Ok.place c.requires at.within at.has_key in
    subst IsAscending (sym is) (ascending_delete c.args.key.now c.args.rows.now.items c.requires)

pub returns-in_default-clause-value : goal.returns-in_default-clause-value
returns-in_default-clause-value c =
    let gap = subst (λ (rows : KeyMap). IsGap c.args.key.now rows c.in_default.field-0) c.as_slice.ensures.value c.in_default.ensures.absent in
    sym (delete_in_gap c.args.key.now c.args.rows.now.items c.in_default.field-0 gap)
