use Rattle.std.proofs.Common.{ap, sym, subst, ◌∙◌, cond, is_ok}
use Rattle.std.specs.List.{insert}
use Rattle.gz_keyspace.specs.Keys.{KeyMap}
use Rattle.gz_keyspace.specs.Mirrors.{IsAscending}
use Rattle.gz_keyspace.specs.Rows.{IsAt, IsGap}
use Rattle.gz_keyspace.proofs.RowLemmas.{put_found, put_in_gap, ascending_put}
use Rattle.gz_keyspace.proofs.rows.put_row.Goals as goal

pub returns-in-Ok-clause-value : goal.returns-in-Ok-clause-value
returns-in-Ok-clause-value c =
    let at = subst (λ (rows : KeyMap). IsAt c.args.key rows c.in-Ok.place) c.as_slice.ensures.value c.in-Ok.ensures.found in
    put_found c.args.key c.args.held c.args.rows.now.items c.in-Ok.place c.requires.ordered at.within at.has_key

pub returns-in-Ok-clause-ordered : goal.returns-in-Ok-clause-ordered
returns-in-Ok-clause-ordered c =
    let at = subst (λ (rows : KeyMap). IsAt c.args.key rows c.in-Ok.place) c.as_slice.ensures.value c.in-Ok.ensures.found in
    subst IsAscending (sym (put_found c.args.key c.args.held c.args.rows.now.items c.in-Ok.place c.requires.ordered at.within at.has_key))
    (ascending_put c.args.key c.args.held c.args.rows.now.items c.requires.ordered)

pub returns-in-Err-clause-value : goal.returns-in-Err-clause-value
returns-in-Err-clause-value c =
    let gap = subst (λ (rows : KeyMap). IsGap c.args.key rows c.in-Err.place) c.as_slice.ensures.value c.in-Err.ensures.absent in
    c.insert.ensures.items
    ∙ ap (λ r. cond (is_ok r) (insert c.args.rows.now.items c.in-Err.place (c.args.key, c.args.held)) c.args.rows.now.items) c.unwrap.ensures
    ∙ put_in_gap c.args.key c.args.held c.args.rows.now.items c.in-Err.place gap

pub returns-in-Err-clause-ordered : goal.returns-in-Err-clause-ordered
returns-in-Err-clause-ordered c =
    let gap = subst (λ (rows : KeyMap). IsGap c.args.key rows c.in-Err.place) c.as_slice.ensures.value c.in-Err.ensures.absent in
    let is = c.insert.ensures.items
    ∙ ap (λ r. cond (is_ok r) (insert c.args.rows.now.items c.in-Err.place (c.args.key, c.args.held)) c.args.rows.now.items) c.unwrap.ensures
    ∙ put_in_gap c.args.key c.args.held c.args.rows.now.items c.in-Err.place gap in
    subst IsAscending (sym is) (ascending_put c.args.key c.args.held c.args.rows.now.items c.requires.ordered)
