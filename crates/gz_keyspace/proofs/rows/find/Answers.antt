use Rattle.std.proofs.Common.{ap, ◌∙◌, List, ℕ, [], Some}
use Rattle.std.proofs.lemmas.List.{get_or_default}
use Rattle.gz_keyspace.specs.declared.table.Held.{Held}
use Rattle.gz_keyspace.proofs.RowLemmas.{held_found, held_in_gap}
use Rattle.gz_keyspace.proofs.rows.find.Goals as goal

pub returns-in-Ok : goal.returns-in-Ok
returns-in-Ok c =
    ap (λ (row : List ℕ × Held). Some row.1) (get_or_default c.args.rows.now c.in-Ok.place c.index-rows-place.result ([], record { value = []; mod_revision = 0 }) c.in-Ok.ensures.found.within)
    ∙ held_found c.args.key.now c.args.rows.now c.in-Ok.place c.requires c.in-Ok.ensures.found.within c.in-Ok.ensures.found.has_key

pub returns-in-Err : goal.returns-in-Err
returns-in-Err c = held_in_gap c.args.key.now c.args.rows.now _ c.in-Err.ensures.absent
