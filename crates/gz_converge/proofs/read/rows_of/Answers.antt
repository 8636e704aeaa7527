use Rattle.std.proofs.Common.{◌≡◌, ◌++◌, ℕ, [], ◌∷◌, length, rules, ap, sym, ◌∙◌}
use Rattle.std.specs.Prelude.{slice_get}
use Rattle.gz_converge.specs.Views.{row_of}
use Rattle.gz_converge.proofs.Reading.{rows_next, rows_end}
use Rattle.gz_converge.proofs.read.rows_of.Goals as goal

pub loop-row-preserved : goal.loop-row-preserved
loop-row-preserved c =
    let at : c.len.result ≡ length c.loop-row.rows.items = search (rules, c.len.ensures) in
    let more : c.push.new.self.items ≡ c.loop-row.rows.items ++ c.in-Some.row ∷ [] = search (rules, c.in_ok-push.ensures) in
    rows_next (λ row. row_of row.0.now row.1.now row.2) c.loop-row.rows.items c.push.new.self.items c.in-Some.row c.args.keys.now.keys c.loop-row.invariant
    (ap (λ (n : ℕ). slice_get c.args.keys.now.keys n) (sym at) ∙ sym c.in-Some.ensures.value) more

pub returns : goal.returns
returns c =
    let at : c.len.result ≡ length c.loop-row.rows.items = search (rules, c.len.ensures) in
    rows_end (λ row. row_of row.0.now row.1.now row.2) c.loop-row.rows.items c.args.keys.now.keys c.loop-row.invariant
    (ap (λ (n : ℕ). slice_get c.args.keys.now.keys n) (sym at) ∙ sym c.in_default.ensures.value)
