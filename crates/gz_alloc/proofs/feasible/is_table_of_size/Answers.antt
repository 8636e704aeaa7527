use Rattle.std.proofs.Common.{◌*◌, false, replicate, sym, ap, subst, ◌∙◌}
use Rattle.std.proofs.lemmas.Bool.{eqb-true, eqb-false}
use Rattle.gz_alloc.specs.Flow.{Keeps, total, items, cells_of}
use Rattle.gz_alloc.specs.Names.{mark_pairs}
use Rattle.gz_alloc.proofs.Certificate.{table_yes, table_keeps, table_size}
use Rattle.gz_alloc.proofs.feasible.is_table_of_size.Goals as goal

pub returns-then-not-kept-clause-no : goal.returns-then-not-kept-clause-no
returns-then-not-kept-clause-no c = λ _ h.
    let e = c.requires.cells ∙ ap (λ net. mark_pairs c.args.problem.now c.args.pairs.now (replicate (64 * items net) false)) c.requires.numbers in
    c.keeps-kept.ensures.no c.if-not-kept.true (subst (λ net. Keeps net (cells_of c.args.flags.now)) (sym c.requires.numbers) (table_keeps c.args.problem.now c.requires.problem c.args.pairs.now c.args.flags.now c.args.size e h))

pub returns-clause-yes : goal.returns-clause-yes
returns-clause-yes c = λ h.
    let e = c.requires.cells ∙ ap (λ net. mark_pairs c.args.problem.now c.args.pairs.now (replicate (64 * items net) false)) c.requires.numbers in
    table_yes c.args.problem.now c.requires.problem c.args.pairs.now c.args.flags.now c.args.size e (sym c.all_known-known.ensures ∙ c.if-not-known.false)
    (subst (λ net. Keeps net (cells_of c.args.flags.now)) c.requires.numbers (c.keeps-kept.ensures.yes c.if-not-kept.false))
    (ap (λ net. total net (cells_of c.args.flags.now)) (sym c.requires.numbers) ∙ sym c.total-count.ensures ∙ eqb-true c.total-count.result c.args.size h)

pub returns-clause-no : goal.returns-clause-no
returns-clause-no c = λ h p.
    let e = c.requires.cells ∙ ap (λ net. mark_pairs c.args.problem.now c.args.pairs.now (replicate (64 * items net) false)) c.requires.numbers in
    eqb-false c.total-count.result c.args.size h (c.total-count.ensures ∙ ap (λ net. total net (cells_of c.args.flags.now)) c.requires.numbers ∙ table_size c.args.problem.now c.requires.problem c.args.pairs.now c.args.flags.now c.args.size e p)
