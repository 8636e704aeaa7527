use Rattle.std.proofs.Common.{sym, ap, subst, ◌∙◌}
use Rattle.gz_alloc.specs.Flow.{Keeps, total, cells_of}
use Rattle.gz_alloc.specs.Search.{IsWhole}
use Rattle.gz_alloc.specs.Names.{cut_capacity, cut_members}
use Rattle.gz_alloc.proofs.Certificate.{whole_cut}
use Rattle.gz_alloc.proofs.RiseLemmas.{size_is_length}
use Rattle.gz_alloc.proofs.choice.finish.Goals as goal

pub returns-clause-cut : goal.returns-clause-cut
returns-clause-cut c =
    let keeps = subst (λ net. Keeps net (cells_of c.solve.new.flags)) c.requires.numbers c.in_ok-search.ensures.keeps in
    let whole = subst (λ net. IsWhole net (cells_of c.solve.new.flags) c.in_ok-search.search) c.requires.numbers c.in_ok-search.ensures.whole in
    ap (λ l. cut_capacity c.args.problem.now l c.in_ok-zones.zones.items) c.in_ok-members.ensures
    ∙ ap (λ l. cut_capacity c.args.problem.now (cut_members c.args.problem.now c.in_ok-search.search) l) c.in_ok-zones.ensures
    ∙ whole_cut c.args.problem.now c.requires.problem (cells_of c.solve.new.flags) c.in_ok-search.search keeps whole
    ∙ ap (λ net. total net (cells_of c.solve.new.flags)) (sym c.requires.numbers) ∙ sym (c.in_ok-placement.ensures.feasible.1)

pub returns-clause-length : goal.returns-clause-length
returns-clause-length c = size_is_length c.args.problem.now c.requires.problem c.in_ok-placement.placement (c.in_ok-placement.ensures.feasible.0.known) c.in_ok-placement.ensures.ordered
