use Rattle.std.proofs.Common.{◌<◌, sym, subst, inl, arith}
use Rattle.gz_alloc.specs.Flow.{cells_of}
use Rattle.gz_alloc.specs.Search.{rank, Opens}
use Rattle.gz_alloc.proofs.SearchLemmas.{rank_left, opens, opened}
use Rattle.gz_alloc.proofs.search.Search.open_roomy.Goals as goal

pub open-requires-clause-found : goal.open-requires-clause-found
open-requires-clause-found c =
    rank_left c.args.network.now (cells_of c.args.flags.now) c.args.self.now c.requires.net c.requires.search c.args.m c.requires.within (omega arith)

pub returns-then-load-limit-clause-opens : goal.returns-then-load-limit-clause-opens
returns-then-load-limit-clause-opens c =
    subst (λ new. Opens c.args.network.now (cells_of c.args.flags.now) c.args.self.now new) (sym c.open.ensures)
    (opens c.args.network.now (cells_of c.args.flags.now) c.args.self.now c.requires.net c.requires.search c.args.m 0 0 c.requires.within (omega arith) (inl (omega arith)))

pub returns-then-load-limit-clause-roomy : goal.returns-then-load-limit-clause-roomy
returns-then-load-limit-clause-roomy c = λ less.
    subst (λ new. rank new c.args.m < 64) (sym c.open.ensures)
    (opened c.args.network.now (cells_of c.args.flags.now) c.args.self.now c.requires.net c.requires.search c.args.m 0 0 c.requires.within (omega arith))
