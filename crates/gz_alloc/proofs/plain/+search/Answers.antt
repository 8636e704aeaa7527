use Rattle.std.proofs.Common.{◌+◌, ◌<◌, ◌≤◌, subst, arith}
use Rattle.gz_alloc.specs.Flow.{IsTable, items, members, cells_of}
use Rattle.gz_alloc.specs.Plain.{AgreeBefore, IsMostOf}
use Rattle.gz_alloc.proofs.PlainLemmas.{most_of_one, most_of_both}
use Rattle.gz_alloc.proofs.plain.+search.Goals as goal

pub returns-then-items-i-clause-most : goal.returns-then-items-i-clause-most
returns-then-items-i-clause-most t c =
    let past : items c.args.network.now ≤ c.args.i = omega arith in
    most_of_one c.args.network.now (cells_of c.args.flags.now) c.args.i c.args.m c.greater.result c.requires.net past c.greater.ensures.most

pub returns-clause-most : goal.returns-clause-most
returns-clause-most t c =
    let item : c.args.i < items c.args.network.now = omega arith in
    let member : c.args.m < members c.args.network.now = omega arith in
    let table : IsTable c.args.network.now c.search-without.new.flags = omega arith in
    let stays = subst (λ f. AgreeBefore c.args.network.now (cells_of f) (cells_of c.search-without.new.flags) c.args.i (c.args.m + 1)) c.set.ensures c.search-without.ensures.stays in
    let without = subst (λ f. IsMostOf c.args.network.now (cells_of f) c.args.i (c.args.m + 1) c.search-without.result) c.set.ensures c.search-without.ensures.most in
    let both = subst (λ f. IsMostOf c.args.network.now (cells_of f) c.args.i (c.args.m + 1) c.search-both.result) c.set-2.ensures c.search-both.ensures.most in
    most_of_both c.args.network.now c.args.flags.now c.search-without.new.flags c.args.i c.args.m c.search-without.result c.search-both.result c.requires.net c.requires.table table item member stays without c.search-both.ensures.grows both
