use Rattle.std.proofs.Common.{ap, arith, length}
use Rattle.gz_fragment.proofs.EndLemmas.{end_begun_left, end_begun_right}
use Rattle.gz_fragment.proofs.Tops.{at_top}
use Rattle.gz_fragment.proofs.tree.Tree.+end_begun.Goals as goal

pub end_begun-requires : goal.end_begun-requires
end_begun-requires t c =
    let top = at_top c.self.view_is c.in-Top.is c.requires in
    (grind (arith, ap (λ n. length n.left) c.deref-then-offset-begin.ensures, top.shorter_before), rw c.deref-then-offset-begin.ensures top.before)

pub end_begun-requires-else-offset-begin : goal.end_begun-requires-else-offset-begin
end_begun-requires-else-offset-begin t c =
    let top = at_top c.self.view_is c.in-Top.is c.requires in
    (grind (arith, ap (λ n. length n.right) c.deref-else-offset-begin-3.ensures, top.shorter_behind), rw c.deref-else-offset-begin-3.ensures top.behind)

pub returns-then-offset-begin : goal.returns-then-offset-begin
returns-then-offset-begin t c =
    let top = at_top c.self.view_is c.in-Top.is c.requires in
    rw top.is (cc (end_begun_left c.args.offset _ _ _ top.whole (grind arith)))

pub returns-else-offset-begin : goal.returns-else-offset-begin
returns-else-offset-begin t c =
    let top = at_top c.self.view_is c.in-Top.is c.requires in
    rw top.is (cc (end_begun_right c.args.offset _ _ _ top.whole (grind arith)))
