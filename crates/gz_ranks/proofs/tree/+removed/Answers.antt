use Rattle.std.proofs.Common.{◌≡◌, ◌<◌, length, sym, ap, ◌∙◌, arith, ◌++◌, ◌∷◌}
use Rattle.gz_ranks.specs.Numbers.{without}
use Rattle.gz_ranks.proofs.NumberLemmas.{without_left, without_middle, without_right, length_without}
use Rattle.gz_ranks.proofs.Tops.{at_top, joined}
use Rattle.gz_ranks.proofs.tree.+removed.Goals as goal

pub removed-requires : goal.removed-requires
removed-requires t c =
    let top = at_top c.open.ensures.items c.in-Top.is c.requires.ascending in
    let left : c.replace-left.result ≡ c.in-Top.node.value.left = c.replace-left.ensures.value ∙ ap (λ n. n.left) c.deref_mut.ensures.value in
    (grind (arith, ap length left, top.shorter_before), (rw left top.before, omega (arith, ap length left, top.shorter_before, c.requires.room)))

pub balanced-requires : goal.balanced-requires
balanced-requires t c =
    let top = at_top c.open.ensures.items c.in-Top.is c.requires.ascending in
    let left : c.replace-left.result ≡ c.in-Top.node.value.left = c.replace-left.ensures.value ∙ ap (λ n. n.left) c.deref_mut.ensures.value in
    let right : c.deref_mut-then-number-deref.result.now.right ≡ c.in-Top.node.value.right = ap (λ n. n.right) c.deref_mut-then-number-deref.ensures.value ∙ ap (λ n. n.right) c.deref_mut.ensures.value in
    omega (arith, ap length c.removed.ensures, length_without c.args.number c.replace-left.result, ap length left, ap length right, top.count, c.requires.room)

pub joined-requires : goal.joined-requires
joined-requires t c =
    let top = at_top c.open.ensures.items c.in-Top.is c.requires.ascending in
    omega (arith, top.count, c.requires.room)

pub removed-requires-else-number-deref-2 : goal.removed-requires-else-number-deref-2
removed-requires-else-number-deref-2 t c =
    let top = at_top c.open.ensures.items c.in-Top.is c.requires.ascending in
    let right : c.replace-right.result ≡ c.in-Top.node.value.right = c.replace-right.ensures.value ∙ ap (λ n. n.right) c.deref_mut-else-number-deref-2.ensures.value in
    (grind (arith, ap length right, top.shorter_behind), (rw right top.behind, omega (arith, ap length right, top.shorter_behind, c.requires.room)))

pub balanced-requires-else-number-deref-2 : goal.balanced-requires-else-number-deref-2
balanced-requires-else-number-deref-2 t c =
    let top = at_top c.open.ensures.items c.in-Top.is c.requires.ascending in
    let right : c.replace-right.result ≡ c.in-Top.node.value.right = c.replace-right.ensures.value ∙ ap (λ n. n.right) c.deref_mut-else-number-deref-2.ensures.value in
    let left : c.deref_mut-else-number-deref-2-2.result.now.left ≡ c.in-Top.node.value.left = ap (λ n. n.left) c.deref_mut-else-number-deref-2-2.ensures.value ∙ ap (λ n. n.left) c.deref_mut-else-number-deref-2.ensures.value in
    omega (arith, ap length c.removed-else-number-deref-2.ensures, length_without c.args.number c.replace-right.result, ap length left, ap length right, top.count, c.requires.room)

pub returns-then-number-deref : goal.returns-then-number-deref
returns-then-number-deref t c =
    let top = at_top c.open.ensures.items c.in-Top.is c.requires.ascending in
    let node = c.deref_mut-then-number-deref.ensures.value in
    let left : c.removed.result ≡ without c.args.number c.in-Top.node.value.left = c.removed.ensures ∙ ap (without c.args.number) (c.replace-left.ensures.value ∙ ap (λ n. n.left) c.deref_mut.ensures.value) in
    let number : c.deref_mut-then-number-deref.result.now.number ≡ c.in-Top.node.value.number = ap (λ n. n.number) node ∙ ap (λ n. n.number) c.deref_mut.ensures.value in
    let right : c.deref_mut-then-number-deref.result.now.right ≡ c.in-Top.node.value.right = ap (λ n. n.right) node ∙ ap (λ n. n.right) c.deref_mut.ensures.value in
    let less : c.args.number < c.in-Top.node.value.number = grind arith in
    c.balanced.ensures ∙ joined left number right
    ∙ sym (without_left c.args.number c.in-Top.node.value.left c.in-Top.node.value.number c.in-Top.node.value.right top.whole less)
    ∙ sym (ap (without c.args.number) top.is)

pub returns-then-number-deref-2 : goal.returns-then-number-deref-2
returns-then-number-deref-2 t c =
    let top = at_top c.open.ensures.items c.in-Top.is c.requires.ascending in
    let same : c.args.number ≡ c.in-Top.node.value.number = grind arith in
    c.joined.ensures
    ∙ sym (without_middle c.in-Top.node.value.left c.in-Top.node.value.number c.in-Top.node.value.right top.whole)
    ∙ sym (ap (λ n. without n (c.in-Top.node.value.left ++ c.in-Top.node.value.number ∷ c.in-Top.node.value.right)) same)
    ∙ sym (ap (without c.args.number) top.is)

pub returns-else-number-deref-2 : goal.returns-else-number-deref-2
returns-else-number-deref-2 t c =
    let top = at_top c.open.ensures.items c.in-Top.is c.requires.ascending in
    let node = c.deref_mut-else-number-deref-2-2.ensures.value in
    let left : c.deref_mut-else-number-deref-2-2.result.now.left ≡ c.in-Top.node.value.left = ap (λ n. n.left) node ∙ ap (λ n. n.left) c.deref_mut-else-number-deref-2.ensures.value in
    let number : c.deref_mut-else-number-deref-2-2.result.now.number ≡ c.in-Top.node.value.number = ap (λ n. n.number) node ∙ ap (λ n. n.number) c.deref_mut-else-number-deref-2.ensures.value in
    let right : c.removed-else-number-deref-2.result ≡ without c.args.number c.in-Top.node.value.right = c.removed-else-number-deref-2.ensures ∙ ap (without c.args.number) (c.replace-right.ensures.value ∙ ap (λ n. n.right) c.deref_mut-else-number-deref-2.ensures.value) in
    let more : c.in-Top.node.value.number < c.args.number = grind arith in
    c.balanced-else-number-deref-2.ensures ∙ joined left number right
    ∙ sym (without_right c.args.number c.in-Top.node.value.left c.in-Top.node.value.number c.in-Top.node.value.right top.whole more)
    ∙ sym (ap (without c.args.number) top.is)
