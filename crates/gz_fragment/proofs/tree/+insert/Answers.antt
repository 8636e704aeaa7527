use Rattle.std.proofs.Common.{◌≡◌, length, sym, ap, ◌∙◌, arith}
use Rattle.std.specs.declared.cmp.Ordering.TheVariants.{Less, Equal, Greater}
use Rattle.gz_fragment.specs.Names.{name_cmp}
use Rattle.gz_fragment.specs.Fragments.{added}
use Rattle.gz_fragment.proofs.ListLemmas.{added_left, added_middle, added_right, length_added}
use Rattle.gz_fragment.proofs.Tops.{at_top, joined}
use Rattle.gz_fragment.proofs.tree.+insert.Goals as goal

pub insert-requires : goal.insert-requires
insert-requires t c =
    let top = at_top c.open.ensures.items c.in-Top.is c.requires.ascending in
    let left : c.replace-left.result ≡ c.in-Top.node.value.left = c.replace-left.ensures.value ∙ ap (λ n. n.left) c.deref_mut.ensures.value in
    (grind (arith, ap length left, top.shorter_before), (c.requires.alone, (rw left top.before, omega (arith, ap length left, top.shorter_before))))

pub balanced-requires : goal.balanced-requires
balanced-requires t c =
    let top = at_top c.open.ensures.items c.in-Top.is c.requires.ascending in
    let left : c.replace-left.result ≡ c.in-Top.node.value.left = c.replace-left.ensures.value ∙ ap (λ n. n.left) c.deref_mut.ensures.value in
    let right : c.deref_mut-in-Less.result.now.right ≡ c.in-Top.node.value.right = ap (λ n. n.right) c.deref_mut-in-Less.ensures.value ∙ ap (λ n. n.right) c.deref_mut.ensures.value in
    omega (arith, ap length c.insert.ensures, length_added c.args.new.value.fragment c.replace-left.result, ap length left, ap length right, top.count)

pub insert-requires-in-Greater : goal.insert-requires-in-Greater
insert-requires-in-Greater t c =
    let top = at_top c.open.ensures.items c.in-Top.is c.requires.ascending in
    let right : c.replace-right.result ≡ c.in-Top.node.value.right = c.replace-right.ensures.value ∙ ap (λ n. n.right) c.deref_mut-in-Greater.ensures.value in
    (grind (arith, ap length right, top.shorter_behind), (c.requires.alone, (rw right top.behind, omega (arith, ap length right, top.shorter_behind))))

pub balanced-requires-in-Greater : goal.balanced-requires-in-Greater
balanced-requires-in-Greater t c =
    let top = at_top c.open.ensures.items c.in-Top.is c.requires.ascending in
    let right : c.replace-right.result ≡ c.in-Top.node.value.right = c.replace-right.ensures.value ∙ ap (λ n. n.right) c.deref_mut-in-Greater.ensures.value in
    let left : c.deref_mut-in-Greater-2.result.now.left ≡ c.in-Top.node.value.left = ap (λ n. n.left) c.deref_mut-in-Greater-2.ensures.value ∙ ap (λ n. n.left) c.deref_mut-in-Greater.ensures.value in
    omega (arith, ap length c.insert-in-Greater.ensures, length_added c.args.new.value.fragment c.replace-right.result, ap length left, ap length right, top.count)

pub returns-in-Less : goal.returns-in-Less
returns-in-Less t c =
    let top = at_top c.open.ensures.items c.in-Top.is c.requires.ascending in
    let less : name_cmp c.args.new.value.fragment.name c.in-Top.node.value.fragment.name ≡ Less = cc in
    let node = c.deref_mut-in-Less.ensures.value in
    let left : c.insert.result ≡ added c.args.new.value.fragment c.in-Top.node.value.left = c.insert.ensures ∙ ap (added c.args.new.value.fragment) (c.replace-left.ensures.value ∙ ap (λ n. n.left) c.deref_mut.ensures.value) in
    let fragment : c.deref_mut-in-Less.result.now.fragment ≡ c.in-Top.node.value.fragment = ap (λ n. n.fragment) node ∙ ap (λ n. n.fragment) c.deref_mut.ensures.value in
    let right : c.deref_mut-in-Less.result.now.right ≡ c.in-Top.node.value.right = ap (λ n. n.right) node ∙ ap (λ n. n.right) c.deref_mut.ensures.value in
    c.balanced.ensures ∙ joined left fragment right
    ∙ sym (added_left c.args.new.value.fragment c.in-Top.node.value.left c.in-Top.node.value.fragment c.in-Top.node.value.right less)
    ∙ sym (ap (added c.args.new.value.fragment) top.is)

pub returns-in-Equal : goal.returns-in-Equal
returns-in-Equal t c =
    let top = at_top c.open.ensures.items c.in-Top.is c.requires.ascending in
    let same : name_cmp c.args.new.value.fragment.name c.in-Top.node.value.fragment.name ≡ Equal = cc in
    rw top.is (cc (added_middle c.args.new.value.fragment c.in-Top.node.value.left c.in-Top.node.value.fragment c.in-Top.node.value.right top.whole same))

pub returns-in-Greater : goal.returns-in-Greater
returns-in-Greater t c =
    let top = at_top c.open.ensures.items c.in-Top.is c.requires.ascending in
    let greater : name_cmp c.args.new.value.fragment.name c.in-Top.node.value.fragment.name ≡ Greater = cc in
    let node = c.deref_mut-in-Greater-2.ensures.value in
    let left : c.deref_mut-in-Greater-2.result.now.left ≡ c.in-Top.node.value.left = ap (λ n. n.left) node ∙ ap (λ n. n.left) c.deref_mut-in-Greater.ensures.value in
    let fragment : c.deref_mut-in-Greater-2.result.now.fragment ≡ c.in-Top.node.value.fragment = ap (λ n. n.fragment) node ∙ ap (λ n. n.fragment) c.deref_mut-in-Greater.ensures.value in
    let right : c.insert-in-Greater.result ≡ added c.args.new.value.fragment c.in-Top.node.value.right = c.insert-in-Greater.ensures ∙ ap (added c.args.new.value.fragment) (c.replace-right.ensures.value ∙ ap (λ n. n.right) c.deref_mut-in-Greater.ensures.value) in
    c.balanced-in-Greater.ensures ∙ joined left fragment right
    ∙ sym (added_right c.args.new.value.fragment c.in-Top.node.value.left c.in-Top.node.value.fragment c.in-Top.node.value.right top.whole greater)
    ∙ sym (ap (added c.args.new.value.fragment) top.is)
