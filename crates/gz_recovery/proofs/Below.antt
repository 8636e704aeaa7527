-- Nodes have numbers below the next operation's, and no more paths than that.
use Rattle.std.proofs.Common.{◌≡◌, ℕ, ◌+◌, ◌-◌, ◌<◌, ◌≤◌, ◌==◌, ◌||◌, List, [], ◌∷◌, ◌++◌, length, arith, Bool, true, Option, Some, None, nat_cmp, eqb-true, subst}
use Rattle.std.specs.Prelude.{IfSome, is_some, nat_le}
use Rattle.std.specs.declared.cmp.Ordering.{Ordering}
use Rattle.std.specs.declared.cmp.Ordering.TheVariants.{Less, Equal, Greater}
use Rattle.std.specs.Ordering.{match_ordering}
use Rattle.std.specs.Map.{lookup, set_value, remove_entry}
use Rattle.std.specs.BTreeMap.{insert_entry}
use Rattle.std.proofs.lemmas.Bool.{cond_both, and_parts}
use Rattle.gz_recovery.specs.Operations.{Op, max_seq}
use Rattle.gz_recovery.specs.declared.files.Node.{Node}
use Rattle.gz_recovery.specs.declared.op.OpKind.{OpKind}
use Rattle.gz_recovery.specs.declared.op.OpKind.TheVariants.{Create, Link, Unlink, Write, Property, Handoff}
use Rattle.gz_recovery.specs.Files.{Nodes, Files, Fsm, AreBelow, is_node, live, named, links_set, with_links, linked, unlinked, unlinked_from, text_set, appended, link_to, write_to, does, accepts, is_author, is_handoff}

pub grows : (es : Nodes) (n m : ℕ) → n ≤ m → AreBelow n es → AreBelow m es
grows [] n m h b = tt
grows (e ∷ es) n m h b = (omega (arith, h, b.0), omega (arith, h, b.1), grows es n m h b.2)

insert_below : (es : Nodes) (k m : ℕ) (node : Node) → k < m → node.links ≤ m → AreBelow m es → AreBelow m (insert_entry nat_cmp es k node)
insert_below [] k m node low few b = (low, few, tt)
insert_below (e ∷ es) k m node low few b = by_order (nat_cmp k e.0) (insert_below es k m node low few b.2)
  where
    by_order : (o : Ordering) → AreBelow m (insert_entry nat_cmp es k node) → AreBelow m (match_ordering o ((k, node) ∷ e ∷ es) ((e.0, node) ∷ es) (e ∷ insert_entry nat_cmp es k node))
    by_order Less ih = (low, few, b)
    by_order Equal ih = (b.0, few, b.2)
    by_order Greater ih = (b.0, b.1, ih)

set_below : (test : ℕ → Bool) (es : Nodes) (m : ℕ) (node : Node) → node.links ≤ m → AreBelow m es → AreBelow m (set_value test es node)
set_below test [] m node few b = tt
set_below test (e ∷ es) m node few b =
    cond_both (test e.0) ((e.0, node) ∷ es) (e ∷ set_value test es node) (λ ns. AreBelow m ns) (λ _. (b.0, few, b.2)) (λ _. (b.0, b.1, set_below test es m node few b.2))

remove_below : (test : ℕ → Bool) (es : Nodes) (m : ℕ) → AreBelow m es → AreBelow m (remove_entry test es)
remove_below test [] m b = tt
remove_below test (e ∷ es) m b =
    cond_both (test e.0) es (e ∷ remove_entry test es) (λ ns. AreBelow m ns) (λ _. b.2) (λ _. (b.0, b.1, remove_below test es m b.2))

found_below : (test : ℕ → Bool) (es : Nodes) (m : ℕ) → AreBelow m es → IfSome (lookup test es) (λ node. node.links ≤ m)
found_below test [] m b = tt
found_below test (e ∷ es) m b =
    cond_both (test e.0) (Some e.1) (lookup test es) (λ o. IfSome o (λ node. node.links ≤ m)) (λ _. b.1) (λ _. found_below test es m b.2)

some_mono : (o : Option Node) (n m : ℕ) → n ≤ m → IfSome o (λ node. node.links ≤ n) → IfSome o (λ node. node.links ≤ m)
some_mono None n m h b = tt
some_mono (Some node) n m h b = omega (arith, h, b)

-- a live node has no more paths than the greatest number
pub links_below : (n seq : ℕ) (nodes : Nodes) → AreBelow seq nodes → seq ≤ max_seq → IfSome (live n nodes) (λ node. node.links ≤ max_seq)
links_below n seq nodes b small = some_mono (live n nodes) seq max_seq small (found_below (is_node n) nodes seq b)

links_set_below : (n links m : ℕ) (o : Option Node) (nodes : Nodes) → links ≤ m → AreBelow m nodes → AreBelow m (links_set n links o nodes)
links_set_below n links m None nodes few b = b
links_set_below n links m (Some node) nodes few b = set_below (is_node n) nodes m (record node { links = links }) few b

text_set_below : (n m : ℕ) (text : List ℕ) (o : Option Node) (nodes : Nodes) → IfSome o (λ node. node.links ≤ m) → AreBelow m nodes → AreBelow m (text_set n text o nodes)
text_set_below n m text None nodes few b = b
text_set_below n m text (Some node) nodes few b = set_below (is_node n) nodes m (record node { text = node.text ++ text }) few b

unlinked_from_below : (n m : ℕ) (o : Option Node) (nodes : Nodes) → IfSome o (λ node. node.links ≤ m) → AreBelow m nodes → AreBelow m (unlinked_from n o nodes)
unlinked_from_below n m None nodes few b = b
unlinked_from_below n m (Some node) nodes few b =
    cond_both (nat_le node.links 1) (remove_entry (is_node n) nodes) (with_links n (node.links - 1) nodes) (λ ns. AreBelow m ns)
    (λ _. remove_below (is_node n) nodes m b)
    (λ _. links_set_below n (node.links - 1) m (live n nodes) nodes (omega (arith, few)) b)

unlinked_below : (m : ℕ) (o : Option ℕ) (nodes : Nodes) → AreBelow m nodes → AreBelow m (unlinked o nodes)
unlinked_below m None nodes b = b
unlinked_below m (Some n) nodes b = unlinked_from_below n m (live n nodes) nodes (found_below (is_node n) nodes m b) b

abbrev Kept : ℕ → Option Files → Type 0
Kept m o = IfSome o (λ t. AreBelow m t.nodes)

link_below : (n m : ℕ) (path : List ℕ) (files : Files) (o : Option Node) → IfSome o (λ node. node.links + 1 ≤ m) → AreBelow m files.nodes → Kept m (link_to n path files o)
link_below n m path files None few b = tt
link_below n m path files (Some node) few b =
    unlinked_below m (named path files.paths) (linked n node files.nodes) (links_set_below n (node.links + 1) m (live n files.nodes) files.nodes few b)

write_below : (n offset m : ℕ) (text : List ℕ) (files : Files) (o : Option Node) → AreBelow m files.nodes → Kept m (write_to n offset text files o)
write_below n offset m text files None b = tt
write_below n offset m text files (Some node) b =
    cond_both (offset == length node.text) (Some (record files { nodes = appended n text files.nodes })) None (λ o. Kept m o)
    (λ _. text_set_below n m text (live n files.nodes) files.nodes (found_below (is_node n) files.nodes m b) b) (λ _. tt)

one_more : (o : Option Node) (m : ℕ) → IfSome o (λ node. node.links ≤ m) → IfSome o (λ node. node.links + 1 ≤ m + 1)
one_more None m b = tt
one_more (Some node) m b = omega (arith, b)

kept : (seq : ℕ) (kind : OpKind) (files : Files) → AreBelow seq files.nodes → Kept (seq + 1) (does seq kind files)
kept seq (Create path) files b =
    cond_both (is_some (named path files.paths)) None (Some _) (λ o. Kept (seq + 1) o) (λ _. tt)
    (λ _. insert_below files.nodes seq (seq + 1) (record { text = []; links = 1 }) (omega arith) (omega arith) (grows files.nodes seq (seq + 1) (omega arith) b))
kept seq (Link n path) files b =
    link_below n (seq + 1) path files (live n files.nodes) (one_more (live n files.nodes) seq (found_below (is_node n) files.nodes seq b)) (grows files.nodes seq (seq + 1) (omega arith) b)
kept seq (Unlink path) files b =
    cond_both (is_some (named path files.paths)) (Some _) None (λ o. Kept (seq + 1) o)
    (λ _. unlinked_below (seq + 1) (named path files.paths) files.nodes (grows files.nodes seq (seq + 1) (omega arith) b)) (λ _. tt)
kept seq (Write n offset text) files b = write_below n offset (seq + 1) text files (live n files.nodes) (grows files.nodes seq (seq + 1) (omega arith) b)
kept seq (Property path text) files b = grows files.nodes seq (seq + 1) (omega arith) b
kept seq Handoff files b = grows files.nodes seq (seq + 1) (omega arith) b

-- after an operation of the next number they are below the number after it
pub below_after : (seq : ℕ) (kind : OpKind) (files t : Files) → AreBelow seq files.nodes → does seq kind files ≡ Some t → AreBelow (seq + 1) t.nodes
below_after seq kind files t b e = subst (λ (o : Option Files). Kept (seq + 1) o) e (kept seq kind files b)

-- an accepted operation has the next number
pub seq_next : (s : Fsm) (op : Op) → accepts s op ≡ true → op.seq ≡ s.next
seq_next s op e = eqb-true op.seq s.next (and_parts (op.seq == s.next) (is_author s.author op.author || is_handoff op.kind) e).0
