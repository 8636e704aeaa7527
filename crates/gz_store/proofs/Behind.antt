-- Operations of a log, and those of an author behind them.
use Rattle.std.proofs.Common.{◌≡◌, ℕ, ◌+◌, ◌<◌, ◌≤◌, List, [], ◌∷◌, ◌++◌, length, refl, ap, sym, ◌∙◌, arith, Bool, true, false, cond, ◌&&◌, ◌||◌, eqb, eq-eqb, Option, Some, None, subst, nat_cmp}
use Rattle.std.specs.Prelude.{option_and_then, option_map, is_some, IfSome, ⊤}
use Rattle.std.specs.Ordering.{match_ordering}
use Rattle.std.specs.declared.cmp.Ordering.{Ordering}
use Rattle.std.specs.declared.cmp.Ordering.TheVariants.{Less, Equal, Greater}
use Rattle.std.specs.Cmp.Lexicographic.{slice_cmp}
use Rattle.std.specs.Map.{remove_entry}
use Rattle.std.specs.BTreeMap.{insert_entry}
use Rattle.std.proofs.lemmas.Bool.{cond_both}
use Rattle.gz_recovery.specs.Operations.{Op}
use Rattle.gz_recovery.specs.declared.op.OpKind.{OpKind}
use Rattle.gz_recovery.specs.declared.op.OpKind.TheVariants.{Create, Link, Unlink, Write, Property, Handoff}
use Rattle.gz_recovery.specs.declared.files.Node.{Node}
use Rattle.gz_recovery.specs.Files.{Fsm, new_fsm, Files, Nodes, Paths, AreBelow, accepts, after_op, applied, numbered_on, does, is_handoff, is_path, is_node, named, live, appended, link_to, write_to}
use Rattle.gz_recovery.proofs.Below.{below_after, seq_next}
use Rattle.gz_store.specs.Commits.{numbered}
use Rattle.gz_store.proofs.LastCommits.{after_ops}
use Rattle.gz_store.proofs.Orders.{same_node}

-- ---- one after another

pub ops_join : (xs ys : List Op) (s : Fsm) → after_ops s (xs ++ ys) ≡ option_and_then (λ t. after_ops t ys) (after_ops s xs)
ops_join [] ys s = refl
ops_join (op ∷ xs) ys s = by (after_op op s) (λ t. ops_join xs ys t)
  where
    by : (o : Option Fsm) → ((t : Fsm) → after_ops t (xs ++ ys) ≡ option_and_then (λ u. after_ops u ys) (after_ops t xs))
        → option_and_then (λ t. after_ops t (xs ++ ys)) o ≡ option_and_then (λ u. after_ops u ys) (option_and_then (λ t. after_ops t xs) o)
    by None ih = refl
    by (Some t) ih = ih t

-- what the kinds do, numbered on
abbrev pub does_all : ℕ → List OpKind → Files → Option Files
does_all n [] files = Some files
does_all n (kind ∷ kinds) files = option_and_then (λ f. does_all (n + 1) kinds f) (does n kind files)

pub does_join : (xs ys : List OpKind) (n : ℕ) (files : Files) → does_all n (xs ++ ys) files ≡ option_and_then (λ f. does_all (n + length xs) ys f) (does_all n xs files)
does_join [] ys n files = let e : n ≡ n + 0 = omega arith in ap (λ (m : ℕ). does_all m ys files) e
does_join (kind ∷ xs) ys n files = by (does n kind files) (λ f. does_join xs ys (n + 1) f)
  where
    count : n + 1 + length xs ≡ n + length (kind ∷ xs)
    count = omega arith

    by : (o : Option Files) → ((f : Files) → does_all (n + 1) (xs ++ ys) f ≡ option_and_then (λ g. does_all (n + 1 + length xs) ys g) (does_all (n + 1) xs f))
        → option_and_then (λ f. does_all (n + 1) (xs ++ ys) f) o ≡ option_and_then (λ g. does_all (n + length (kind ∷ xs)) ys g) (option_and_then (λ f. does_all (n + 1) xs f) o)
    by None ih = refl
    by (Some f) ih = ih f ∙ ap (λ (m : ℕ). option_and_then (λ g. does_all m ys g) (does_all (n + 1) xs f)) count

-- ---- an author's operations, which are accepted

abbrev pub machine : ℕ → ℕ → Files → Fsm
machine n author files = record { next = n; author = Some author; files = files }

itself : (n : ℕ) → eqb n n ≡ true
itself n = eq-eqb n n refl

one_taken : (kind : OpKind) (n author : ℕ) (files : Files) →
    after_op (record { author = author; seq = n; kind = kind }) (machine n author files) ≡ option_map (λ f. machine (n + 1) author f) (does n kind files)
one_taken kind n author files =
    let op : Op = record { author = author; seq = n; kind = kind } in
    let s : Fsm = machine n author files in
    ap (λ (b : Bool). cond (b && (eqb author author || is_handoff kind)) (applied op s) (Some s)) (itself n)
    ∙ ap (λ (b : Bool). cond (true && (b || is_handoff kind)) (applied op s) (Some s)) (itself author)
    ∙ by (is_handoff kind) (does n kind files)
  where
    by : (b : Bool) (o : Option Files) → option_map (λ f. record { next = n + 1; author = cond b (Some author) (Some author); files = f }) o ≡ option_map (λ f. machine (n + 1) author f) o
    by true o = refl
    by false o = refl

pub all_taken : (kinds : List OpKind) (n author : ℕ) (files : Files) →
    after_ops (machine n author files) (numbered author n kinds) ≡ option_map (λ f. machine (n + length kinds) author f) (does_all n kinds files)
all_taken [] n author files = let e : n ≡ n + 0 = omega arith in ap (λ (m : ℕ). Some (machine m author files)) e
all_taken (kind ∷ kinds) n author files =
    ap (λ (o : Option Fsm). option_and_then (λ t. after_ops t (numbered author (n + 1) kinds)) o) (one_taken kind n author files)
    ∙ by (does n kind files) (λ f. all_taken kinds (n + 1) author f)
  where
    count : n + 1 + length kinds ≡ n + length (kind ∷ kinds)
    count = omega arith

    by : (o : Option Files) → ((f : Files) → after_ops (machine (n + 1) author f) (numbered author (n + 1) kinds) ≡ option_map (λ g. machine (n + 1 + length kinds) author g) (does_all (n + 1) kinds f))
        → option_and_then (λ t. after_ops t (numbered author (n + 1) kinds)) (option_map (λ f. machine (n + 1) author f) o)
        ≡ option_map (λ g. machine (n + length (kind ∷ kinds)) author g) (option_and_then (λ f. does_all (n + 1) kinds f) o)
    by None ih = refl
    by (Some f) ih = ih f ∙ ap (λ (m : ℕ). option_map (λ g. machine m author g) (does_all (n + 1) kinds f)) count

-- ---- nodes have numbers below the next operation's, those that paths name too

abbrev pub PathsBelow : ℕ → Paths → Type 0
PathsBelow next [] = ⊤
PathsBelow next (e ∷ es) = (e.1 < next) × PathsBelow next es

pub record IsSound (s : Fsm) : Type 0 where
  pub nodes : AreBelow s.next s.files.nodes
  pub paths : PathsBelow s.next s.files.paths

paths_grow : (es : Paths) (n m : ℕ) → n ≤ m → PathsBelow n es → PathsBelow m es
paths_grow [] n m h b = tt
paths_grow (e ∷ es) n m h b = (omega (arith, h, b.0), paths_grow es n m h b.1)

insert_below : (es : Paths) (path : List ℕ) (n m : ℕ) → n < m → PathsBelow m es → PathsBelow m (insert_entry (slice_cmp nat_cmp) es path n)
insert_below [] path n m low b = (low, tt)
insert_below (e ∷ es) path n m low b = by (slice_cmp nat_cmp path e.0) (insert_below es path n m low b.1)
  where
    by : (o : Ordering) → PathsBelow m (insert_entry (slice_cmp nat_cmp) es path n)
        → PathsBelow m (match_ordering o ((path, n) ∷ e ∷ es) ((e.0, n) ∷ es) (e ∷ insert_entry (slice_cmp nat_cmp) es path n))
    by Less ih = (low, b)
    by Equal ih = (low, b.1)
    by Greater ih = (b.0, ih)

remove_below : (test : List ℕ → Bool) (es : Paths) (m : ℕ) → PathsBelow m es → PathsBelow m (remove_entry test es)
remove_below test [] m b = tt
remove_below test (e ∷ es) m b = cond_both (test e.0) es (e ∷ remove_entry test es) (λ ps. PathsBelow m ps) (λ _. b.1) (λ _. (b.0, remove_below test es m b.1))

-- a live node has a number below
live_below : (es : Nodes) (n m : ℕ) → AreBelow m es → IfSome (live n es) (λ _. n < m)
live_below [] n m b = tt
live_below (e ∷ es) n m b =
    cond_both (is_node n e.0) (Some e.1) (live n es) (λ o. IfSome o (λ _. n < m)) (λ at. omega (arith, same_node n e.0 at, b.0)) (λ _. live_below es n m b.2)

abbrev Kept : ℕ → Option Files → Type 0
Kept m o = IfSome o (λ f. PathsBelow m f.paths)

link_keeps : (n m : ℕ) (path : List ℕ) (files : Files) (o : Option Node) → IfSome o (λ _. n < m) → PathsBelow m files.paths → Kept m (link_to n path files o)
link_keeps n m path files None low b = tt
link_keeps n m path files (Some node) low b = insert_below files.paths path n m low b

write_keeps : (n offset m : ℕ) (text : List ℕ) (files : Files) (o : Option Node) → PathsBelow m files.paths → Kept m (write_to n offset text files o)
write_keeps n offset m text files None b = tt
write_keeps n offset m text files (Some node) b = cond_both (eqb offset (length node.text)) (Some (record files { nodes = appended n text files.nodes })) None (λ o. Kept m o) (λ _. b) (λ _. tt)

above : (n m : ℕ) (o : Option Node) → IfSome o (λ _. n < m) → IfSome o (λ _. n < m + 1)
above n m None low = tt
above n m (Some node) low = omega (arith, low)

paths_kept : (seq : ℕ) (kind : OpKind) (files : Files) → AreBelow seq files.nodes → PathsBelow seq files.paths → Kept (seq + 1) (does seq kind files)
paths_kept seq (Create path) files a b =
    cond_both (is_some (named path files.paths)) None (Some _) (λ o. Kept (seq + 1) o) (λ _. tt)
    (λ _. insert_below files.paths path seq (seq + 1) (omega arith) (paths_grow files.paths seq (seq + 1) (omega arith) b))
paths_kept seq (Link n path) files a b =
    link_keeps n (seq + 1) path files (live n files.nodes) (above n seq (live n files.nodes) (live_below files.nodes n seq a)) (paths_grow files.paths seq (seq + 1) (omega arith) b)
paths_kept seq (Unlink path) files a b =
    cond_both (is_some (named path files.paths)) (Some _) None (λ o. Kept (seq + 1) o)
    (λ _. remove_below (is_path path) files.paths (seq + 1) (paths_grow files.paths seq (seq + 1) (omega arith) b)) (λ _. tt)
paths_kept seq (Write n offset text) files a b = write_keeps n offset (seq + 1) text files (live n files.nodes) (paths_grow files.paths seq (seq + 1) (omega arith) b)
paths_kept seq (Property path text) files a b = paths_grow files.paths seq (seq + 1) (omega arith) b
paths_kept seq Handoff files a b = paths_grow files.paths seq (seq + 1) (omega arith) b

made_sound : (op : Op) (s : Fsm) → IsSound s → op.seq ≡ s.next → IfSome (applied op s) (λ t. IsSound t)
made_sound op s sound next = by (does op.seq op.kind s.files) refl
  where
    low_nodes : AreBelow op.seq s.files.nodes
    low_nodes = subst (λ (n : ℕ). AreBelow n s.files.nodes) (sym next) sound.nodes

    low_paths : PathsBelow op.seq s.files.paths
    low_paths = subst (λ (n : ℕ). PathsBelow n s.files.paths) (sym next) sound.paths

    by : (o : Option Files) → does op.seq op.kind s.files ≡ o → IfSome (option_map (numbered_on op s) o) (λ t. IsSound t)
    by None e = tt
    by (Some f) e = record {
      nodes = below_after op.seq op.kind s.files f low_nodes e;
      paths = subst (λ (o : Option Files). Kept (op.seq + 1) o) e (paths_kept op.seq op.kind s.files low_nodes low_paths);
    }

one_sound : (op : Op) (s : Fsm) → IsSound s → IfSome (after_op op s) (λ t. IsSound t)
one_sound op s sound = cond_both (accepts s op) (applied op s) (Some s) (λ o. IfSome o (λ t. IsSound t)) (λ taken. made_sound op s sound (seq_next s op taken)) (λ _. sound)

all_sound : (ops : List Op) (s : Fsm) → IsSound s → IfSome (after_ops s ops) (λ t. IsSound t)
all_sound [] s sound = sound
all_sound (op ∷ ops) s sound = by (after_op op s) (one_sound op s sound) (λ t known. all_sound ops t known)
  where
    by : (o : Option Fsm) → IfSome o (λ t. IsSound t) → ((t : Fsm) → IsSound t → IfSome (after_ops t ops) (λ u. IsSound u)) → IfSome (option_and_then (λ t. after_ops t ops) o) (λ u. IsSound u)
    by None known ih = tt
    by (Some t) known ih = ih t known

-- the machine of a log
pub log_sound : (ops : List Op) (s : Fsm) → after_ops new_fsm ops ≡ Some s → IsSound s
log_sound ops s made = subst (λ (o : Option Fsm). IfSome o (λ t. IsSound t)) made (all_sound ops new_fsm (record { nodes = tt; paths = tt }))
