-- What the operations of a commit make of files.
use Rattle.std.proofs.Common.{◌≡◌, ℕ, zero, suc, ◌+◌, ◌-◌, ◌<◌, ◌≤◌, List, [], ◌∷◌, ◌++◌, length, take, drop, refl, ap, sym, ◌∙◌, arith, Bool, true, false, cond, eq-eqb, leb-false, Option, Some, None, subst, append_assoc, append-nil, nat_cmp, Result, Ok, Err}
use Rattle.std.specs.Prelude.{option_and_then, option_map, is_some, IfSome, nat_le, slice_index}
use Rattle.std.specs.Cmp.Lexicographic.{slice_cmp}
use Rattle.std.specs.Map.{set_value, remove_entry}
use Rattle.std.specs.BTreeMap.{insert_entry}
use Rattle.std.proofs.lemmas.List.{take-append-drop, length-append}
use Rattle.std.proofs.lemmas.Bool.{cond_both}
use Rattle.gz_recovery.specs.Operations.{Op, max_seq}
use Rattle.gz_recovery.specs.declared.error.RecordError.{RecordError}
use Rattle.gz_recovery.specs.declared.error.RecordError.TheVariants.{SeqEnd}
use Rattle.gz_recovery.specs.declared.op.OpKind.{OpKind}
use Rattle.gz_recovery.specs.declared.op.OpKind.TheVariants.{Create, Link, Unlink, Write}
use Rattle.gz_recovery.specs.declared.files.Node.{Node}
use Rattle.gz_recovery.specs.Files.{Fsm, Recorder, new_fsm, Files, Nodes, Paths, is_path, is_node, named, live, links_set, linked, unlinked, unlinked_from, with_links, text_set, appended, does, link_to, write_to, file_at}
use Rattle.gz_store.specs.Stores.{Store, load, loaded_from, loaded_as, store_text, store_read, state_path}
use Rattle.gz_store.specs.Commits.{next_path, max_piece, goes_on, piece_end, piece_len, pieces, commit_kinds, numbered, numbered_within, ComesBack}
use Rattle.gz_store.proofs.LastCommits.{after_ops, after_accepted}
use Rattle.gz_store.proofs.Lookups.{put_here, put_there, set_here, set_there, removed_there}
use Rattle.gz_store.proofs.Orders.{paths_order, nodes_order, paths_apart, nodes_apart}
use Rattle.gz_store.proofs.Behind.{does_all, does_join, machine, all_taken, ops_join, IsSound, PathsBelow, log_sound}

abbrev inside : {A E : Type 0} → A → Result A E → A
inside d (Ok x) = x
inside d (Err e) = d

-- ---- pieces

ends_above : (n : ℕ) (text : List ℕ) → 0 < piece_end n text
unfolding piece_end
ends_above zero text = omega arith
ends_above (suc n) text = cond_both (goes_on (slice_index text (suc n))) (piece_end n text) (suc n) (λ m. 0 < m) (λ _. ends_above n text) (λ _. omega arith)

ends_within : (n : ℕ) (text : List ℕ) → n ≤ max_piece → piece_end n text ≤ max_piece
unfolding piece_end
ends_within zero text l = omega arith
ends_within (suc n) text l = cond_both (goes_on (slice_index text (suc n))) (piece_end n text) (suc n) (λ m. m ≤ max_piece) (λ _. ends_within n text (omega arith)) (λ _. l)

piece_some : (b : ℕ) (bs : List ℕ) → 0 < piece_len (b ∷ bs)
piece_some b bs = cond_both (nat_le (length (b ∷ bs)) max_piece) (length (b ∷ bs)) (piece_end max_piece (b ∷ bs)) (λ m. 0 < m) (λ _. omega arith) (λ _. ends_above max_piece (b ∷ bs))

-- a piece is no longer than the text
pub piece_within : (text : List ℕ) → piece_len text ≤ length text
piece_within text = cond_both (nat_le (length text) max_piece) (length text) (piece_end max_piece text) (λ m. m ≤ length text) (λ _. omega arith)
    (λ e. omega (arith, ends_within max_piece text (omega arith), leb-false (length text) max_piece e))

drops : (n : ℕ) (xs : List ℕ) → length (drop n xs) ≤ length xs
drops zero xs = omega arith
drops (suc n) [] = omega arith
drops (suc n) (x ∷ xs) = omega (arith, drops n xs)

shorter : (n b : ℕ) (bs : List ℕ) → 0 < n → length (drop n (b ∷ bs)) ≤ length bs
shorter zero b bs l = absurd (omega arith)
shorter (suc n) b bs l = drops n bs

-- behind the first piece of a text there is less
pub piece_less : (b : ℕ) (bs : List ℕ) → length (drop (piece_len (b ∷ bs)) (b ∷ bs)) ≤ length bs
piece_less b bs = shorter (piece_len (b ∷ bs)) b bs (piece_some b bs)

length_taken : (n : ℕ) (xs : List ℕ) → n ≤ length xs → length (take n xs) ≡ n
length_taken zero xs l = refl
length_taken (suc n) [] l = absurd (omega arith)
length_taken (suc n) (x ∷ xs) l = omega (arith, length_taken n xs (omega arith))

-- ---- writes

abbrev node_of : List ℕ → ℕ → Node
node_of text links = record { text = text; links = links }

-- files whose node has another text
abbrev rewritten : ℕ → List ℕ → Files → Files
rewritten n text files = record files { nodes = set_value (is_node n) files.nodes (node_of text 1) }

one_write : (seq n offset : ℕ) (t piece : List ℕ) (files : Files) → offset ≡ length t → live n files.nodes ≡ Some (node_of t 1) →
    does seq (Write n offset piece) files ≡ Some (rewritten n (t ++ piece) files)
one_write seq n offset t piece files ends found =
    ap (λ (o : Option Node). write_to n offset piece files o) found
    ∙ ap (λ (b : Bool). cond b (Some (record files { nodes = appended n piece files.nodes })) None) (eq-eqb offset (length t) ends)
    ∙ ap (λ (o : Option Node). Some (record files { nodes = text_set n piece o files.nodes })) found

-- what the writes of a text leave, behind the text that the node had
record Wrote (n : ℕ) (text : List ℕ) (paths : Paths) (made : Option Files) : Type 0 where
  files : Files
  is : made ≡ Some files
  found : live n files.nodes ≡ Some (node_of text 1)
  kept : files.paths ≡ paths

wrote_none : (seq n : ℕ) (t : List ℕ) (files : Files) → live n files.nodes ≡ Some (node_of t 1) → Wrote n (t ++ []) files.paths (Some files)
wrote_none seq n t files found = record { files = files; is = refl; found = found ∙ ap (λ (u : List ℕ). Some (node_of u 1)) (sym (append-nil t)); kept = refl }

writes : (fuel seq n offset : ℕ) (t text : List ℕ) (files : Files) → offset ≡ length t → length text ≤ fuel → live n files.nodes ≡ Some (node_of t 1)
    → Wrote n (t ++ text) files.paths (does_all seq (pieces fuel n offset text) files)
writes zero seq n offset t [] files ends less found = wrote_none seq n t files found
writes zero seq n offset t (b ∷ bs) files ends less found = absurd (omega arith)
writes (suc fuel) seq n offset t [] files ends less found = wrote_none seq n t files found
writes (suc fuel) seq n offset t (b ∷ bs) files ends less found =
    let len : ℕ = piece_len (b ∷ bs) in
    let piece : List ℕ = take len (b ∷ bs) in
    let more : List ℕ = drop len (b ∷ bs) in
    let next : Files = rewritten n (t ++ piece) files in
    let reach : offset + len ≡ length (t ++ piece) = omega (arith, length-append t piece, ends, length_taken len (b ∷ bs) (piece_within (b ∷ bs))) in
    let whole : (t ++ piece) ++ more ≡ t ++ b ∷ bs = append_assoc t piece more ∙ ap (λ (u : List ℕ). t ++ u) (take-append-drop len (b ∷ bs)) in
    let rest : Wrote n ((t ++ piece) ++ more) files.paths (does_all (seq + 1) (pieces fuel n (offset + len) more) next) =
    writes fuel (seq + 1) n (offset + len) (t ++ piece) more next reach (omega (arith, piece_less b bs, less)) (set_here (is_node n) files.nodes (node_of t 1) (node_of (t ++ piece) 1) found) in
    record {
      files = rest.files;
      is = ap (λ (o : Option Files). option_and_then (λ f. does_all (seq + 1) (pieces fuel n (offset + len) more) f) o) (one_write seq n offset t piece files ends found) ∙ rest.is;
      found = rest.found ∙ ap (λ (u : List ℕ). Some (node_of u 1)) whole;
      kept = rest.kept;
    }

-- ---- the link and the unlink

named_below : (path : List ℕ) (paths : Paths) (m : ℕ) → PathsBelow m paths → IfSome (named path paths) (λ n. n < m)
named_below path [] m b = tt
named_below path (e ∷ es) m b = cond_both (is_path path e.0) (Some e.1) (named path es) (λ o. IfSome o (λ n. n < m)) (λ _. b.0) (λ _. named_below path es m b.1)

-- another node stays where one path less names one
links_there : (m links n : ℕ) (o : Option Node) (nodes : Nodes) → m < n → live n (links_set m links o nodes) ≡ live n nodes
links_there m links n None nodes low = refl
links_there m links n (Some node) nodes low = set_there (is_node m) (is_node n) (nodes_apart m n low) nodes (record node { links = links })

unlinked_there : (m n : ℕ) (o : Option Node) (nodes : Nodes) → m < n → live n (unlinked_from m o nodes) ≡ live n nodes
unlinked_there m n None nodes low = refl
unlinked_there m n (Some node) nodes low =
    cond_both (nat_le node.links 1) (remove_entry (is_node m) nodes) (with_links m (node.links - 1) nodes) (λ ns. live n ns ≡ live n nodes)
    (λ _. removed_there (is_node m) (is_node n) (nodes_apart m n low) nodes)
    (λ _. links_there m (node.links - 1) n (live m nodes) nodes low)

other_stays : (o : Option ℕ) (n : ℕ) (nodes : Nodes) → IfSome o (λ m. m < n) → live n (unlinked o nodes) ≡ live n nodes
other_stays None n nodes low = refl
other_stays (Some m) n nodes low = unlinked_there m n (live m nodes) nodes low

-- how many paths name a live node is set
links_here : (n links : ℕ) (node : Node) (nodes : Nodes) → live n nodes ≡ Some node → live n (with_links n links nodes) ≡ Some (record node { links = links })
links_here n links node nodes found =
    ap (λ (o : Option Node). live n (links_set n links o nodes)) found ∙ set_here (is_node n) nodes node (record node { links = links }) found

-- the text stands at the path of the state
record Ends (text : List ℕ) (made : Option Files) : Type 0 where
  files : Files
  is : made ≡ Some files
  stands : file_at state_path files ≡ Some text

ends : (seq n : ℕ) (text : List ℕ) (files : Files) → live n files.nodes ≡ Some (node_of text 1) → named next_path files.paths ≡ Some n → IfSome (named state_path files.paths) (λ m. m < n)
    → Ends text (does_all seq (Link n state_path ∷ Unlink next_path ∷ []) files)
ends seq n text files found at_next before =
    let paths : Paths = insert_entry (slice_cmp nat_cmp) files.paths state_path n in
    let grown : Nodes = linked n (node_of text 1) files.nodes in
    let nodes : Nodes = unlinked (named state_path files.paths) grown in
    let linked_files : Files = record files { nodes = nodes; paths = paths } in
    let two : live n nodes ≡ Some (node_of text 2) = other_stays (named state_path files.paths) n grown before ∙ links_here n 2 (node_of text 1) files.nodes found in
    let links : does seq (Link n state_path) files ≡ Some linked_files = ap (λ (o : Option Node). link_to n state_path files o) found in
    let next_stays : named next_path paths ≡ Some n = put_there (slice_cmp nat_cmp) paths_order next_path state_path n files.paths refl ∙ at_next in
    let last_nodes : Nodes = with_links n 1 nodes in
    let last_paths : Paths = remove_entry (is_path next_path) paths in
    let last : Files = record files { nodes = last_nodes; paths = last_paths } in
    let goes : unlinked (named next_path paths) nodes ≡ last_nodes = ap (λ (o : Option ℕ). unlinked o nodes) next_stays ∙ ap (λ (o : Option Node). unlinked_from n o nodes) two in
    let unlinks : does (seq + 1) (Unlink next_path) linked_files ≡ Some last =
    ap (λ (o : Option ℕ). cond (is_some o) (Some (record files { nodes = unlinked (named next_path paths) nodes; paths = last_paths })) None) next_stays
    ∙ ap (λ (ns : Nodes). Some (record files { nodes = ns; paths = last_paths })) goes in
    let state_stays : named state_path last_paths ≡ Some n =
    removed_there (is_path next_path) (is_path state_path) (paths_apart next_path state_path refl) paths ∙ put_here (slice_cmp nat_cmp) paths_order state_path n files.paths in
    record {
      files = last;
      is = ap (λ (o : Option Files). option_and_then (λ f. does_all (seq + 1) (Unlink next_path ∷ []) f) o) links ∙ ap (λ (o : Option Files). option_and_then (λ f. Some f) o) unlinks;
      stands = ap (λ (o : Option ℕ). option_and_then (λ m. option_map (λ (node : Node). node.text) (live m last_nodes)) o) state_stays
          ∙ ap (λ (o : Option Node). option_map (λ (node : Node). node.text) o) (links_here n 1 (node_of text 2) nodes two);
    }

-- ---- a whole commit

-- After a commit's operations its text stands at the path of the state.
commit_ends : (n : ℕ) (text : List ℕ) (files : Files) → named next_path files.paths ≡ None → PathsBelow n files.paths → Ends text (does_all n (commit_kinds n text) files)
commit_ends n text files free below =
    let created : Files = record files { nodes = insert_entry nat_cmp files.nodes n (node_of [] 1); paths = insert_entry (slice_cmp nat_cmp) files.paths next_path n } in
    let creates : does n (Create next_path) files ≡ Some created = ap (λ (o : Option ℕ). cond (is_some o) None (Some created)) free in
    let writing : List OpKind = pieces (length text) n 0 text in
    let closing : List OpKind = Link n state_path ∷ Unlink next_path ∷ [] in
    let m : ℕ = n + 1 + length writing in
    let w : Wrote n text created.paths (does_all (n + 1) writing created) = writes (length text) (n + 1) n 0 [] text created refl (omega arith) (put_here nat_cmp nodes_order n (node_of [] 1) files.nodes) in
    let at_next : named next_path w.files.paths ≡ Some n = ap (λ (ps : Paths). named next_path ps) w.kept ∙ put_here (slice_cmp nat_cmp) paths_order next_path n files.paths in
    let at_state : named state_path w.files.paths ≡ named state_path files.paths =
    ap (λ (ps : Paths). named state_path ps) w.kept ∙ put_there (slice_cmp nat_cmp) paths_order state_path next_path n files.paths refl in
    let before : IfSome (named state_path w.files.paths) (λ k. k < n) = subst (λ (o : Option ℕ). IfSome o (λ k. k < n)) (sym at_state) (named_below state_path files.paths n below) in
    let e : Ends text (does_all m closing w.files) = ends m n text w.files w.found at_next before in
    record {
      files = e.files;
      is = ap (λ (o : Option Files). option_and_then (λ f. does_all (n + 1) (writing ++ closing) f) o) creates
          ∙ does_join writing closing (n + 1) created
          ∙ ap (λ (o : Option Files). option_and_then (λ f. does_all m closing f) o) w.is
          ∙ e.is;
      stands = e.stands;
    }

machine_is : (s : Fsm) (r : Recorder) → s.author ≡ Some r.author → s.next ≡ r.next → s ≡ machine r.next r.author s.files
machine_is s r author next = ap (λ (n : ℕ). record s { next = n }) next ∙ ap (λ (a : Option ℕ). record { next = r.next; author = a; files = s.files }) author

-- Behind the operations of a commit its store is loaded.
pub commit_comes_back : (r : Recorder) (store : Store) → store_read (store_text store) ≡ Some store → ComesBack r store (numbered r.author r.next (commit_kinds r.next (store_text store)))
commit_comes_back r store back before s made author next free =
    let kinds : List OpKind = commit_kinds r.next (store_text store) in
    let ops : List Op = numbered r.author r.next kinds in
    let known : after_ops new_fsm before ≡ Some s = after_accepted before new_fsm ∙ made in
    let sound : IsSound s = log_sound before s known in
    let below : PathsBelow r.next s.files.paths = subst (λ (n : ℕ). PathsBelow n s.files.paths) next sound.paths in
    let e : Ends (store_text store) (does_all r.next kinds s.files) = commit_ends r.next (store_text store) s.files free below in
    let done : Fsm = machine (r.next + length kinds) r.author e.files in
    let all : after_ops new_fsm (before ++ ops) ≡ Some done =
    ops_join before ops new_fsm
    ∙ ap (λ (o : Option Fsm). option_and_then (λ t. after_ops t ops) o) known
    ∙ ap (λ (t : Fsm). after_ops t ops) (machine_is s r author next)
    ∙ all_taken kinds r.next r.author s.files
    ∙ ap (λ (o : Option Files). option_map (λ f. machine (r.next + length kinds) r.author f) o) e.is in
    ap (λ (o : Option Fsm). option_map load o) (sym (after_accepted (before ++ ops) new_fsm) ∙ all)
    ∙ ap (λ (o : Option (List ℕ)). Some (loaded_from o)) e.stands
    ∙ ap (λ (o : Option Store). Some (loaded_as o)) back

within_is : (author next : ℕ) (kinds : List OpKind) (ops : List Op) → numbered_within author next kinds ≡ Ok ops → numbered author next kinds ≡ ops
within_is author next kinds ops is = by (nat_le (next + length kinds) (max_seq + 1)) is
  where
    by : (b : Bool) → cond b (Ok (numbered author next kinds)) (Err SeqEnd) ≡ Ok ops → numbered author next kinds ≡ ops
    by true f = ap (λ (r : Result (List Op) RecordError). inside [] r) f
    by false f = cc

-- the operations that were returned
pub returned_come_back : (r : Recorder) (store : Store) (text : List ℕ) (ops : List Op) → text ≡ store_text store → store_read text ≡ Some store
    → numbered_within r.author r.next (commit_kinds r.next text) ≡ Ok ops → ComesBack r store ops
returned_come_back r store text ops is back made =
    let same : commit_kinds r.next text ≡ commit_kinds r.next (store_text store) = ap (λ (t : List ℕ). commit_kinds r.next t) is in
    let printed : store_read (store_text store) ≡ Some store = ap (λ (t : List ℕ). store_read t) (sym is) ∙ back in
    let all : numbered r.author r.next (commit_kinds r.next (store_text store)) ≡ ops =
    ap (λ (kinds : List OpKind). numbered r.author r.next kinds) (sym same) ∙ within_is r.author r.next (commit_kinds r.next text) ops made in
    subst (λ (os : List Op). ComesBack r store os) all (commit_comes_back r store printed)
