-- Which operations of a log are accepted, and the files that they make.
use Rattle.std.specs.Prelude.{ℕ, ◌+◌, ◌-◌, ◌==◌, ◌&&◌, ◌||◌, List, [], ◌∷◌, ◌++◌, length, Bool, true, false, Option, Some, None, is_some, option_map, option_and_then, if◌then◌else◌, nat_le, slice_get, ◌<◌, ◌≤◌, ⊤, ◌≡◌}
use Rattle.std.specs.Ordering.{nat_cmp}
use Rattle.std.specs.Cmp.Lexicographic.{slice_cmp}
use Rattle.std.specs.Map.{lookup, set_value, remove_entry}
use Rattle.std.specs.BTreeMap.{insert_entry, is_at}
use Rattle.gz_recovery.specs.Operations.{Op, max_seq}
use Rattle.gz_recovery.specs.declared.op.OpKind.{OpKind}
use Rattle.gz_recovery.specs.declared.op.OpKind.TheVariants.{Create, Link, Unlink, Write, Property, Handoff}
use Rattle.gz_recovery.specs.declared.files.Node.{Node}
use Rattle.gz_recovery.specs.declared.error.FsmError.{FsmError}
use Rattle.gz_recovery.specs.declared.error.FsmError.TheVariants.{BadOp, NoMemory}
use Rattle.gz_recovery.specs.declared.error.RecordError.{RecordError}
use Rattle.gz_recovery.specs.declared.error.RecordError.TheVariants.{SeqEnd}
use Rattle.std.specs.Prelude.{Result, Ok, Err}

-- ---- which are accepted

abbrev pub is_handoff : OpKind → Bool
is_handoff Handoff = true
is_handoff kind = false

abbrev pub is_author : Option ℕ → ℕ → Bool
is_author None author = false
is_author (Some current) author = current == author

-- it has the next number, and its author is the current one or it is a handoff
abbrev pub accepts_at : ℕ → Option ℕ → Op → Bool
accepts_at next current op = (op.seq == next) && (is_author current op.author || is_handoff op.kind)

-- a handoff's author is the current one from then on
abbrev pub author_after : Option ℕ → Op → Option ℕ
author_after current op = if is_handoff op.kind then Some op.author else current

-- the accepted ones of operations, where these are the next number and the current author; all others are passed over
abbrev pub accepted_from : ℕ → Option ℕ → List Op → List Op
accepted_from next current [] = []
accepted_from next current (op ∷ ops) =
    if accepts_at next current op then op ∷ accepted_from (next + 1) (author_after current op) ops
    else accepted_from next current ops

-- the accepted ones of a log's operations
abbrev pub accepted : List Op → List Op
accepted ops = accepted_from 1 None ops

-- ---- files

abbrev pub Nodes : Type 0
Nodes = List (ℕ × Node)

abbrev pub Paths : Type 0
Paths = List (List ℕ × ℕ)

-- the live nodes by their numbers, the node of each path, and the text of each property, in their orders
pub record Files : Type 0 where
  pub nodes : Nodes
  pub paths : Paths
  pub properties : List (List ℕ × List ℕ)

abbrev pub no_files : Files
no_files = record { nodes = []; paths = []; properties = [] }

abbrev pub is_path : List ℕ → List ℕ → Bool
is_path path = is_at (slice_cmp nat_cmp path)

abbrev pub is_node : ℕ → ℕ → Bool
is_node n = is_at (nat_cmp n)

-- the node that the path names
abbrev pub named : List ℕ → Paths → Option ℕ
named path paths = lookup (is_path path) paths

abbrev pub live : ℕ → Nodes → Option Node
live n nodes = lookup (is_node n) nodes

abbrev pub text_of : ℕ → Nodes → Option (List ℕ)
text_of n nodes = option_map (λ node. node.text) (live n nodes)

-- the text of the file at the path
abbrev pub file_at : List ℕ → Files → Option (List ℕ)
file_at path files = option_and_then (λ n. text_of n files.nodes) (named path files.paths)

-- so many paths name the node
abbrev pub links_set : ℕ → ℕ → Option Node → Nodes → Nodes
links_set n links None nodes = nodes
links_set n links (Some node) nodes = set_value (is_node n) nodes (record node { links = links })

abbrev pub with_links : ℕ → ℕ → Nodes → Nodes
with_links n links nodes = links_set n links (live n nodes) nodes

-- one path more names the node
abbrev pub linked : ℕ → Node → Nodes → Nodes
linked n node nodes = with_links n (node.links + 1) nodes

-- one path less names it, and at the last it goes
abbrev pub unlinked_from : ℕ → Option Node → Nodes → Nodes
unlinked_from n None nodes = nodes
unlinked_from n (Some node) nodes =
    if nat_le node.links 1 then remove_entry (is_node n) nodes
    else with_links n (node.links - 1) nodes

abbrev pub unlinked : Option ℕ → Nodes → Nodes
unlinked None nodes = nodes
unlinked (Some n) nodes = unlinked_from n (live n nodes) nodes

-- the text behind the node's
abbrev pub text_set : ℕ → List ℕ → Option Node → Nodes → Nodes
text_set n text None nodes = nodes
text_set n text (Some node) nodes = set_value (is_node n) nodes (record node { text = node.text ++ text })

abbrev pub appended : ℕ → List ℕ → Nodes → Nodes
appended n text nodes = text_set n text (live n nodes) nodes

-- ---- what an operation does, where its own condition holds; None where it doesn't

abbrev pub create : ℕ → List ℕ → Files → Option Files
create seq path files =
    if is_some (named path files.paths) then None
    else Some (record files {
      nodes = insert_entry nat_cmp files.nodes seq (record { text = []; links = 1 });
      paths = insert_entry (slice_cmp nat_cmp) files.paths path seq;
    })

-- the node that the path named before has one path less
abbrev pub link_to : ℕ → List ℕ → Files → Option Node → Option Files
link_to n path files None = None
link_to n path files (Some node) = Some (record files {
  nodes = unlinked (named path files.paths) (linked n node files.nodes);
  paths = insert_entry (slice_cmp nat_cmp) files.paths path n;
})

abbrev pub unlink : List ℕ → Files → Option Files
unlink path files =
    if is_some (named path files.paths)
    then Some (record files { nodes = unlinked (named path files.paths) files.nodes; paths = remove_entry (is_path path) files.paths })
    else None

abbrev pub write_to : ℕ → ℕ → List ℕ → Files → Option Node → Option Files
write_to n offset text files None = None
write_to n offset text files (Some node) =
    if offset == length node.text
    then Some (record files { nodes = appended n text files.nodes })
    else None

abbrev pub with_property : List ℕ → List ℕ → Files → Files
with_property path text files = record files { properties = insert_entry (slice_cmp nat_cmp) files.properties path text }

-- the operation of this number
abbrev pub does : ℕ → OpKind → Files → Option Files
does seq (Create path) files = create seq path files
does seq (Link fnode path) files = link_to fnode path files (live fnode files.nodes)
does seq (Unlink path) files = unlink path files
does seq (Write fnode offset text) files = write_to fnode offset text files (live fnode files.nodes)
does seq (Property path text) files = Some (with_property path text files)
does seq Handoff files = Some files

-- ---- the machine that takes accepted operations

-- the number of the next operation, the current author, and the files
pub record Fsm : Type 0 where
  pub next : ℕ
  pub author : Option ℕ
  pub files : Files

-- before the first operation
abbrev pub new_fsm : Fsm
new_fsm = record { next = 1; author = None; files = no_files }

abbrev pub numbered_on : Op → Fsm → Files → Fsm
numbered_on op s files = record { next = op.seq + 1; author = author_after s.author op; files = files }

-- after an operation that is accepted
abbrev pub applied : Op → Fsm → Option Fsm
applied op s = option_map (numbered_on op s) (does op.seq op.kind s.files)

-- the machine after accepted operations; None where the own condition of one fails
abbrev pub fsm_from : Fsm → List Op → Option Fsm
fsm_from s [] = Some s
fsm_from s (op ∷ ops) = option_and_then (λ t. fsm_from t ops) (applied op s)

abbrev pub fsm_of : List Op → Option Fsm
fsm_of ops = fsm_from new_fsm ops

-- ---- one operation after another

abbrev pub accepts : Fsm → Op → Bool
accepts s op = accepts_at s.next s.author op

-- after an operation of a log: one that isn't accepted is passed over
abbrev pub after_op : Op → Fsm → Option Fsm
after_op op s = if accepts s op then applied op s else Some s

-- ---- files in order

-- path and text of a path's node
abbrev pub file_of : Nodes → List ℕ × ℕ → Option (List ℕ × List ℕ)
file_of nodes entry = option_map (λ text. (entry.0, text)) (text_of entry.1 nodes)

-- path and text at a place of the files in path order
abbrev pub nth_file : ℕ → Files → Option (List ℕ × List ℕ)
nth_file place files = option_and_then (file_of files.nodes) (slice_get files.paths place)

-- all nodes have numbers below the next operation's, and no more paths than that
abbrev pub AreBelow : ℕ → Nodes → Type 0
AreBelow next [] = ⊤
AreBelow next (e ∷ es) = (e.0 < next) × (e.1.links ≤ next) × AreBelow next es

-- What was returned is what comes of it: the new one, or BadOp where there is none; then, and where memory runs out,
-- nothing has changed.
abbrev pub Becomes : {S : Type 0} → Result ⊤ FsmError → S → S → Option S → Type 0
Becomes (Ok u) old new makes = makes ≡ Some new
Becomes (Err BadOp) old new makes = (makes ≡ None) × (new ≡ old)
Becomes (Err NoMemory) old new makes = new ≡ old

-- ---- numbering on

-- who writes, and the number of the next operation
pub record Recorder : Type 0 where
  pub author : ℕ
  pub next : ℕ

-- the next operation; SeqEnd where its number would pass the greatest one
abbrev pub next_op : OpKind → Recorder → Result Op RecordError
next_op kind r = if nat_le r.next max_seq then Ok (record { author = r.author; seq = r.next; kind = kind }) else Err SeqEnd

abbrev pub recorder_after : Recorder → Recorder
recorder_after r = if nat_le r.next max_seq then record r { next = r.next + 1 } else r
