-- A run. Brokers have numbers from 1 on, and the key space and the store are number 0. Each letter that is sent is in
-- flight until it is taken or dropped; it may also go out again at any later time, so messages come late, in any
-- order, twice or never. Nothing says that a broker learns when its lease ends: it may lead on while another one does.
use Rattle.gz_journal.specs.declared.request.Request.{Request}
use Rattle.gz_lineage.specs.Marks.{Mark}
use Rattle.std.specs.List.{remove}
use Rattle.std.specs.Prelude.{replicate, slice_index_or, slice_set, ℕ, ◌+◌, ◌==◌, nat_lt, List, [], ◌∷◌, ◌++◌, length, max, drop, if◌then◌else◌, Option, Some, None, Bool, true, false, slice_get, ◌&&◌}
use Rattle.gz_lineage.specs.Nodes.{Route, Part, Node, Message, Letter, Outcome, Closed, Open, Changed, Txn, TxnOk, TxnNo, Append, Replicate, Head, Ask, Names, Put}
use Rattle.gz_lineage.specs.Rules.{keys, letter, served, take_message, to_each, flush, resent, given}

-- ---- the state, and what is known of a run

-- What there is: brokers by number, which of them run, letters in flight, all routes that were written, the newest
-- first, the sync key's value, 0 where it is absent, and what the store has.
pub record State : Type 0 where
  pub nodes : List Node
  pub runs : List Bool
  pub flight : List Letter
  pub routes : List Route
  pub sync : ℕ
  pub stored : List Mark

-- a step: the state behind it, the letter that was taken, and what was sent
pub record Moved : Type 0 where
  pub state : State
  pub taken : List Letter
  pub sends : List Letter

-- A state with its history: the letters that were taken and that were sent, the acknowledged list, the greatest epoch
-- at which a primary became open, 0 where none did, and what the sync key was after each step.
pub record World : Type 0 where
  pub state : State
  pub taken : List Letter
  pub said : List Letter
  pub journal : List Mark
  pub top : ℕ
  pub syncs : List ℕ

abbrev pub fresh : Node
fresh = record { promised = 0; adopted = 0; spool = []; head = 0; part = Closed }

abbrev pub node_at : List Node → ℕ → Node
node_at nodes n = slice_index_or nodes n fresh

-- ---- the acknowledged list

-- An open primary adds what its spool has between the list's end and its head.
abbrev pub grown : List Mark → Node → Part → List Mark
grown journal n (Open r held queue) = journal ++ drop (length journal) (served n)
grown journal n _ = journal

abbrev pub grown_all : List Mark → List Node → List Mark
grown_all journal [] = journal
grown_all journal (n ∷ ns) = grown_all (grown journal n n.part) ns

-- the greatest open epoch, where this primary is open
abbrev pub risen : ℕ → Part → ℕ
risen t (Open r held queue) = max t r.epoch
risen t _ = t

abbrev pub risen_all : ℕ → List Node → ℕ
risen_all t [] = t
risen_all t (n ∷ ns) = risen_all (risen t n.part) ns

-- ---- the key space, the store and brokers take a letter

-- the present route's epoch
abbrev pub latest : List Route → ℕ
latest [] = 0
latest (r ∷ rs) = r.epoch

abbrev pub sent : State → List Letter → Letter → List Letter → Moved
sent s flight l sends = record { state = record s { flight = flight ++ sends }; taken = l ∷ []; sends = sends }

-- The key space writes an epoch to the sync key where its route is the present one. The store tells what it has, and
-- keeps what is longer than that.
abbrev pub step_keys : State → List Letter → Letter → Message → Moved
step_keys s flight l (Txn e) =
    if e == latest s.routes
    then sent (record s { sync = e }) flight l (letter keys l.from (TxnOk e) ∷ [])
    else sent s flight l (letter keys l.from (TxnNo e) ∷ [])
step_keys s flight l (Ask e) = sent s flight l (letter keys l.from (Names e s.stored) ∷ [])
step_keys s flight l (Put text) = sent (record s { stored = if nat_lt (length s.stored) (length text) then text else s.stored }) flight l []
step_keys s flight l _ = sent s flight l []

abbrev pub step_node : State → List Letter → Letter → Outcome → Moved
step_node s flight l out = sent (record s { nodes = slice_set s.nodes l.to out.node }) flight l out.sends

-- a letter to a broker that has stopped, or to none, is taken without effect
abbrev pub delivered : State → List Letter → Letter → Moved
delivered s flight l =
    if l.to == keys then step_keys s flight l l.body
    else (if slice_index_or s.runs l.to false && nat_lt l.to (length s.nodes)
    then step_node s flight l (take_message l.to (node_at s.nodes l.to) l.from l.body)
    else sent s flight l [])

-- ---- events

pub data Event : Type 0 where
  -- the key space writes a route, at a revision that is greater by one and `more`
  Converge : (more lead : ℕ) (others : List ℕ) → Event
  Crash : (node : ℕ) → Event
  -- a client sends a request to a broker
  Write : (to : ℕ) (request : Request) → Event
  -- a letter in flight is taken, or lost
  Deliver : (which : ℕ) → Event
  Drop : (which : ℕ) → Event
  Flush : (node : ℕ) → Event
  -- a letter that was ever sent goes out again
  Repeat : (which : ℕ) → Event
  -- an entry's letter that was sent goes out again, with a head that another letter told
  Renew : (which head : ℕ) → Event
  -- a primary says again what it asks or tells
  Resend : (node : ℕ) → Event
  -- an open primary sends an entry again
  Give : (node which : ℕ) → Event

-- no letter
abbrev pub still : State → Moved
still s = record { state = s; taken = []; sends = [] }

abbrev pub routed : State → Route → Moved
routed s r = let sends = to_each keys (Changed r) (r.lead ∷ r.others) in
    record { state = record s { routes = r ∷ s.routes; flight = s.flight ++ sends }; taken = []; sends = sends }

abbrev pub delivery : State → ℕ → Option Letter → Moved
delivery s k None = still s
delivery s k (Some l) = delivered s (remove s.flight k) l

abbrev pub again : World → Option Letter → Moved
again w None = still w.state
again w (Some l) = record { state = record w.state { flight = w.state.flight ++ l ∷ [] }; taken = []; sends = l ∷ [] }

-- the same entry, with the head that a letter tells of the same epoch
abbrev pub with_told : ℕ → ℕ → Mark → Message → Option Message
with_told e offset x (Head d head) = if e == d then Some (Replicate e offset x head) else None
with_told e offset x _ = None

abbrev pub renewed_body : Message → Message → Option Message
renewed_body (Replicate e offset x head) c = with_told e offset x c
renewed_body _ c = None

abbrev pub with_body : Letter → Option Message → Option Letter
with_body l None = None
with_body l (Some b) = Some (letter l.from l.to b)

abbrev pub renewed_by : Letter → Option Letter → Option Letter
renewed_by l None = None
renewed_by l (Some k) = with_body l (renewed_body l.body k.body)

abbrev pub renewed : Option Letter → Option Letter → Option Letter
renewed None k = None
renewed (Some l) k = renewed_by l k

abbrev pub says_more : State → List Letter → Moved
says_more s sends = record { state = record s { flight = s.flight ++ sends }; taken = []; sends = sends }

abbrev pub step : World → Event → Moved
step w (Converge more lead others) = routed w.state (record { epoch = latest w.state.routes + more + 1; lead = lead; others = others; opened = w.state.sync })
step w (Crash n) = still (record w.state { runs = slice_set w.state.runs n false })
step w (Write to x) = record { state = record w.state { flight = w.state.flight ++ letter keys to (Append x) ∷ [] }; taken = []; sends = letter keys to (Append x) ∷ [] }
step w (Deliver k) = delivery w.state k (slice_get w.state.flight k)
step w (Flush n) = let sends = if slice_index_or w.state.runs n false && nat_lt n (length w.state.nodes) then flush n (node_at w.state.nodes n) (node_at w.state.nodes n).part else [] in
    record { state = record w.state { flight = w.state.flight ++ sends }; taken = []; sends = sends }
step w (Drop k) = still (record w.state { flight = remove w.state.flight k })
step w (Repeat k) = again w (slice_get w.said k)
step w (Renew k h) = again w (renewed (slice_get w.said k) (slice_get w.said h))
step w (Resend n) = says_more w.state (resent n (node_at w.state.nodes n) (node_at w.state.nodes n).part)
step w (Give n k) = says_more w.state (given n (node_at w.state.nodes n) k (node_at w.state.nodes n).part)

-- ---- a run

abbrev pub recorded : World → Moved → World
recorded w m = record { state = m.state; taken = w.taken ++ m.taken; said = w.said ++ m.sends; journal = grown_all w.journal m.state.nodes; top = risen_all w.top m.state.nodes; syncs = m.state.sync ∷ w.syncs }

abbrev pub happens : World → Event → World
happens w e = recorded w (step w e)

abbrev pub run : List Event → World → World
run [] w = w
run (e ∷ es) w = run es (happens w e)

abbrev pub begin_with : ℕ → State
begin_with n = record { nodes = replicate n fresh; runs = replicate n true; flight = []; routes = []; sync = 0; stored = [] }

-- the beginning, with so many numbers for nodes; number 0 is the key space's and the store's
abbrev pub start : ℕ → World
start n = record { state = begin_with n; taken = []; said = []; journal = []; top = 0; syncs = [] }
