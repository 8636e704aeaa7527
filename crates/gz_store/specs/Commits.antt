-- The operations of a commit; the commits of a log's text, and the store that is recovered from it.
use Rattle.std.specs.Prelude.{ℕ, zero, suc, ◌+◌, ◌&&◌, List, [], ◌∷◌, ◌++◌, length, take, drop, flat_map, slice_index, Bool, true, false, Option, Some, None, option_map, if◌then◌else◌, nat_le, nat_lt, codes, ⊤, ◌≡◌, Result, Ok, Err}
use Rattle.std.specs.Str.{bytes_eq}
use Rattle.gz_frame.specs.Frame.{frame_of, framed}
use Rattle.gz_frame.specs.declared.frame.FrameError.{FrameError}
use Rattle.gz_app.specs.States.{State}
use Rattle.gz_recovery.specs.Operations.{Op, op_text, max_seq}
use Rattle.gz_recovery.specs.declared.op.OpKind.{OpKind}
use Rattle.gz_recovery.specs.declared.op.OpKind.TheVariants.{Create, Link, Unlink, Write}
use Rattle.gz_recovery.specs.Files.{Fsm, new_fsm, fsm_of, named, accepted, applied, Recorder}
use Rattle.gz_recovery.specs.declared.error.RecordError.{RecordError}
use Rattle.gz_recovery.specs.declared.error.RecordError.TheVariants.{SeqEnd, NoMemory}
use Rattle.gz_playback.specs.Playing.{records_of, Player, plays, new_player}
use Rattle.gz_store.specs.Stores.{Store, store_text, state_path, Loaded, NoState, BadState, Good, load}

-- ---- the operations of a commit

-- the path of a state that isn't whole yet
abbrev pub next_path : List ℕ
next_path = codes "next"

-- the most bytes of one write
abbrev pub max_piece : ℕ
max_piece = 65536

-- a byte that goes on with a character
abbrev pub goes_on : ℕ → Bool
goes_on b = nat_le 128 b && nat_lt b 192

-- the greatest place, of at most so many bytes, at which a character ends; in a text that has none, a whole piece
unfoldable pub piece_end : ℕ → List ℕ → ℕ
piece_end zero text = max_piece
piece_end (suc k) text = if goes_on (slice_index text (suc k)) then piece_end k text else suc k

-- how many bytes the first piece of a text has
abbrev pub piece_len : List ℕ → ℕ
piece_len text = if nat_le (length text) max_piece then length text else piece_end max_piece text

-- writes of a text in pieces, at most so many, the first one at the offset
abbrev pub pieces : ℕ → ℕ → ℕ → List ℕ → List OpKind
pieces zero node offset text = []
pieces (suc n) node offset [] = []
pieces (suc n) node offset (b ∷ bs) =
    Write node offset (take (piece_len (b ∷ bs)) (b ∷ bs))
    ∷ pieces n node (offset + piece_len (b ∷ bs)) (drop (piece_len (b ∷ bs)) (b ∷ bs))

-- the node is the number of the first operation
abbrev pub commit_kinds : ℕ → List ℕ → List OpKind
commit_kinds node text = Create next_path ∷ (pieces (length text) node 0 text ++ Link node state_path ∷ Unlink next_path ∷ [])

-- operations of an author, numbered on
abbrev pub numbered : ℕ → ℕ → List OpKind → List Op
numbered author seq [] = []
numbered author seq (kind ∷ kinds) = record { author = author; seq = seq; kind = kind } ∷ numbered author (seq + 1) kinds

-- SeqEnd where a number would pass the greatest one
abbrev pub numbered_within : ℕ → ℕ → List OpKind → Result (List Op) RecordError
numbered_within author seq kinds = if nat_le (seq + length kinds) (max_seq + 1) then Ok (numbered author seq kinds) else Err SeqEnd

-- What was returned are operations of these kinds, numbered on, and the recorder numbers on behind them; or SeqEnd.
abbrev pub NumbersAll : Result (List Op) RecordError → Recorder → Recorder → List OpKind → Type 0
NumbersAll (Ok ops) old new kinds = (numbered_within old.author old.next kinds ≡ Ok ops) × (new ≡ record old { next = old.next + length ops })
NumbersAll (Err SeqEnd) old new kinds = numbered_within old.author old.next kinds ≡ Err SeqEnd
NumbersAll (Err NoMemory) old new kinds = ⊤

abbrev pub commit_ops : Recorder → Store → Result (List Op) RecordError
commit_ops r store = numbered_within r.author r.next (commit_kinds r.next (store_text store))

-- operations as the bytes that are appended
abbrev pub ops_bytes : List Op → List ℕ
ops_bytes ops = flat_map (λ op. frame_of (op_text op)) ops

-- What was returned is what committing gives, and the recorder numbers on behind it; after an error it is as before.
abbrev pub Commits : Result (List Op) RecordError → Recorder → Recorder → Store → Type 0
Commits (Ok ops) old new store = (commit_ops old store ≡ Ok ops) × (new ≡ record old { next = old.next + length ops })
Commits (Err SeqEnd) old new store = (commit_ops old store ≡ Err SeqEnd) × (new ≡ old)
Commits (Err NoMemory) old new store = new ≡ old

-- Of a log whose machine has the recorder's author and next number, and no file at the path `next`: behind these
-- operations the store is loaded.
abbrev pub ComesBack : Recorder → Store → List Op → Type 0
ComesBack r store ops =
    (before : List Op) (s : Fsm) → fsm_of (accepted before) ≡ Some s → s.author ≡ Some r.author → s.next ≡ r.next → named next_path s.files.paths ≡ None
    → option_map load (fsm_of (accepted (before ++ ops))) ≡ Some (Good store)

-- the error of the first of two, if it has one
abbrev pub joined : Result (List ℕ) FrameError → Result (List ℕ) FrameError → Result (List ℕ) FrameError
joined (Ok front) (Ok back) = Ok (front ++ back)
joined (Ok front) (Err e) = Err e
joined (Err e) back = Err e

-- the frames of operations, joined, where no content is too long
abbrev pub framed_all : List Op → Result (List ℕ) FrameError
framed_all [] = Ok []
framed_all (op ∷ ops) = joined (framed (op_text op)) (framed_all ops)

-- ---- the commits of a text

-- an operation makes a commit where it links a node to the path of the state
abbrev pub is_commit : OpKind → Bool
is_commit (Link fnode path) = bytes_eq path state_path
is_commit kind = false

abbrev pub commit_at : Bool → Fsm → List Loaded
commit_at true s = load s ∷ []
commit_at false s = []

abbrev pub commit_here : Op → Option Fsm → List Loaded
commit_here op None = []
commit_here op (Some s) = commit_at (is_commit op.kind) s

-- What is loaded after each accepted link to the path of the state, in order, up to the first operation whose own
-- condition fails.
abbrev pub commits_from : List Op → Option Fsm → List Loaded
commits_from [] s = []
commits_from (op ∷ ops) None = []
commits_from (op ∷ ops) (Some s) = commit_here op (applied op s) ++ commits_from ops (applied op s)

abbrev pub commits_of : List ℕ → List Loaded
commits_of text = commits_from (accepted (records_of text)) (Some new_fsm)

abbrev pub last_loaded : Loaded → List Loaded → Loaded
last_loaded before [] = before
last_loaded before (c ∷ cs) = last_loaded c cs

abbrev pub state_of : Loaded → State
state_of NoState = []
state_of BadState = []
state_of (Good store) = store.state

-- the recovered store: the state of the last commit, or the empty one
abbrev pub store_of : List ℕ → State
store_of text = state_of (last_loaded NoState (commits_of text))

-- ---- what stands at the path of the state

abbrev pub keeps_here : Op → Fsm → Option Fsm → Type 0
keeps_here op s None = ⊤
keeps_here op s (Some t) = is_commit op.kind ≡ false → load t ≡ load s

-- Only a link to the path of the state changes what is loaded.
abbrev pub KeepsState : List Op → Option Fsm → Type 0
KeepsState [] s = ⊤
KeepsState (op ∷ ops) None = ⊤
KeepsState (op ∷ ops) (Some s) = keeps_here op s (applied op s) × KeepsState ops (applied op s)

-- the player of a whole text, from its first byte on
abbrev pub played : List ℕ → Player
played text = plays (new_player 0 new_fsm) text

-- What a player of a log's text loads is what its last commit left, where only links to the path of the state change
-- what is loaded.
abbrev pub LoadsTheLastCommit : Type 0
LoadsTheLastCommit =
    (text : List ℕ) → (played text).bad ≡ None → KeepsState (accepted (records_of text)) (Some new_fsm)
    → (load (played text).fsm ≡ last_loaded NoState (commits_of text)) × (state_of (load (played text).fsm) ≡ store_of text)
