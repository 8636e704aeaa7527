-- A player, which is fed a recovery log's bytes; and the operations that a log's text has.
use Rattle.std.specs.Prelude.{ℕ, ◌+◌, ◌==◌, ◌&&◌, List, [], ◌∷◌, ◌++◌, length, drop, Bool, true, false, Option, Some, None, is_some, is_none, ⊤, ◌≡◌, Result, Ok, Err, if◌then◌else◌}
use Rattle.gz_frame.specs.Frame.{unframed}
use Rattle.gz_frame.specs.declared.frame.FrameError.{FrameError}
use Rattle.gz_frame.specs.declared.frame.FrameError.TheVariants.{NeedMore, BadMagic, TooLong}
use Rattle.gz_frame.specs.declared.frame.FrameError.TheVariants as cause
use Rattle.gz_frame.specs.declared.frame.Unframed.{Unframed}
use Rattle.gz_playback.specs.declared.error.PlayError.{PlayError}
use Rattle.gz_playback.specs.declared.error.PlayError.TheVariants.{BadLog, NoMemory}
use Rattle.gz_recovery.specs.Operations.{Op, op_of}
use Rattle.gz_recovery.specs.Files.{Fsm, after_op}

-- What bytes are that are no more than one frame: part of one, none, or one whole frame of this content.
pub data Cut : Type 0 where
  Partial : Cut
  Bad : Cut
  Whole : (content : List ℕ) → Cut

abbrev pub cut_as : List ℕ → Result Unframed FrameError → Cut
cut_as bytes (Ok u) = Whole (drop 8 bytes)
cut_as bytes (Err NeedMore) = Partial
cut_as bytes (Err (BadMagic at)) = Bad
cut_as bytes (Err TooLong) = Bad
cut_as bytes (Err cause.NoMemory) = Bad

abbrev pub cut_of : List ℕ → Cut
cut_of bytes = cut_as bytes (unframed bytes)

-- ---- the operations of a text

pub record Reading : Type 0 where
  -- what stands behind the last whole frame
  pub left : List ℕ
  pub ops : List Op
  pub is_bad : Bool

abbrev pub reads_op : Option Op → Reading → Reading
reads_op None r = record r { is_bad = true }
reads_op (Some op) r = record { left = []; ops = r.ops ++ op ∷ []; is_bad = false }

abbrev pub reads_cut : Cut → List ℕ → Reading → Reading
reads_cut Partial bytes r = record r { left = bytes }
reads_cut Bad bytes r = record r { is_bad = true }
reads_cut (Whole content) bytes r = reads_op (op_of content) r

abbrev pub reads_byte : Reading → ℕ → Reading
reads_byte r b = if r.is_bad then r else reads_cut (cut_of (r.left ++ b ∷ [])) (r.left ++ b ∷ []) r

abbrev pub reads : Reading → List ℕ → Reading
reads r [] = r
reads r (b ∷ bs) = reads (reads_byte r b) bs

-- the operations of a text's whole frames, up to the first frame that is none or has none
abbrev pub records_of : List ℕ → List Op
records_of text = (reads (record { left = []; ops = []; is_bad = false }) text).ops

-- ---- the player

pub record Player : Type 0 where
  -- the offset behind the last whole frame
  pub begin : ℕ
  -- the part of a frame that is left over
  pub left : List ℕ
  pub fsm : Fsm
  -- the offset of the first bad frame: one of another form, one that is no operation, or an accepted operation whose
  -- own condition fails
  pub bad : Option ℕ

-- the offset that it wants next
abbrev pub at : Player → ℕ
at p = p.begin + length p.left

abbrev pub new_player : ℕ → Fsm → Player
new_player offset fsm = record { begin = offset; left = []; fsm = fsm; bad = None }

-- the frame that has begun is bad
abbrev pub spoiled : Player → Player
spoiled p = record p { left = []; bad = Some p.begin }

-- at the end of a frame
abbrev pub plays_fsm : Option Fsm → Player → Player
plays_fsm None p = spoiled p
plays_fsm (Some fsm) p = record p { begin = at p; left = []; fsm = fsm }

abbrev pub plays_op : Option Op → Player → Player
plays_op None p = spoiled p
plays_op (Some op) p = plays_fsm (after_op op p.fsm) p

abbrev pub plays_cut : Cut → Player → Player
plays_cut Partial p = p
plays_cut Bad p = spoiled p
plays_cut (Whole content) p = plays_op (op_of content) p

abbrev pub plays_next : Player → Player
plays_next p = plays_cut (cut_of p.left) p

-- behind a bad frame nothing is played
abbrev pub plays_byte : Player → ℕ → Player
plays_byte p b = if is_some p.bad then p else plays_next (record p { left = p.left ++ b ∷ [] })

abbrev pub plays : Player → List ℕ → Player
plays p [] = p
plays p (b ∷ bs) = plays (plays_byte p b) bs

-- where a frame is bad, the offset is as before the call
abbrev pub back_to : ℕ → Option ℕ → Player → Player
back_to offset None p = p
back_to offset (Some bad) p = record p { begin = offset; left = [] }

-- after the next bytes of the log, in one piece
abbrev pub fed : Player → List ℕ → Player
fed p bytes = back_to (at p) (plays p bytes).bad (plays p bytes)

-- What was answered is what feeding gives: BadLog exactly at a bad frame.
abbrev pub Feeds : Result ⊤ PlayError → Player → Player → List ℕ → Type 0
Feeds (Ok u) old new bytes = (new ≡ fed old bytes) × (new.bad ≡ None)
Feeds (Err (BadLog offset)) old new bytes = (new ≡ fed old bytes) × (new.bad ≡ Some offset)
Feeds (Err NoMemory) old new bytes = ⊤

abbrev pub is_empty : List ℕ → Bool
is_empty [] = true
is_empty (b ∷ bs) = false

-- all whole frames up to the head are played, and no part of one is left over
abbrev pub is_at_head : ℕ → Player → Bool
is_at_head head p = (head == at p) && is_empty p.left && is_none p.bad
