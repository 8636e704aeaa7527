-- What an append's content may be: its length, its form, and what a client may not write.
use Rattle.std.specs.Prelude.{ℕ, suc, zero, ◌==◌, List, length, drop, Bool, true, false, ◌||◌, Result, Ok, Err}
use Rattle.std.specs.List.{list_any, slice_index}
use Rattle.gz_spec.specs.declared.framing.Framing.{Framing}
use Rattle.gz_spec.specs.declared.framing.Framing.TheVariants.{Lines, FixedFrames, RecoveryLog, Bytes}
use Rattle.gz_frame.specs.declared.frame.FrameError.{FrameError}
use Rattle.gz_frame.specs.declared.frame.Unframed.{Unframed}
use Rattle.gz_frame.specs.Frame.{unframed}
use Rattle.gz_frame.specs.Text.{Placed, is_whole, messages_of}

-- the most bytes of a client's content
abbrev pub max_content : ℕ
max_content = 1048576

abbrev pub frame_then : Result Unframed FrameError → List ℕ → (List ℕ → Bool) → Bool
frame_then (Err e) bytes rest = false
frame_then (Ok u) bytes rest = rest (drop u.used bytes)

-- whole frames, at most as many as the number
abbrev pub are_frames : ℕ → List ℕ → Bool
are_frames zero bytes = length bytes == 0
are_frames (suc n) bytes = length bytes == 0 || frame_then (unframed bytes) bytes (are_frames n)

-- the content is as the journal's content type says
abbrev pub is_framed : Framing → List ℕ → Bool
is_framed Lines content = is_whole content
is_framed FixedFrames content = are_frames (length content) content
is_framed RecoveryLog content = are_frames (length content) content
is_framed Bytes content = true

-- the message is of a shard's producer
abbrev pub is_drawn : Placed → Bool
is_drawn p = slice_index p.message.producer 0 == 5

-- what a client may not append
abbrev pub is_forbidden : Framing → List ℕ → Bool
is_forbidden RecoveryLog content = true
is_forbidden Lines content = list_any is_drawn (messages_of 0 content)
is_forbidden FixedFrames content = false
is_forbidden Bytes content = false
