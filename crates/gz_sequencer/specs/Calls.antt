-- Calls of a sequencer, one after another.
use Rattle.std.specs.Prelude.{ℕ, List, [], ◌∷◌, ◌++◌, take}
use Rattle.gz_frame.specs.Messages.{Message}
use Rattle.gz_sequencer.specs.Machine.{Machine, fed, taken}

-- bytes are fed, or a released message is taken
pub data Call : Type 0 where
  feeds : List ℕ → Call
  takes : Call

abbrev pub after_call : Call → Machine → Machine
after_call (feeds bytes) s = fed s bytes
after_call takes s = taken s

abbrev pub after_calls : List Call → Machine → Machine
after_calls [] s = s
after_calls (call ∷ calls) s = after_calls calls (after_call call s)

-- the message that a call gives, if it gives one
abbrev pub given_by : Call → Machine → List Message
given_by (feeds bytes) s = []
given_by takes s = take 1 s.released

-- the messages that calls give
abbrev pub given : List Call → Machine → List Message
given [] s = []
given (call ∷ calls) s = given_by call s ++ given calls (after_call call s)

abbrev pub bytes_in : Call → List ℕ
bytes_in (feeds bytes) = bytes
bytes_in takes = []

-- the bytes that were fed
abbrev pub text_in : List Call → List ℕ
text_in [] = []
text_in (call ∷ calls) = bytes_in call ++ text_in calls
