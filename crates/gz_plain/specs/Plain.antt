-- What a commit writes, as messages.
use Rattle.std.specs.Prelude.{ℕ, ◌+◌, List, [], ◌∷◌}
use Rattle.gz_frame.specs.Messages.{Message, continue_txn, ack_txn}
use Rattle.gz_app.specs.Applications.{Output}

-- the lines of a transaction: a CONTINUE message for each output, each with the next clock
abbrev pub lines_from : List ℕ → ℕ → List Output → List Message
lines_from producer last [] = []
lines_from producer last (o ∷ os) =
    record { producer = producer; clock = last + 1; flags = continue_txn; key = o.key; value = o.value } ∷ lines_from producer (last + 1) os

-- the message that acknowledges them
abbrev pub ack_at : List ℕ → ℕ → Message
ack_at producer clock = record { producer = producer; clock = clock; flags = ack_txn; key = []; value = [] }
