-- Accounts that the promise refuses, and what it says of a shard at rest.
use Rattle.std.specs.Prelude.{ℕ, List, [], ◌∷◌}
use Rattle.std.specs.Fmt.{decimal}
use Rattle.gz_frame.specs.Messages.{Message}
use Rattle.gz_app.specs.Applications.{Output}
use Rattle.gz_app.specs.States.{State}
use Rattle.gz_app.specs.declared.app.AppKind.{AppKind}
use Rattle.gz_app.specs.declared.app.AppKind.TheVariants.{Count}
use Rattle.gz_app.specs.declared.state.Kept.TheVariants.{Number}
use Rattle.gz_promise.specs.Accounts.{Account}

-- One source with two committed messages. The first commit has no offset for it, and the second one has its end.
abbrev pub takes_nothing : AppKind → Message → Message → State → State → State → List (List Output) → Account
takes_nothing app m n first second store outputs = record {
  app = app;
  sources = record { from = 0; committed = record { message = m; end = 70 } ∷ record { message = n; end = 140 } ∷ [] } ∷ [];
  commits = record { offsets = []; state = first } ∷ record { offsets = 140 ∷ []; state = second } ∷ [];
  store = store;
  outputs = outputs;
}

-- a message of a key, and what `count` emits for the first message of a key
abbrev pub message_of : List ℕ → Message
message_of key = record { producer = []; clock = 1; flags = 1; key = key; value = [] }

abbrev pub first_count : List ℕ → Output
first_count key = record { key = key; value = decimal 1 }

-- Two sources, each with one message, of the keys `a` and `b`, and two commits: the first one takes `a` and has it in its
-- state, the second one takes `b`. Readers of the one output accept the count of `b`, and then that of `a`.
abbrev pub takes_two_orders : Account
takes_two_orders = record {
  app = Count;
  sources =
      record { from = 0; committed = record { message = message_of (97 ∷ []); end = 70 } ∷ [] }
      ∷ record { from = 0; committed = record { message = message_of (98 ∷ []); end = 70 } ∷ [] } ∷ [];
  commits =
      record { offsets = 70 ∷ 0 ∷ []; state = (97 ∷ [], Number 1) ∷ [] }
      ∷ record { offsets = 70 ∷ 70 ∷ []; state = (97 ∷ [], Number 1) ∷ (98 ∷ [], Number 1) ∷ [] } ∷ [];
  store = (97 ∷ [], Number 1) ∷ (98 ∷ [], Number 1) ∷ [];
  outputs = (first_count (98 ∷ []) ∷ first_count (97 ∷ []) ∷ []) ∷ [];
}
