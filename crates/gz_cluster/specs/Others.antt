-- Consumers, which as yet are mirrors of the key space alone, and clients.
use Rattle.std.specs.Prelude.{ℕ, ◌+◌, ◌==◌, ◌++◌, List, [], ◌∷◌, filter, not, if◌then◌else◌}
use Rattle.std.specs.Str.{bytes_eq}
use Rattle.gz_wire.specs.declared.msg.Msg.{Msg}
use Rattle.gz_wire.specs.declared.msg.Send.{Send}
use Rattle.gz_wire.specs.declared.msg.Msg.TheVariants.{KsSince, KsSinceDone, KsChange, AppendDone, ReadDone}
use Rattle.gz_keyspace.specs.Mirrors.{Mirrored, applied, after_given}
use Rattle.gz_replica.specs.Member.{send}
use Rattle.gz_replica.specs.Opening.{keys}

-- ---- consumers

pub record Consumer : Type 0 where
  pub name : List ℕ
  pub mirror : Mirrored
  -- how many requests it has numbered
  pub requests : ℕ

-- what a message makes of a consumer, which sends nothing
abbrev pub consumer_step : Msg → Consumer → Consumer
consumer_step (KsChange revision writes) n = record n { mirror = applied (record { revision = revision; writes = writes }) n.mirror }
consumer_step (KsSinceDone req head changes) n = record n { mirror = after_given n.mirror changes }
consumer_step msg n = n

-- a consumer that watches asks for the changes that its mirror hasn't
abbrev pub watched : Consumer → Consumer
watched n = record n { requests = n.requests + 1 }

abbrev pub watches : Consumer → Send
watches n = send keys (KsSince (n.requests + 1) n.mirror.revision)

-- ---- clients

pub record Client : Type 0 where
  pub name : List ℕ
  -- how many requests it has numbered, and those that are outstanding, in their order
  pub requests : ℕ
  pub outstanding : List ℕ

-- an answer to a request that isn't outstanding changes nothing
abbrev pub settled : ℕ → Client → Client
settled req n = record n { outstanding = filter (λ own. not (own == req)) n.outstanding }

-- what a message makes of a client, which sends nothing by itself
abbrev pub client_step : Msg → Client → Client
client_step (AppendDone req j status begin end value labels route) n = settled req n
client_step (ReadDone req j status offset content head route) n = settled req n
client_step msg n = n

-- the client with one request more
abbrev pub asking : Client → Client
asking n = record n { requests = n.requests + 1; outstanding = n.outstanding ++ (n.requests + 1) ∷ [] }

abbrev pub given_up : Client → Client
given_up n = record n { outstanding = [] }
