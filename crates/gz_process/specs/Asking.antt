-- What a poll asks: requests with their numbers, each to the node that the mirror names for its journal.
use Rattle.std.specs.Prelude.{ℕ, ◌+◌, ◌==◌, List, [], ◌∷◌, ◌++◌, length, filter, not, Bool, Option, Some, None, if◌then◌else◌, codes}
use Rattle.gz_label.specs.declared.label.Label.{Label}
use Rattle.gz_wire.specs.declared.msg.Msg.{Msg}
use Rattle.gz_wire.specs.declared.msg.Msg.TheVariants.{KsTxn, Append, Read}
use Rattle.gz_wire.specs.declared.msg.Send.{Send}
use Rattle.gz_keyspace.specs.Mirrors.{Mirrored}
use Rattle.gz_keyspace.specs.Space.{put_of}
use Rattle.gz_replica.specs.Member.{send}
use Rattle.gz_replica.specs.Opening.{keys}
use Rattle.gz_process.specs.Processes.{Question, Draws, Asked, Process}
use Rattle.gz_process.specs.Views.{asked_node}

-- ---- what is wanted

-- an append, but for its number and its journal: the offset that it expects, the selector that the registers are to
-- match, what it takes from them and adds, and its content
pub record Appending : Type 0 where
  pub offset : Option ℕ
  pub selector : List ℕ
  pub take : List Label
  pub add : List Label
  pub content : List ℕ

-- an append that asks nothing of the place
abbrev pub plain : List ℕ → Appending
plain content = record { offset = None; selector = []; take = []; add = []; content = content }

-- a read from an offset, or an append
pub data Body : Type 0 where
  From : (offset : ℕ) → Body
  Added : (appending : Appending) → Body

pub record Want : Type 0 where
  pub question : Question
  pub journal : List ℕ
  pub body : Body

abbrev pub msg_of : ℕ → List ℕ → Body → Msg
msg_of req journal (From offset) = Read req journal offset
msg_of req journal (Added a) = Append req journal None a.offset a.selector a.take a.add a.content

-- ---- what a poll gives: the process after it, what it sends, and how many requests it numbered

pub record Polled : Type 0 where
  pub process : Process
  pub sends : List Send
  pub numbered : ℕ

abbrev pub quiet : Process → Polled
quiet p = record { process = p; sends = []; numbered = 0 }

abbrev pub waits_for : ℕ → Question → Process → Process
waits_for req question p = record p { asked = p.asked ++ record { req = req; question = question } ∷ [] }

-- one request more, of the next number behind those before the poll and those of the poll so far
abbrev pub asks_it : ℕ → Want → List ℕ → Polled → Polled
asks_it base w node out =
    let req = base + out.numbered + 1 in
    record { process = waits_for req w.question out.process; sends = out.sends ++ send node (msg_of req w.journal w.body) ∷ []; numbered = out.numbered + 1 }

-- without a route nothing is sent
abbrev pub asks_at : ℕ → Want → Option (List ℕ) → Polled → Polled
asks_at base w None out = out
asks_at base w (Some node) out = asks_it base w node out

-- requests in their order
abbrev pub asks : Mirrored → ℕ → List Want → Polled → Polled
asks m base [] out = out
asks m base (w ∷ ws) out = asks m base ws (asks_at base w (asked_node w.journal m) out)

-- ---- draws

abbrev pub author_key : List ℕ → List ℕ
author_key shard = codes "author/" ++ shard

-- the key space is asked to put the consumer as the shard's author: the revision of that change is the draw
abbrev pub draws : List ℕ → ℕ → Process → Polled
draws name base p = record {
  process = waits_for (base + 1) Draws p;
  sends = send keys (KsTxn (base + 1) [] (put_of (author_key p.definition.id) name ∷ [])) ∷ [];
  numbered = 1;
}

-- ---- what waits

-- no request waits for its answer
abbrev pub is_idle : Process → Bool
is_idle p = length p.asked == 0

-- this request doesn't wait any more
abbrev pub settled : ℕ → Process → Process
settled req p = record p { asked = filter (λ a. not (a.req == req)) p.asked }

-- what was asked under this number
abbrev pub question_of : ℕ → List Asked → Option Question
question_of req [] = None
question_of req (a ∷ rest) = if a.req == req then Some a.question else question_of req rest
