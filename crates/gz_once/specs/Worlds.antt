-- Journals, and the processes of one shard over them, run by any list of events. Of journals three things are taken, and here is
-- where each stands:
--   they only grow (`put` and the events add behind what is there; no event takes away);
--   an append lands at most once, and is judged at one place with the register that stands there (`land`, `lands`);
--   what is read of them is a prefix of their text (`Feed`, `can_read`).
use Rattle.std.specs.Prelude.{ℕ, ◌+◌, ◌==◌, nat_le, List, [], ◌∷◌, if◌then◌else◌, Option, Some, None, Bool, true, false, ◌&&◌, not, nat_lt, ◌||◌}
use Rattle.gz_reader.specs.Reader.{Message, updated, pour, acknowledgement}
use Rattle.gz_once.specs.Applications.{App, prefix, parts, each_below, reach}
use Rattle.gz_once.specs.Log.{Entry, Handed, Committed, last, offsets_of, end_of}
use Rattle.gz_once.specs.Processes.{Append, Handoff, Commit, Lines, Ack, Stand, Asked, Phase, Handing, Sending, Process, Item, Extent, Fed, Drew, Ask, Ask_at, Go, Good, Bad, Lost, Good_at, Bad_at, Lost_at, Consumed, Begin, Outcome, step, begins}

-- an append that was sent waits, until it lands at the end of its journal, once, or never will
pub data Slot : Type 0 where
  Free : Slot
  Waits : (a : Append) → Slot
  Landed : (a : Append) → Slot
  Refused : (a : Append) → Slot

-- what the processes share: the journals, the appends that were sent to them, and the draws
pub record Shared : Type 0 where
  pub log : List Entry
  -- the log's register `author`, 0 where it is absent
  pub register : ℕ
  pub outs : ℕ → List Message
  pub sources : ℕ → List Message
  -- the appends by their numbers, and how many there are
  pub slots : ℕ → Slot
  pub count : ℕ
  -- no draw was above this one
  pub drawn : ℕ
  -- the draws of this shard
  pub own : ℕ → Bool
  -- those that no process took yet
  pub free : ℕ → Bool

pub record World : Type 0 where
  pub shared : Shared
  pub procs : ℕ → Process

-- the condition of an append at this place: a handoff expects the end, a commit its author in the register
abbrev pub lands : Shared → Append → Bool
lands s (Handoff a o k) = o == end_of s.log
lands s (Commit x) = x.author == s.register
lands s (Lines j p ls) = true
lands s (Ack j p c) = true

abbrev pub put : Shared → Append → Shared
put s (Handoff a o k) = record s { log = Handed a k ∷ s.log; register = a }
put s (Commit x) = record s { log = Committed x ∷ s.log }
put s (Lines j p ls) = record s { outs = updated s.outs j (pour p ls (s.outs j)) }
put s (Ack j p c) = record s { outs = updated s.outs j (acknowledgement p c ∷ s.outs j) }

abbrev pub mark : Shared → ℕ → Slot → Shared
mark s i v = record s { slots = updated s.slots i v }

abbrev pub land : Shared → ℕ → Slot → Shared
land s i (Waits x) = if lands s x then mark (put s x) i (Landed x) else mark s i (Refused x)
land s i _ = s

abbrev pub refuse : Shared → ℕ → Slot → Shared
refuse s i (Waits x) = mark s i (Refused x)
refuse s i _ = s

abbrev pub sent : Shared → Option Append → Shared
sent s None = s
sent s (Some x) = record s { slots = updated s.slots s.count (Waits x); count = s.count + 1 }

abbrev pub moved : World → ℕ → Outcome → World
moved w p o = record { shared = sent w.shared o.send; procs = updated w.procs p o.proc }

abbrev pub does : App → World → ℕ → Item → World
does g w p i = moved w p (step g (w.procs p) w.shared.count i)

pub data Event : Type 0 where
  -- a message comes into a source, of a client or of another shard: again, out of order or never acknowledged, as may be
  Grow : (source : ℕ) (m : Message) → Event
  -- a message of another producer comes into an output
  Other : (output : ℕ) (m : Message) → Event
  -- others drew, up to d
  Skip : (d : ℕ) → Event
  -- a process reads the log up to its nth entry, or up to fewer than before
  Feed : (process n : ℕ) → Event
  -- the next draw of the shard
  Draw : (d : ℕ) → Event
  -- a process has its draw, which no other one has
  Take : (process draw : ℕ) → Event
  -- it sends to the log, or to an output, what its phase wants, or ends its phase
  Poll : (process : ℕ) → Event
  Poll_at : (process output : ℕ) → Event
  Next : (process : ℕ) → Event
  -- an append that waits is judged at this very place
  Land : (append : ℕ) → Event
  -- the register is lost
  Reset : Event
  -- an append will never land
  Refuse : (append : ℕ) → Event
  -- what became of its append is answered, or the answer is given up
  Reply : (process : ℕ) → Event
  Reply_at : (process output : ℕ) → Event
  Lose : (process : ℕ) → Event
  Lose_at : (process output : ℕ) → Event
  -- it consumes what was released of its sources up to these offsets
  Consume : (process : ℕ) (extent : Extent) (offsets : ℕ → ℕ) → Event
  -- it crashes, or is dropped, and a new one begins; what it sent may still land
  Restart : (process : ℕ) → Event

abbrev pub outstanding : Phase → Option ℕ
outstanding (Handing n) = Some n
outstanding (Sending x n) = Some n
outstanding _ = None

abbrev pub answered : App → World → ℕ → Item → Item → Slot → World
answered g w p won failed (Landed x) = does g w p won
answered g w p won failed (Refused x) = does g w p failed
answered g w p won failed _ = w

abbrev pub reply : App → World → ℕ → Option ℕ → World
reply g w p None = w
reply g w p (Some n) = answered g w p Good Bad (w.shared.slots n)

abbrev pub reply_at : App → World → ℕ → ℕ → Stand → World
reply_at g w p j (Asked n) = answered g w p (Good_at j) (Bad_at j) (w.shared.slots n)
reply_at g w p j _ = w

abbrev pub lose_at : App → World → ℕ → ℕ → Stand → World
lose_at g w p j (Asked n) = does g w p (Lost_at j)
lose_at g w p j _ = w

-- the offsets don't fall, and are in the sources' texts
abbrev pub can_read : App → World → ℕ → (ℕ → ℕ) → Bool
can_read g w p to = each_below g.sources (λ k. nat_le (offsets_of g (last (w.procs p).text) k) (to k) && nat_le (to k) (reach g k (w.shared.sources k)))

abbrev pub happens : App → World → Event → World
happens g w (Grow k m) = record w { shared = record w.shared { sources = updated w.shared.sources k (m ∷ w.shared.sources k) } }
happens g w (Other j m) = if not (w.shared.own m.producer) && (nat_le m.producer w.shared.drawn || g.foreign m.producer) then record w { shared = record w.shared { outs = updated w.shared.outs j (m ∷ w.shared.outs j) } } else w
happens g w (Skip d) = if nat_lt w.shared.drawn d then record w { shared = record w.shared { drawn = d } } else w
happens g w (Feed p n) = does g w p (Fed (prefix n w.shared.log))
happens g w (Draw d) = if nat_lt w.shared.drawn d && not (g.foreign d) then record w { shared = record w.shared { drawn = d; own = updated w.shared.own d true; free = updated w.shared.free d true } } else w
happens g w (Take p d) = if w.shared.free d then does g (record w { shared = record w.shared { free = updated w.shared.free d false } }) p (Drew d) else w
happens g w (Poll p) = does g w p Ask
happens g w (Poll_at p j) = does g w p (Ask_at j)
happens g w (Next p) = does g w p Go
happens g w (Land i) = record w { shared = land w.shared i (w.shared.slots i) }
happens g w Reset = record w { shared = record w.shared { register = 0 } }
happens g w (Refuse i) = record w { shared = refuse w.shared i (w.shared.slots i) }
happens g w (Reply p) = reply g w p (outstanding (w.procs p).phase)
happens g w (Reply_at p j) = reply_at g w p j ((w.procs p).outs j)
happens g w (Lose p) = does g w p Lost
happens g w (Lose_at p j) = lose_at g w p j ((w.procs p).outs j)
happens g w (Consume p skip to) = if can_read g w p to then does g w p (Consumed skip to (parts g g.sources w.shared.sources (offsets_of g (last (w.procs p).text)) to)) else w
happens g w (Restart p) = does g w p Begin

abbrev pub run : App → List Event → World → World
run g [] w = w
run g (e ∷ es) w = run g es (happens g w e)

abbrev pub start : World
start = record {
  shared = record { log = []; register = 0; outs = λ j. []; sources = λ k. []; slots = λ i. Free; count = 0; drawn = 0; own = λ p. false; free = λ p. false };
  procs = λ p. begins;
}

-- what was sent, wherever it now is
abbrev pub append_of : Slot → Option Append
append_of Free = None
append_of (Waits x) = Some x
append_of (Landed x) = Some x
append_of (Refused x) = Some x
