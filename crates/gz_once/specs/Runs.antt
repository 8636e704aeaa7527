-- Small runs of one shard, which compute: its application keeps a sum and emits each new sum, from one source to one
-- output.
use Rattle.std.specs.Prelude.{ℕ, ◌+◌, ◌==◌, List, [], ◌∷◌, ◌++◌, map}
use Rattle.gz_reader.specs.Reader.{Outside, values_of, committed}
use Rattle.gz_once.specs.Applications.{App}
use Rattle.gz_once.specs.Log.{by, store_of}
use Rattle.gz_once.specs.Worlds.{Event, Grow, Feed, Draw, Take, Poll, Poll_at, Next, Land, Reply, Reply_at, Lose, Lose_at, Consume, Restart, run, start}

abbrev pub sums : App
sums = record {
  apply = λ x m. x + m.value;
  emit = λ x m. (x + m.value) ∷ [];
  choose = λ v. 0;
  outputs = 1;
  sources = 1;
  foreign = λ p. p == 0;
  begin = λ k. 0;
  line = λ m. 0;
}

-- a client publishes a value into the source, as its message of this number
abbrev pub publish : ℕ → ℕ → Event
publish c v = Grow 0 (record { producer = 0; clock = c; kind = Outside; value = v })

-- Process p takes the draw d; its handoff, which is append n, lands and is answered.
abbrev pub hands_off : ℕ → ℕ → ℕ → List Event
hands_off p d n = Feed p 9 ∷ Draw d ∷ Take p d ∷ Poll p ∷ Land n ∷ Reply p ∷ []

-- it begins a transaction of what its source has up to an offset, and its lines are append n
abbrev pub begins_lines : ℕ → ℕ → List Event
begins_lines p to = Consume p (record { raise = 1; width = 3; size = 100 }) (λ k. to) ∷ Poll_at p 0 ∷ []

-- append n to the output lands and is answered, and the phase ends
abbrev pub is_answered : ℕ → ℕ → List Event
is_answered p n = Land n ∷ Reply_at p 0 ∷ Next p ∷ []

abbrev pub writes_lines : ℕ → ℕ → ℕ → List Event
writes_lines p to n = begins_lines p to ++ is_answered p n

-- its commit is append n
abbrev pub commits : ℕ → ℕ → List Event
commits p n = Poll p ∷ Land n ∷ Reply p ∷ []

-- it acknowledges the last commit by append n
abbrev pub acknowledges : ℕ → ℕ → List Event
acknowledges p n = Poll_at p 0 ∷ is_answered p n

-- who wrote the log's entries, the oldest last; the store; and what a reader accepts of the shard's producers
pub record Shown : Type 0 where
  pub log : List ℕ
  pub store : ℕ
  pub accepted : List ℕ

abbrev pub view_of : List Event → Shown
view_of es = let s = (run sums es start).shared in
    record { log = map by s.log; store = store_of s.log; accepted = values_of s.own (committed (s.outs 0)) }

-- a process is ready to read, and the source has one message of the value 5
abbrev pub ready : List Event
ready = hands_off 0 1 0 ++ (Next 0 ∷ publish 1 5 ∷ [])

-- one whole transaction
abbrev pub whole_cycle : List Event
whole_cycle = ready ++ (writes_lines 0 1 1 ++ (commits 0 2 ++ acknowledges 0 3))

-- ---- a crash in each phase; the process then begins anew

-- with a draw, before its handoff was sent
abbrev pub crash_playing : List Event
crash_playing = (Draw 1 ∷ Take 0 1 ∷ Restart 0 ∷ []) ++ hands_off 0 2 0

-- its handoff was sent, and lands later
abbrev pub crash_handing : List Event
crash_handing = (Draw 1 ∷ Take 0 1 ∷ Poll 0 ∷ Restart 0 ∷ Land 0 ∷ []) ++ hands_off 0 2 1

-- its lines were sent, and land behind those of the next one's transaction
abbrev pub crash_publishing : List Event
crash_publishing = ready ++ (begins_lines 0 1 ++ ((Restart 0 ∷ []) ++ (hands_off 0 2 2 ++
    ((Next 0 ∷ []) ++ (writes_lines 0 1 3 ++ ((Land 1 ∷ []) ++ (commits 0 4 ++ acknowledges 0 5)))))))

-- its lines are in, and the commit wasn't sent
abbrev pub crash_committing : List Event
crash_committing = ready ++ (writes_lines 0 1 1 ++ ((Restart 0 ∷ []) ++ (hands_off 0 2 2 ++
    ((Next 0 ∷ []) ++ (writes_lines 0 1 3 ++ (commits 0 4 ++ acknowledges 0 5))))))

-- its commit was sent, and lands before the next one's handoff, which goes on from it
abbrev pub crash_sending : List Event
crash_sending = ready ++ (writes_lines 0 1 1 ++ ((Poll 0 ∷ Restart 0 ∷ Land 2 ∷ []) ++ (hands_off 0 2 3 ++ acknowledges 0 4)))

-- its commit is in, and no acknowledgement was sent: the next one writes it
abbrev pub crash_acking : List Event
crash_acking = ready ++ (writes_lines 0 1 1 ++ (commits 0 2 ++ ((Restart 0 ∷ []) ++ (hands_off 0 2 3 ++ acknowledges 0 4))))

-- ---- two at once, and answers that don't come

-- Process 0 has sent its commit. Process 1 hands off first, so the commit is refused; process 1 commits the same message.
abbrev pub race : List Event
race = ready ++ (writes_lines 0 1 1 ++ ((Poll 0 ∷ []) ++ (hands_off 1 2 3 ++ ((Land 2 ∷ Reply 0 ∷ Next 1 ∷ []) ++
    (writes_lines 1 1 4 ++ (commits 1 5 ++ acknowledges 1 6))))))

-- The answer to its commit never comes. It gives up, and the commit lands; under its next author it goes on from it.
abbrev pub no_answer : List Event
no_answer = ready ++ (writes_lines 0 1 1 ++ ((Poll 0 ∷ Lose 0 ∷ Land 2 ∷ []) ++ (hands_off 0 2 3 ++ acknowledges 0 4)))

-- It gives an acknowledgement up and writes it again. In doubt of the first one it takes a new producer, so that one may
-- land between the lines of its next transaction and their acknowledgement.
abbrev pub doubt : List Event
doubt = ready ++ (writes_lines 0 1 1 ++ (commits 0 2 ++ ((Poll_at 0 0 ∷ Lose_at 0 0 ∷ []) ++ (acknowledges 0 4 ++
    ((Draw 2 ∷ Take 0 2 ∷ publish 2 7 ∷ []) ++ (writes_lines 0 2 5 ++ ((Land 3 ∷ []) ++ (commits 0 6 ++ acknowledges 0 7))))))))

-- the last transaction is committed and not yet acknowledged: nothing of it is accepted
abbrev pub last_open : List Event
last_open = whole_cycle ++ ((publish 2 7 ∷ []) ++ (writes_lines 0 2 4 ++ commits 0 5))
