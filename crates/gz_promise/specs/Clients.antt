-- What a client of a journal reads in the promise: its own messages in the read order; and what `count` has of a key.
use Rattle.std.specs.Prelude.{◌≡◌, ℕ, zero, suc, ◌-◌, ◌^◌, min, List, [], ◌∷◌, ◌++◌, flat_map, filter, length, map, Option, Some, None, true, ⊤}
use Rattle.std.specs.Str.{bytes_eq}
use Rattle.gz_model.specs.Prefix.{IsPrefix}
use Rattle.gz_frame.specs.Messages.{Message, outside_txn}
use Rattle.gz_frame.specs.Release.{is_above, of_producer}
use Rattle.gz_frame.specs.Text.{messages_of}
use Rattle.gz_sequencer.specs.Committed.{committed, messages_alone}
use Rattle.gz_sequencer.specs.Transactions.{AreTransactions, Line, NoneNewer, Transaction, lines_in, messages_in_lines, text_of, text_of_lines}
use Rattle.gz_app.specs.States.{number_at}
use Rattle.gz_app.specs.declared.app.AppKind.TheVariants.{Count}
use Rattle.gz_promise.specs.Accounts.{Account, Stream}
use Rattle.gz_promise.specs.Promise.{ExactlyOnce, Taken, messages_in, of_source, read_order}

-- the source of this number
abbrev pub IsSource : ℕ → List Stream → Stream → Type 0
IsSource k [] s = ⊥
IsSource zero (t ∷ ss) s = t ≡ s
IsSource (suc k) (t ∷ ss) s = IsSource k ss s

-- of one source and one producer, what stands in a read order
abbrev pub read_from : ℕ → List ℕ → List Taken → List Message
read_from k producer order = of_producer producer (of_source k order)

abbrev pub AllOutside : List Message → Type 0
AllOutside [] = ⊤
AllOutside (m ∷ ms) = (m.flags ≡ outside_txn) × AllOutside ms

-- Messages that stand by themselves, each newer than those before it; what stands again behind one isn't newer than it.
abbrev pub AreSingles : Option ℕ → List Line → Type 0
AreSingles top [] = ⊤
AreSingles top (l ∷ ls) =
    (l.message.flags ≡ outside_txn) × (is_above top l.message.clock ≡ true)
    × AllOutside l.again × NoneNewer l.message.clock l.again × AreSingles (Some l.message.clock) ls

-- how often a key stands in messages
abbrev pub count_of : List ℕ → List Message → ℕ
count_of key ms = length (filter (λ m. bytes_eq m.key key) ms)

-- ---- what a user reads

-- the source of this number has this text, from an offset on
abbrev pub HasText : Account → ℕ → ℕ → List ℕ → Type 0
HasText a k offset text = IsSource k a.sources (record { from = offset; committed = committed offset text })

-- the client's messages in the text
abbrev pub written_by : List ℕ → ℕ → List ℕ → List Message
written_by client offset text = of_producer client (messages_alone (messages_of offset text))

-- What an account that is exactly once says to its users, of its one read order.
pub record ServesUsers (a : Account) (once : ExactlyOnce a) : Type 0 where
  -- A client writes transactions into a source, and repeats lines as it likes: a prefix of its messages is read, each once, in
  -- its order.
  pub transactions : (k offset : ℕ) (text client : List ℕ) (ts : List Transaction) (waiting : List Line) → HasText a k offset text →
      AreTransactions None ts waiting → written_by client offset text ≡ text_of ts ++ text_of_lines waiting →
      IsPrefix (read_from k client (read_order a once)) (lines_in ts)
  -- the same where its messages stand by themselves, one by one
  pub messages : (k offset : ℕ) (text client : List ℕ) (ls : List Line) → HasText a k offset text →
      AreSingles None ls → written_by client offset text ≡ text_of_lines ls →
      IsPrefix (read_from k client (read_order a once)) (messages_in_lines ls)
  -- with `count`, the number of a key is how often that key stands in the read order, up to the greatest number of 64 bits
  pub counts : (key : List ℕ) → a.app ≡ Count → number_at key a.store ≡ min (count_of key (messages_in (read_order a once))) (2 ^ 64 - 1)
