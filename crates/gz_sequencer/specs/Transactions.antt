-- What one producer writes: transactions, with lines that stand again.
use Rattle.std.specs.Prelude.{◌≡◌, ℕ, ◌≤◌, List, [], ◌∷◌, ◌++◌, map, flat_map, Option, Some, None, true, ⊤}
use Rattle.gz_frame.specs.Messages.{Message, continue_txn, ack_txn}
use Rattle.gz_frame.specs.Release.{is_above}

-- a line of a transaction, and the lines of the transaction that stand again behind it
pub record Line : Type 0 where
  pub message : Message
  pub again : List Message

-- A transaction: its lines, the message that acknowledges them, and the lines that stand again behind that.
pub record Transaction : Type 0 where
  pub lines : List Line
  pub ack : Message
  pub again : List Message

-- the messages as they were written
abbrev pub text_of_lines : List Line → List Message
text_of_lines ls = flat_map (λ l. l.message ∷ l.again) ls

abbrev pub text_of : List Transaction → List Message
text_of ts = flat_map (λ t. text_of_lines t.lines ++ t.ack ∷ t.again) ts

-- the lines alone, each once
abbrev pub messages_in_lines : List Line → List Message
messages_in_lines ls = map (λ l. l.message) ls

abbrev pub lines_in : List Transaction → List Message
lines_in ts = flat_map (λ t. messages_in_lines t.lines) ts

-- no message is newer than the clock
abbrev pub NoneNewer : ℕ → List Message → Type 0
NoneNewer clock [] = ⊤
NoneNewer clock (m ∷ ms) = (m.clock ≤ clock) × NoneNewer clock ms

abbrev pub AllContinue : List Message → Type 0
AllContinue [] = ⊤
AllContinue (m ∷ ms) = (m.flags ≡ continue_txn) × AllContinue ms

-- CONTINUE lines whose clocks rise from above `top`; those that stand again behind one are no newer
abbrev pub Rise : Option ℕ → List Line → Type 0
Rise top [] = ⊤
Rise top (l ∷ ls) =
    (l.message.flags ≡ continue_txn) × (is_above top l.message.clock ≡ true) × AllContinue l.again × NoneNewer l.message.clock l.again × Rise (Some l.message.clock) ls

-- the clock of the last line; where there is none, `top`
abbrev pub last_clock : Option ℕ → List Line → Option ℕ
last_clock top [] = top
last_clock top (l ∷ ls) = last_clock (Some l.message.clock) ls

-- a clock isn't below the top, if there is one
abbrev pub UpTo : Option ℕ → ℕ → Type 0
UpTo None clock = ⊤
UpTo (Some top) clock = top ≤ clock

-- The lines rise from above `top`, the acknowledgement isn't below them, and what stands again behind it isn't newer.
pub record IsTransaction (top : Option ℕ) (t : Transaction) : Type 0 where
  pub lines : Rise top t.lines
  pub flags : t.ack.flags ≡ ack_txn
  pub upto : UpTo (last_clock top t.lines) t.ack.clock
  pub again : NoneNewer t.ack.clock t.again

-- transactions in order, each above the one before, and behind them lines that aren't acknowledged
abbrev pub AreTransactions : Option ℕ → List Transaction → List Line → Type 0
AreTransactions top [] waiting = Rise top waiting
AreTransactions top (t ∷ ts) waiting = IsTransaction top t × AreTransactions (Some t.ack.clock) ts waiting
