-- Numbers that stand for states, outputs and messages, and are read back.
use Rattle.std.specs.Prelude.{ℕ, zero, suc, ◌+◌, ◌==◌, ◌/◌, ◌%◌, List, [], ◌∷◌, map, if◌then◌else◌}
use Rattle.gz_frame.specs.Messages as frame
use Rattle.gz_app.specs.declared.state.Kept.{Kept}
use Rattle.gz_app.specs.declared.state.Kept.TheVariants.{Number, Text}
use Rattle.gz_reader.specs.Reader.{Kind, Continue, Acknowledge, Outside}
use Rattle.gz_reader.specs.Coding.{Coding, doubled, number_of}
use Rattle.gz_account.specs.Account.{Numbers}

-- two numbers as one, above 0
abbrev pub pair : ℕ → ℕ → ℕ
pair x r = doubled x (r + r + 1)

-- its parts, in more steps than the first one is
abbrev pub first_in : ℕ → ℕ → ℕ
first_in zero n = 0
first_in (suc steps) n = if n % 2 == 1 then 0 else first_in steps (n / 2) + 1

abbrev pub second_in : ℕ → ℕ → ℕ
second_in zero n = 0
second_in (suc steps) n = if n % 2 == 1 then n / 2 else second_in steps (n / 2)

abbrev pub first : ℕ → ℕ
first n = first_in n n

abbrev pub second : ℕ → ℕ
second n = second_in n n

-- the list of a number, in at least as many steps as it has elements
abbrev pub list_in : ℕ → ℕ → List ℕ
list_in zero n = []
list_in (suc steps) n = if n == 0 then [] else first n ∷ list_in steps (second n)

abbrev pub list_of : ℕ → List ℕ
list_of n = list_in n n

-- what is kept of a key is a number or a text
abbrev pub kept_number : Kept → ℕ
kept_number (Number n) = pair 0 n
kept_number (Text t) = pair 1 (number_of t)

abbrev pub kept_of : ℕ → Kept
kept_of n = if first n == 0 then Number (second n) else Text (list_of (second n))

abbrev pub entry_number : List ℕ × Kept → ℕ
entry_number e = pair (number_of e.0) (kept_number e.1)

abbrev pub entry_of : ℕ → List ℕ × Kept
entry_of n = (list_of (first n), kept_of (second n))

-- a key and a value
abbrev pub texts_number : List ℕ → List ℕ → ℕ
texts_number key value = pair (number_of key) (number_of value)

abbrev pub flags_of : Kind → ℕ
flags_of Continue = frame.continue_txn
flags_of Acknowledge = frame.ack_txn
flags_of Outside = frame.outside_txn

-- the numbers of all of these
abbrev pub plain_numbers : Numbers
plain_numbers = record {
  state = λ s. number_of (map entry_number s);
  state_of = λ n. map entry_of (list_of n);
  output = λ o. texts_number o.key o.value;
  output_of = λ n. record { key = list_of (first n); value = list_of (second n) };
  message_of = λ m. record {
    producer = list_of m.producer;
    clock = m.clock;
    flags = flags_of m.kind;
    key = list_of (first m.value);
    value = list_of (second m.value);
  };
}

-- how journals' messages are told to readers by these numbers
abbrev pub told_by_numbers : Coding
told_by_numbers = record { producer = number_of; value = texts_number }
