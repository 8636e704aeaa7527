-- What a shard writes into each of its outputs is a list of transactions, of which readers accept the lines.
use Rattle.std.proofs.Common.{◌≡◌, ℕ, ◌+◌, ◌<◌, ◌≤◌, ◌==◌, ◌||◌, List, [], ◌∷◌, ◌++◌, length, filter, flat_map, map, refl, ap, sym, ◌∙◌, append_assoc, Bool, true, false, cond, Option, None, Some, arith, nat_lt}
use Rattle.std.specs.Prelude.{⊤}
use Rattle.std.proofs.lemmas.Grind.{common_steps}
use Rattle.std.proofs.lemmas.List.{append-nil, map-append}
use Rattle.std.proofs.lemmas.List.Concat.{flat_map-append}
use Rattle.std.proofs.lemmas.List.Elements.{filter-append}
use Rattle.std.proofs.lemmas.Slice.Eq.{bytes_eq-Decides}
use Rattle.std.specs.Str.{bytes_eq}
use Rattle.gz_frame.specs.Messages.{Message, continue_txn}
use Rattle.gz_frame.specs.Release.{is_above, of_producer}
use Rattle.gz_frame.specs.Text.{messages_of}
use Rattle.gz_app.specs.Applications.{Output}
use Rattle.gz_sequencer.specs.Committed.{committed, messages_alone, released_in}
use Rattle.gz_sequencer.specs.Transactions as written
use Rattle.gz_sequencer.specs.Transactions.{Line, Transaction, AreTransactions, IsTransaction, UpTo, last_clock, lines_in, messages_in_lines, text_of, text_of_lines}
use Rattle.gz_sequencer.proofs.Transactions.{transactions_released}
use Rattle.gz_promise.specs.Outputs.{accepted_of, choice, is_one, outputs_in, routed}
use Rattle.gz_plain.specs.Plain.{lines_from, ack_at}
use Rattle.gz_plain.specs.Shards.{lines_to, closed}

-- bytes are equal to themselves
pub same_bytes : (bytes : List ℕ) → bytes_eq bytes bytes ≡ true
same_bytes bytes = (bytes_eq-Decides bytes bytes).1 refl

-- ---- lines that rise

-- CONTINUE messages of the producer, with clocks that rise from above `low` to at most `high`
abbrev pub Rise : List ℕ → ℕ → ℕ → List Message → Type 0
Rise p low high [] = low ≤ high
Rise p low high (m ∷ ms) = (m.producer ≡ p) × (m.flags ≡ continue_txn) × (low < m.clock) × Rise p m.clock high ms

pub rise_wider : (p : List ℕ) (low high top : ℕ) (ms : List Message) → high ≤ top → Rise p low high ms → Rise p low top ms
rise_wider p low high top [] w r = omega arith
rise_wider p low high top (m ∷ ms) w r = (r.0, r.1, r.2, rise_wider p m.clock high top ms w r.3)

pub rise_lower : (p : List ℕ) (down low high : ℕ) (ms : List Message) → down ≤ low → Rise p low high ms → Rise p down high ms
rise_lower p down low high [] w r = omega arith
rise_lower p down low high (m ∷ ms) w r = (r.0, r.1, omega (arith, r.2), r.3)

pub lines_rise : (p : List ℕ) (last : ℕ) (os : List Output) → Rise p last (last + length os) (lines_from p last os)
lines_rise p last [] = omega arith
lines_rise p last (o ∷ os) =
    (refl, refl, omega arith, rise_wider p (last + 1) (last + 1 + length os) (last + length (o ∷ os)) (lines_from p (last + 1) os) (omega arith) (lines_rise p (last + 1) os))

rise_if : (p : List ℕ) (low high : ℕ) (m : Message) (ms : List Message) (b : Bool) → m.producer ≡ p → m.flags ≡ continue_txn → low < m.clock → Rise p m.clock high ms → Rise p low high (cond b (m ∷ ms) ms)
rise_if p low high m ms true of flags above r = (of, flags, above, r)
rise_if p low high m ms false of flags above r = rise_lower p low m.clock high ms (omega arith) r

pub rise_filter : (t : Message → Bool) (p : List ℕ) (low high : ℕ) (ms : List Message) → Rise p low high ms → Rise p low high (filter t ms)
rise_filter t p low high [] r = r
rise_filter t p low high (m ∷ ms) r = rise_if p low high m (filter t ms) (t m) r.0 r.1 r.2 (rise_filter t p m.clock high ms r.3)

-- ---- a commit's lines as a transaction

-- a line that stands once
abbrev pub alone : Message → Line
alone m = record { message = m; again = [] }

-- lines and their acknowledgement, where there are any
abbrev pub as_transaction : List Message → Message → List Transaction
as_transaction [] ack = []
as_transaction (m ∷ ms) ack = record { lines = map alone (m ∷ ms); ack = ack; again = [] } ∷ []

text_alone : (ms : List Message) → text_of_lines (map alone ms) ≡ ms
text_alone [] = refl
text_alone (m ∷ ms) = ap (λ (xs : List Message). m ∷ xs) (text_alone ms)

messages_alone_in : (ms : List Message) → messages_in_lines (map alone ms) ≡ ms
messages_alone_in [] = refl
messages_alone_in (m ∷ ms) = ap (λ (xs : List Message). m ∷ xs) (messages_alone_in ms)

pub text_one : (ms : List Message) (ack : Message) → text_of (as_transaction ms ack) ≡ closed ack ms
text_one [] ack = refl
text_one (m ∷ ms) ack = append-nil (text_of_lines (map alone (m ∷ ms)) ++ ack ∷ []) ∙ ap (λ (xs : List Message). xs ++ ack ∷ []) (text_alone (m ∷ ms))

lines_one : (ms : List Message) (ack : Message) → lines_in (as_transaction ms ack) ≡ ms
lines_one [] ack = refl
lines_one (m ∷ ms) ack = append-nil (messages_in_lines (map alone (m ∷ ms))) ∙ messages_alone_in (m ∷ ms)

pub text_two : (xs ys : List Transaction) → text_of (xs ++ ys) ≡ text_of xs ++ text_of ys
text_two xs ys = flat_map-append (λ t. text_of_lines t.lines ++ t.ack ∷ t.again) xs ys

lines_two : (xs ys : List Transaction) → lines_in (xs ++ ys) ≡ lines_in xs ++ lines_in ys
lines_two xs ys = flat_map-append (λ t. messages_in_lines t.lines) xs ys

-- a top is at most the clock
abbrev Below : Option ℕ → ℕ → Type 0
Below None clock = ⊤
Below (Some top) clock = top ≤ clock

below_wider : (top : Option ℕ) (low high : ℕ) → low ≤ high → Below top low → Below top high
below_wider None low high w b = tt
below_wider (Some top) low high w b = omega (arith, b, w)

less_than : (m n : ℕ) → m < n → nat_lt m n ≡ true
less_than m n h = grind (arith, common_steps)

above_below : (top : Option ℕ) (low clock : ℕ) → Below top low → low < clock → is_above top clock ≡ true
above_below None low clock b l = refl
above_below (Some top) low clock b l = less_than top clock (omega (arith, b, l))

rises : (p : List ℕ) (low high : ℕ) (ms : List Message) (top : Option ℕ) → Below top low → Rise p low high ms → written.Rise top (map alone ms)
rises p low high [] top b r = tt
rises p low high (m ∷ ms) top b r = (r.1, above_below top low m.clock b r.2, tt, tt, rises p m.clock high ms (Some m.clock) (omega arith) r.3)

upto_high : (p : List ℕ) (low high : ℕ) (ms : List Message) (top : Option ℕ) → Below top low → Rise p low high ms → UpTo (last_clock top (map alone ms)) high
upto_high p low high [] None b r = tt
upto_high p low high [] (Some top) b r = omega (arith, b, r)
upto_high p low high (m ∷ ms) top b r = upto_high p m.clock high ms (Some m.clock) (omega arith) r.3

-- one transaction before the others
first_transaction : (p : List ℕ) (low clock : ℕ) (ms : List Message) (top : Option ℕ) (ts : List Transaction) → Below top low → Rise p low clock ms
    → ((above : Option ℕ) → Below above clock → AreTransactions above ts []) → AreTransactions top (as_transaction ms (ack_at p clock) ++ ts) []
first_transaction p low clock [] top ts b r rest = rest top (below_wider top low clock r b)
first_transaction p low clock (m ∷ ms) top ts b r rest = (
  record { lines = rises p low clock (m ∷ ms) top b r; flags = refl; upto = upto_high p low clock (m ∷ ms) top b r; again = tt },
  rest (Some clock) (omega arith),
)

-- ---- the transactions of one output

-- what a shard writes for one of its outputs, where its commits emit these
abbrev pub transactions_to : List ℕ → ℕ → ℕ → ℕ → List (List Output) → List Transaction
transactions_to p count place last [] = []
transactions_to p count place last (os ∷ oss) =
    as_transaction (lines_to count place (lines_from p last os)) (ack_at p (last + length os + 1)) ++ transactions_to p count place (last + length os + 1) oss

-- the last clock after these commits
abbrev pub clock_after : ℕ → List (List Output) → ℕ
clock_after last [] = last
clock_after last (os ∷ oss) = clock_after (last + length os + 1) oss

are_transactions : (p : List ℕ) (count place last : ℕ) (oss : List (List Output)) (top : Option ℕ) → Below top last → AreTransactions top (transactions_to p count place last oss) []
are_transactions p count place last [] top b = tt
are_transactions p count place last (os ∷ oss) top b =
    let lines : List Message = lines_from p last os in
    let clock : ℕ = last + length os + 1 in
    first_transaction p last clock (lines_to count place lines) top (transactions_to p count place clock oss) b
    (rise_wider p last (last + length os) clock (lines_to count place lines) (omega arith)
    (rise_filter (λ m. choice count m.key == place) p last (last + length os) lines (lines_rise p last os)))
    (λ above below. are_transactions p count place clock oss above below)

-- one more commit
pub transactions_more : (p : List ℕ) (count place last : ℕ) (oss : List (List Output)) (os : List Output)
    → transactions_to p count place last (oss ++ os ∷ []) ≡ transactions_to p count place last oss
    ++ as_transaction (lines_to count place (lines_from p (clock_after last oss) os)) (ack_at p (clock_after last oss + length os + 1))
transactions_more p count place last [] os = append-nil (as_transaction (lines_to count place (lines_from p last os)) (ack_at p (last + length os + 1)))
transactions_more p count place last (first ∷ oss) os =
    let clock : ℕ = last + length first + 1 in
    let one : List Transaction = as_transaction (lines_to count place (lines_from p last first)) (ack_at p clock) in
    let end : ℕ = clock_after clock oss in
    ap (λ (ts : List Transaction). one ++ ts) (transactions_more p count place clock oss os)
    ∙ sym (append_assoc one (transactions_to p count place clock oss) (as_transaction (lines_to count place (lines_from p end os)) (ack_at p (end + length os + 1))))

pub clock_more : (last : ℕ) (oss : List (List Output)) (os : List Output) → clock_after last (oss ++ os ∷ []) ≡ clock_after last oss + length os + 1
clock_more last [] os = refl
clock_more last (os1 ∷ oss) os = clock_more (last + length os1 + 1) oss os

-- ---- the outputs that the lines hold

-- what the commits emit, one behind the other
abbrev pub joined : List (List Output) → List Output
joined oss = flat_map (λ os. os) oss

pub joined_more : (oss : List (List Output)) (os : List Output) → joined (oss ++ os ∷ []) ≡ joined oss ++ os
joined_more oss os = flat_map-append (λ os. os) oss (os ∷ []) ∙ ap (λ (back : List Output). joined oss ++ back) (append-nil os)

chosen_if : (m : Message) (o : Output) (ms : List Message) (os : List Output) (b : Bool) → record { key = m.key; value = m.value } ≡ o → outputs_in ms ≡ os → outputs_in (cond b (m ∷ ms) ms) ≡ cond b (o ∷ os) os
chosen_if m o ms os true same more = rw (same, more) refl
chosen_if m o ms os false same more = more

outputs_in_lines : (p : List ℕ) (count place last : ℕ) (os : List Output) → outputs_in (lines_to count place (lines_from p last os)) ≡ routed count place os
outputs_in_lines p count place last [] = refl
outputs_in_lines p count place last (o ∷ os) =
    chosen_if (record { producer = p; clock = last + 1; flags = continue_txn; key = o.key; value = o.value }) o
    (lines_to count place (lines_from p (last + 1) os)) (routed count place os) (choice count o.key == place) refl (outputs_in_lines p count place (last + 1) os)

outputs_in_transactions : (p : List ℕ) (count place last : ℕ) (oss : List (List Output)) → outputs_in (lines_in (transactions_to p count place last oss)) ≡ routed count place (joined oss)
outputs_in_transactions p count place last [] = refl
outputs_in_transactions p count place last (os ∷ oss) =
    let lines : List Message = lines_to count place (lines_from p last os) in
    let clock : ℕ = last + length os + 1 in
    let rest : List Transaction = transactions_to p count place clock oss in
    ap (λ (ms : List Message). outputs_in ms) (lines_two (as_transaction lines (ack_at p clock)) rest ∙ ap (λ (ms : List Message). ms ++ lines_in rest) (lines_one lines (ack_at p clock)))
    ∙ map-append (λ m. record { key = m.key; value = m.value }) lines (lines_in rest)
    ∙ rw (outputs_in_lines p count place last os, outputs_in_transactions p count place clock oss)
    (sym (filter-append (λ o. choice count o.key == place) os (joined oss)))

-- ---- what readers accept

or_false : (b : Bool) → (b || false) ≡ b
or_false true = refl
or_false false = refl

one_producer : (p : List ℕ) (ms : List Message) → filter (λ m. is_one (p ∷ []) m.producer) ms ≡ of_producer p ms
one_producer p [] = refl
one_producer p (m ∷ ms) = rw (or_false (bytes_eq m.producer p), one_producer p ms) refl

-- of a journal with these transactions of the producer, readers accept what the commits emit to it
pub accepts_transactions : (p : List ℕ) (count place : ℕ) (text : List ℕ) (oss : List (List Output))
    → of_producer p (messages_alone (messages_of 0 text)) ≡ text_of (transactions_to p count place 0 oss) → accepted_of (p ∷ []) text ≡ routed count place (joined oss)
accepts_transactions p count place text oss is =
    let ts : List Transaction = transactions_to p count place 0 oss in
    ap (λ (ms : List Message). outputs_in ms)
    (one_producer p (released_in (committed 0 text))
    ∙ transactions_released 0 text p ts [] (are_transactions p count place 0 oss None tt) (is ∙ sym (append-nil (text_of ts))))
    ∙ outputs_in_transactions p count place 0 oss
