-- What a step keeps of its own shard, and of every other one.
use Rattle.std.proofs.Common.{◌≡◌, ℕ, ◌+◌, ◌<◌, ◌≤◌, ◌^◌, ◌&&◌, List, [], ◌∷◌, ◌++◌, length, refl, ap, sym, ◌∙◌, subst, append_assoc, Bool, true, false, nat_lt, nat_le, decimal, arith}
use Rattle.std.specs.Prelude.{⊤}
use Rattle.std.proofs.lemmas.Grind.{common_steps}
use Rattle.std.proofs.lemmas.List.{length-append}
use Rattle.gz_frame.specs.Messages.{Message, ack_txn, is_message, is_text_within, max_key, max_value}
use Rattle.gz_app.specs.Applications.{Output}
use Rattle.gz_frame.proofs.Texts.{is_text}
use Rattle.gz_app.proofs.Floats.{short_decimal}
use Rattle.std.proofs.DigitsParse.{digits-IsUtf8}
use Rattle.gz_promise.specs.Applications.{after, emits, folded, emitted}
use Rattle.gz_app.specs.States.{State, number_at}
use Rattle.gz_app.specs.Applications.{raised}
use Rattle.gz_app.specs.declared.app.AppKind.{AppKind}
use Rattle.gz_app.specs.declared.app.AppKind.TheVariants.{Count, Relay, Latest}
use Rattle.gz_plain.specs.Plain.{lines_from, ack_at}
use Rattle.gz_promise.specs.Journals.{Journal, AreWhole}
use Rattle.gz_promise.specs.Sources.{froms_of, ends_of, all_committed, AllEndLines}
use Rattle.gz_plain.proofs.LineEnds.{end_lines, all_lines_later, all_lines_more}
use Rattle.gz_plain.specs.Shards.{Shard, read_order, last_offsets, untaken, attempt_of, journals_after, committing, has_room}
use Rattle.gz_promise.specs.Promise.{AcceptAll, Delivers}
use Rattle.gz_plain.specs.Promise.{account_of, all_accepted}
use Rattle.gz_plain.proofs.Lawful.{IsMessage, parts_messages}
use Rattle.gz_sequencer.proofs.Produced.{Each}
use Rattle.gz_plain.proofs.Growth.{Grow}
use Rattle.gz_plain.specs.Running.{AllUpto}
use Rattle.gz_plain.proofs.Longer.{Longer, grow_longer}
use Rattle.gz_plain.proofs.Takes.{AllTaken, all_later, all_more, upto_ends, all_upto_more, all_upto_later, order_later, orders_more, AllShaped, all_shaped_more, shaped_ends}
use Rattle.gz_plain.proofs.Transactions.{joined, joined_more, clock_after, clock_more}
use Rattle.gz_plain.proofs.Accounts.{delivers}
use Rattle.gz_plain.specs.Runs.{ArePresent, IsLine}
use Rattle.gz_promise.specs.Names.{Distinct}
use Rattle.gz_plain.proofs.Writes.{Holds, holds_written, holds_foreign, grow_written, AllForeign, foreign_grow, accept_all}

-- ---- shards whose lines are read

-- a key and a value that a message may have
abbrev pub is_output : Output → Bool
is_output o = is_text_within max_key o.key && is_text_within max_value o.value

abbrev pub AreOutputs : List Output → Type 0
AreOutputs [] = ⊤
AreOutputs (o ∷ os) = (is_output o ≡ true) × AreOutputs os

-- the producer's lines are read as what they are
pub record HasLines (p : List ℕ) : Type 0 where
  pub line : (clock : ℕ) (o : Output) → clock < 2 ^ 64 → is_output o ≡ true → IsLine (record { producer = p; clock = clock; flags = 0; key = o.key; value = o.value })
  pub ack : (clock : ℕ) → clock < 2 ^ 64 → IsLine (ack_at p clock)

-- a shard whose outputs are journals, each named once
pub record IsLawful (js : List Journal) (s : Shard) : Type 0 where
  pub lines : HasLines s.producer
  pub distinct : Distinct s.outputs
  pub present : ArePresent s.outputs js

-- what a shard has come to
pub record Kept (js : List Journal) (s : Shard) : Type 0 where
  pub batches : List (List Output)
  pub taken : AllTaken 0 js s.sources s.commits
  pub upto : AllUpto js s.commits s.sources
  pub lines : AllEndLines js s.commits s.sources
  pub shape : AllShaped s.commits s.sources
  pub store : s.store ≡ folded s.app [] (read_order js s)
  pub puts : joined batches ≡ emitted s.app [] (read_order js s)
  pub outputs : Holds js s.producer (length s.outputs) 0 s.outputs batches
  pub clock : s.clock ≡ clock_after 0 batches

prefix_holds : (a b : Bool) → (a && b) ≡ true → a ≡ true
prefix_holds true b is = refl
prefix_holds false b is = is

back_holds : (a b : Bool) → (a && b) ≡ true → b ≡ true
back_holds true b is = is
back_holds false b is = cc

both_hold : (a b : Bool) → a ≡ true → b ≡ true → (a && b) ≡ true
both_hold a b first second = rw (first, second) refl

-- ---- the application over one list behind another

folded_two : (app : AppKind) (state : State) (xs ys : List Message) → folded app state (xs ++ ys) ≡ folded app (folded app state xs) ys
folded_two app state [] ys = refl
folded_two app state (m ∷ ms) ys = folded_two app (after app state m) ms ys

put_out_two : (app : AppKind) (state : State) (xs ys : List Message) → emitted app state (xs ++ ys) ≡ emitted app state xs ++ emitted app (folded app state xs) ys
put_out_two app state [] ys = refl
put_out_two app state (m ∷ ms) ys =
    ap (λ (os : List Output). emits app state m ++ os) (put_out_two app (after app state m) ms ys)
    ∙ sym (append_assoc (emits app state m) (emitted app (after app state m) ms) (emitted app (folded app (after app state m) ms) ys))

few : (app : AppKind) (state : State) (m : Message) → length (emits app state m) ≤ 1
few Count state m = omega arith
few Relay state m = omega arith
few Latest state m = omega arith

pub few_out : (app : AppKind) (state : State) (ms : List Message) → length (emitted app state ms) ≤ length ms
few_out app state [] = omega arith
few_out app state (m ∷ ms) =
    omega (arith, length-append (emits app state m) (emitted app (after app state m) ms), few app state m, few_out app (after app state m) ms)

outputs_two : (xs ys : List Output) → AreOutputs xs → AreOutputs ys → AreOutputs (xs ++ ys)
outputs_two [] ys a c = c
outputs_two (x ∷ xs) ys a c = (a.0, outputs_two xs ys a.1 c)

key_is_short : (m : Message) → is_message m ≡ true → is_text_within max_key m.key ≡ true
key_is_short m is =
    prefix_holds (is_text_within max_key m.key) (is_text_within max_value m.value)
    (prefix_holds (is_text_within max_key m.key && is_text_within max_value m.value) (nat_le m.flags ack_txn) is)

value_is_short : (m : Message) → is_message m ≡ true → is_text_within max_value m.value ≡ true
value_is_short m is =
    back_holds (is_text_within max_key m.key) (is_text_within max_value m.value)
    (prefix_holds (is_text_within max_key m.key && is_text_within max_value m.value) (nat_le m.flags ack_txn) is)

number_is_short : (n : ℕ) → is_text_within max_value (decimal (raised n)) ≡ true
number_is_short n = is_text 4096 (decimal (raised n)) (digits-IsUtf8 10 false (raised n) (omega arith) (omega arith)) (short_decimal (raised n) (omega arith))

short : (app : AppKind) (state : State) (m : Message) → is_message m ≡ true → AreOutputs (emits app state m)
short Count state m is = (both_hold (is_text_within max_key m.key) (is_text_within max_value (decimal (raised (number_at m.key state)))) (key_is_short m is) (number_is_short (number_at m.key state)), tt)
short Relay state m is = (both_hold (is_text_within max_key m.key) (is_text_within max_value m.value) (key_is_short m is) (value_is_short m is), tt)
short Latest state m is = tt

short_out : (app : AppKind) (state : State) (ms : List Message) → Each (λ m. is_message m ≡ true) ms → AreOutputs (emitted app state ms)
short_out app state [] each = tt
short_out app state (m ∷ ms) each =
    outputs_two (emits app state m) (emitted app (after app state m) ms) (short app state m each.0) (short_out app (after app state m) ms each.1)

-- the lines of outputs are read
each_line : (p : List ℕ) (last : ℕ) (os : List Output) → HasLines p → last + length os < 2 ^ 64 → AreOutputs os → Each IsLine (lines_from p last os)
each_line p last [] h fits a = tt
each_line p last (o ∷ os) h fits a = (h.line (last + 1) o (omega arith) a.0, each_line p (last + 1) os h (omega arith) a.1)

-- ---- a commit

pub less_than : (m n : ℕ) → nat_lt m n ≡ true → m < n
less_than m n is = grind (arith, common_steps)

-- the read order after a commit, and the journals that it gives
pub order_commit : (js new : List Journal) (ms : List Message) (s : Shard) → ms ≡ untaken js s → Longer js new → AllUpto js s.commits s.sources
    → read_order new (committing js ms s) ≡ read_order js s ++ ms
order_commit js new ms s is longer upto =
    let froms : List ℕ = froms_of s.sources in
    let ends : List ℕ = ends_of js s.sources in
    order_later js new froms (s.commits ++ ends ∷ []) s.sources longer (all_upto_more js s.commits s.sources ends (upto_ends js s.sources) upto)
    ∙ orders_more froms s.commits ends (all_committed js s.sources)
    ∙ ap (λ (xs : List Message). read_order js s ++ xs) (sym is)

-- what a commit writes are lines
pub writes_lines : (js : List Journal) (ms : List Message) (s : Shard) → ms ≡ untaken js s → IsLawful js s → has_room ms s ≡ true
    → Each IsLine (lines_from s.producer s.clock (emitted s.app s.store ms)) × IsLine (ack_at s.producer (s.clock + length (emitted s.app s.store ms) + 1))
writes_lines js ms s is lawful room =
    let few : length (emitted s.app s.store ms) ≤ length ms = few_out s.app s.store ms in
    let fits : s.clock + length ms + 1 < 2 ^ 64 = less_than (s.clock + length ms + 1) (2 ^ 64) room in
    let each : Each IsMessage ms = subst (λ (xs : List Message). Each IsMessage xs) (sym is) (parts_messages js (last_offsets s) (ends_of js s.sources) s.sources) in (
      each_line s.producer s.clock (emitted s.app s.store ms) lawful.lines (omega (arith, few, fits)) (short_out s.app s.store ms each),
      lawful.lines.ack (s.clock + length (emitted s.app s.store ms) + 1) (omega (arith, few, fits)),
    )

pub kept_commit : (js : List Journal) (ms : List Message) (s : Shard) → ms ≡ untaken js s → AreWhole js → IsLawful js s → has_room ms s ≡ true → Kept js s
    → Kept (journals_after s (emitted s.app s.store ms) js) (committing js ms s)
kept_commit js ms s is whole lawful room k =
    let os : List Output = emitted s.app s.store ms in
    let new : List Journal = journals_after s os js in
    let ends : List ℕ = ends_of js s.sources in
    let w = writes_lines js ms s is lawful room in
    let grow : Grow js new = grow_written (attempt_of s) (length s.outputs) 0 (lines_from s.producer s.clock os) (ack_at s.producer (s.clock + length os + 1)) s.outputs js w.1 w.0 in
    let order : read_order new (committing js ms s) ≡ read_order js s ++ ms = order_commit js new ms s is (grow_longer js new grow) k.upto in
    record {
      batches = k.batches ++ os ∷ [];
      taken = all_later 0 js new s.sources (s.commits ++ ends ∷ []) (grow_longer js new grow) (all_more js s.sources s.commits k.taken);
      upto = all_upto_later js new (s.commits ++ ends ∷ []) s.sources (grow_longer js new grow) (all_upto_more js s.commits s.sources ends (upto_ends js s.sources) k.upto);
      lines = all_lines_later js new (s.commits ++ ends ∷ []) s.sources (grow_longer js new grow) (all_lines_more js s.commits s.sources ends (end_lines js s.sources whole) k.lines);
      shape = all_shaped_more s.commits s.sources ends (shaped_ends js s.sources) k.shape;
      store = ap (λ (state : _). folded s.app state ms) k.store ∙ sym (folded_two s.app [] (read_order js s) ms) ∙ ap (λ (xs : List Message). folded s.app [] xs) (sym order);
      puts = joined_more k.batches os
          ∙ ap (λ (xs : List Output). xs ++ os) k.puts
          ∙ ap (λ (state : _). emitted s.app [] (read_order js s) ++ emitted s.app state ms) k.store
          ∙ sym (put_out_two s.app [] (read_order js s) ms)
          ∙ ap (λ (xs : List Message). emitted s.app [] xs) (sym order);
      outputs = holds_written (attempt_of s) s.outputs s.producer (length s.outputs) 0 s.clock k.batches os js k.clock w.1 w.0 whole lawful.distinct lawful.present k.outputs;
      clock = ap (λ (n : ℕ). n + length os + 1) k.clock ∙ sym (clock_more 0 k.batches os);
    }

-- ---- what others do

pub kept_foreign : (js new : List Journal) (s : Shard) → AreWhole js → AllForeign s.producer js new → Kept js s → Kept new s
kept_foreign js new s whole foreign k =
    let grow : Grow js new = foreign_grow s.producer js new foreign in
    let order : read_order new s ≡ read_order js s = order_later js new (froms_of s.sources) s.commits s.sources (grow_longer js new grow) k.upto in
    record {
      batches = k.batches;
      taken = all_later 0 js new s.sources s.commits (grow_longer js new grow) k.taken;
      upto = all_upto_later js new s.commits s.sources (grow_longer js new grow) k.upto;
      lines = all_lines_later js new s.commits s.sources (grow_longer js new grow) k.lines;
      shape = k.shape;
      store = k.store ∙ ap (λ (xs : List Message). folded s.app [] xs) (sym order);
      puts = k.puts ∙ ap (λ (xs : List Message). emitted s.app [] xs) (sym order);
      outputs = holds_foreign js new s.producer (length s.outputs) 0 s.outputs k.batches whole foreign k.outputs;
      clock = k.clock;
    }

-- what is kept is the promise
pub exactly_once_of : (js : List Journal) (s : Shard) → Kept js s → Delivers (account_of js s)
exactly_once_of js s k =
    delivers js s k.shape k.taken k.store
    (subst (λ (os : List Output). AcceptAll (length s.outputs) 0 os (all_accepted js s.producer s.outputs)) k.puts (accept_all js s.producer (length s.outputs) 0 s.outputs k.batches k.outputs))
