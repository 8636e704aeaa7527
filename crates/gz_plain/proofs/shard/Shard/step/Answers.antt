use Rattle.std.proofs.Common.{◌≡◌, ◌++◌, ◌+◌, ◌<◌, ◌^◌, ◌∙◌, List, [], length, nat_lt, ap, sym, subst, arith}
use Rattle.gz_frame.specs.Messages.{Message}
use Rattle.gz_promise.specs.Applications.{emitted}
use Rattle.gz_promise.specs.Journals.{Journal}
use Rattle.gz_plain.specs.Readers.{all_news}
use Rattle.gz_plain.specs.Running.{IsCommitted, IsKept, read_further, read_up}
use Rattle.gz_plain.specs.Seen.{shard_of}
use Rattle.gz_plain.specs.Shards.{journals_after}
use Rattle.gz_plain.specs.declared.shard.Shard.{Shard}
use Rattle.gz_plain.proofs.Stepping.{IsStepped, none_of, some_of, step_quiet, step_full, stepped_quiet, stepped_full, stepped_commit}
use Rattle.gz_plain.proofs.Steps.{less_than}
use Rattle.gz_plain.proofs.shard.Shard.step.Goals as goal

pub returns-then-is_empty-clause-step : goal.returns-then-is_empty-clause-step
returns-then-is_empty-clause-step c =
    let js : List Journal = c.args.journals.now in
    let s : Shard = c.args.self in
    let is : c.as_slice-messages.result.now ≡ all_news js s.readers = c.as_slice-messages.ensures ∙ c.in_ok-shard.ensures.messages ∙ ap (λ (ms : List Message). ms ++ all_news js s.readers) c.new-messages.ensures in
    let t : IsStepped js s js (read_up (read_further js s)) = stepped_quiet js s c.requires.kept c.if-self.false (sym is ∙ none_of c.as_slice-messages.result.now c.is_empty.result c.is_empty.ensures c.if-is_empty.true) in
    let same : c.in_ok-shard-2.shard ≡ read_up (read_further js s) = c.in_ok-shard-2.ensures ∙ ap (λ (x : Shard). read_up x) c.in_ok-shard.ensures.shard in
    ap (λ (x : Shard). record { journals = js; shard = shard_of x }) same ∙ t.is

pub returns-then-is_empty-clause-kept : goal.returns-then-is_empty-clause-kept
returns-then-is_empty-clause-kept c =
    let js : List Journal = c.args.journals.now in
    let s : Shard = c.args.self in
    let is : c.as_slice-messages.result.now ≡ all_news js s.readers = c.as_slice-messages.ensures ∙ c.in_ok-shard.ensures.messages ∙ ap (λ (ms : List Message). ms ++ all_news js s.readers) c.new-messages.ensures in
    let t : IsStepped js s js (read_up (read_further js s)) = stepped_quiet js s c.requires.kept c.if-self.false (sym is ∙ none_of c.as_slice-messages.result.now c.is_empty.result c.is_empty.ensures c.if-is_empty.true) in
    let same : c.in_ok-shard-2.shard ≡ read_up (read_further js s) = c.in_ok-shard-2.ensures ∙ ap (λ (x : Shard). read_up x) c.in_ok-shard.ensures.shard in
    subst (λ (x : Shard). IsKept js x) (sym same) t.kept

pub returns-then-is_empty-clause-quiet : goal.returns-then-is_empty-clause-quiet
returns-then-is_empty-clause-quiet c = λ _.
    let js : List Journal = c.args.journals.now in
    let s : Shard = c.args.self in
    let is : c.as_slice-messages.result.now ≡ all_news js s.readers = c.as_slice-messages.ensures ∙ c.in_ok-shard.ensures.messages ∙ ap (λ (ms : List Message). ms ++ all_news js s.readers) c.new-messages.ensures in
    step_quiet js s c.requires.kept c.if-self.false (sym is ∙ none_of c.as_slice-messages.result.now c.is_empty.result c.is_empty.ensures c.if-is_empty.true)

pub returns-then-not-has_room-clause-step : goal.returns-then-not-has_room-clause-step
returns-then-not-has_room-clause-step c =
    let js : List Journal = c.args.journals.now in
    let s : Shard = c.args.self in
    let is : c.as_slice-messages.result.now ≡ all_news js s.readers = c.as_slice-messages.ensures ∙ c.in_ok-shard.ensures.messages ∙ ap (λ (ms : List Message). ms ++ all_news js s.readers) c.new-messages.ensures in
    let t : IsStepped js s js (read_further js s) = stepped_full js s c.requires.kept c.if-self.false (ap (λ (ms : List Message). nat_lt (s.producer.last + length ms + 1) (2 ^ 64)) (sym is) ∙ ap (λ (x : Shard). nat_lt (x.producer.last + length c.as_slice-messages.result.now + 1) (2 ^ 64)) (sym c.in_ok-shard.ensures.shard) ∙ sym c.has_room.ensures ∙ c.if-not-has_room.true) in
    ap (λ (x : Shard). record { journals = js; shard = shard_of x }) c.in_ok-shard.ensures.shard ∙ t.is

pub returns-then-not-has_room-clause-kept : goal.returns-then-not-has_room-clause-kept
returns-then-not-has_room-clause-kept c =
    let js : List Journal = c.args.journals.now in
    let s : Shard = c.args.self in
    let is : c.as_slice-messages.result.now ≡ all_news js s.readers = c.as_slice-messages.ensures ∙ c.in_ok-shard.ensures.messages ∙ ap (λ (ms : List Message). ms ++ all_news js s.readers) c.new-messages.ensures in
    let t : IsStepped js s js (read_further js s) = stepped_full js s c.requires.kept c.if-self.false (ap (λ (ms : List Message). nat_lt (s.producer.last + length ms + 1) (2 ^ 64)) (sym is) ∙ ap (λ (x : Shard). nat_lt (x.producer.last + length c.as_slice-messages.result.now + 1) (2 ^ 64)) (sym c.in_ok-shard.ensures.shard) ∙ sym c.has_room.ensures ∙ c.if-not-has_room.true) in
    subst (λ (x : Shard). IsKept js x) (sym c.in_ok-shard.ensures.shard) t.kept

pub returns-then-not-has_room-clause-quiet : goal.returns-then-not-has_room-clause-quiet
returns-then-not-has_room-clause-quiet c = λ _.
    let js : List Journal = c.args.journals.now in
    let s : Shard = c.args.self in
    let is : c.as_slice-messages.result.now ≡ all_news js s.readers = c.as_slice-messages.ensures ∙ c.in_ok-shard.ensures.messages ∙ ap (λ (ms : List Message). ms ++ all_news js s.readers) c.new-messages.ensures in
    step_full js s c.requires.kept c.if-self.false (ap (λ (ms : List Message). nat_lt (s.producer.last + length ms + 1) (2 ^ 64)) (sym is) ∙ ap (λ (x : Shard). nat_lt (x.producer.last + length c.as_slice-messages.result.now + 1) (2 ^ 64)) (sym c.in_ok-shard.ensures.shard) ∙ sym c.has_room.ensures ∙ c.if-not-has_room.true)

pub commit-requires-clause-clocks : goal.commit-requires-clause-clocks
commit-requires-clause-clocks c = less_than (c.in_ok-shard.shard.producer.last + length c.as_slice-messages.result.now + 1) (2 ^ 64) (sym c.has_room.ensures ∙ c.if-not-has_room.false)

pub returns-clause-step : goal.returns-clause-step
returns-clause-step c =
    let js : List Journal = c.args.journals.now in
    let s : Shard = c.args.self in
    let read : Shard = c.in_ok-shard.shard in
    let ms : List Message = c.as_slice-messages.result.now in
    let is : ms ≡ all_news js s.readers = c.as_slice-messages.ensures ∙ c.in_ok-shard.ensures.messages ∙ ap (λ (xs : List Message). xs ++ all_news js s.readers) c.new-messages.ensures in
    let same : read ≡ read_further js s = c.in_ok-shard.ensures.shard in
    let t : IsStepped js s c.commit.new.journals c.in_ok-shard-3.shard =
    stepped_commit js c.commit.new.journals s c.in_ok-shard-3.shard ms is c.requires.kept c.if-self.false (some_of ms c.is_empty.result c.is_empty.ensures c.if-is_empty.false)
    (ap (λ (x : Shard). nat_lt (x.producer.last + length ms + 1) (2 ^ 64)) (sym same) ∙ sym c.has_room.ensures ∙ c.if-not-has_room.false)
    (c.in_ok-shard-3.ensures.journals ∙ ap (λ (x : Shard). journals_after (shard_of x) (emitted x.app x.store ms) js) same)
    (subst (λ (x : Shard). IsCommitted x ms c.in_ok-shard-3.shard) same c.in_ok-shard-3.ensures.shard) in
    t.is

pub returns-clause-kept : goal.returns-clause-kept
returns-clause-kept c =
    let js : List Journal = c.args.journals.now in
    let s : Shard = c.args.self in
    let read : Shard = c.in_ok-shard.shard in
    let ms : List Message = c.as_slice-messages.result.now in
    let is : ms ≡ all_news js s.readers = c.as_slice-messages.ensures ∙ c.in_ok-shard.ensures.messages ∙ ap (λ (xs : List Message). xs ++ all_news js s.readers) c.new-messages.ensures in
    let same : read ≡ read_further js s = c.in_ok-shard.ensures.shard in
    let t : IsStepped js s c.commit.new.journals c.in_ok-shard-3.shard =
    stepped_commit js c.commit.new.journals s c.in_ok-shard-3.shard ms is c.requires.kept c.if-self.false (some_of ms c.is_empty.result c.is_empty.ensures c.if-is_empty.false)
    (ap (λ (x : Shard). nat_lt (x.producer.last + length ms + 1) (2 ^ 64)) (sym same) ∙ sym c.has_room.ensures ∙ c.if-not-has_room.false)
    (c.in_ok-shard-3.ensures.journals ∙ ap (λ (x : Shard). journals_after (shard_of x) (emitted x.app x.store ms) js) same)
    (subst (λ (x : Shard). IsCommitted x ms c.in_ok-shard-3.shard) same c.in_ok-shard-3.ensures.shard) in
    t.kept
