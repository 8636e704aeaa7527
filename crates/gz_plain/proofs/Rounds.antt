-- What each step, each round and each settle keeps of all shards.
use Rattle.std.proofs.Common.{◌≡◌, ℕ, zero, suc, ◌+◌, ◌<◌, ◌≤◌, ◌^◌, List, [], ◌∷◌, length, refl, ap, sym, ◌∙◌, subst, Bool, true, false, cond, Option, Some, None, arith}
use Rattle.std.specs.Prelude.{⊤}
use Rattle.std.specs.Str.{bytes_eq}
use Rattle.gz_uuid.specs.Producer.{shard_octets}
use Rattle.gz_label.specs.declared.entry.Attempt.{Attempt}
use Rattle.gz_frame.specs.Messages.{Message}
use Rattle.gz_frame.specs.Release.{of_producer}
use Rattle.gz_app.specs.Applications.{Output}
use Rattle.gz_promise.specs.Applications.{emitted}
use Rattle.gz_plain.specs.Plain.{lines_from, ack_at}
use Rattle.gz_promise.specs.Journals.{Journal, appended, AreWhole}
use Rattle.gz_plain.specs.Shards.{attempt_of, Past, Shard, Beside, World, untaken, journals_after, committing, commit, commit_if, stepped, has_room, round, rounds, settled, text_of_lines}
use Rattle.gz_promise.specs.Promise.{Delivers}
use Rattle.gz_plain.specs.Promise.{account_of, IfKept, AllExactlyOnce}
use Rattle.gz_sequencer.proofs.Produced.{Each}
use Rattle.gz_plain.proofs.Growth.{grow_whole, grow_appended}
use Rattle.gz_plain.specs.Runs.{ArePresent, IsLine}
use Rattle.gz_plain.proofs.Lines.{lines_whole}
use Rattle.gz_plain.proofs.Starts.{unequal, shards_apart}
use Rattle.gz_plain.proofs.Writes.{AllForeign, IsClean, clean_foreign, foreign_written, all_foreign_none, all_foreign_two, present_written, foreign_appended, present_stays, grow_written}
use Rattle.gz_plain.proofs.Steps.{IsLawful, Kept, kept_commit, kept_foreign, writes_lines, exactly_once_of}

-- ---- a step

-- what is said of a shard that kept its definition, and what follows
pub if_kept : (past : Option Past) (A B : Type 0) → (A → B) → IfKept past A → IfKept past B
if_kept None A B f said = f said
if_kept (Some past) A B f said = tt

-- What a step of a shard makes: it is kept itself, and nothing of another producer is written.
pub record IsStep (js : List Journal) (s : Shard) (b : Beside) : Type 0 where
  pub kept : IfKept b.shard.past (Kept b.journals b.shard)
  pub foreign : (p : List ℕ) → bytes_eq s.producer p ≡ false → AllForeign p js b.journals
  pub present : (names : List (List ℕ)) → ArePresent names js → ArePresent names b.journals
  pub whole : AreWhole b.journals
  pub producer : b.shard.producer ≡ s.producer
  pub lawful : IsLawful b.journals b.shard

no_step : (js : List Journal) (s : Shard) → AreWhole js → IsLawful js s → IfKept s.past (Kept js s) → IsStep js s (record { journals = js; shard = s })
no_step js s whole lawful k = record {
  kept = k;
  foreign = λ p other. all_foreign_none p js;
  present = λ names a. a;
  whole = whole;
  producer = refl;
  lawful = lawful;
}

stays_lawful : (js new : List Journal) (s : Shard) → ((names : List (List ℕ)) → ArePresent names js → ArePresent names new) → IsLawful js s → IsLawful new s
stays_lawful js new s present l = record { lines = l.lines; distinct = l.distinct; present = present s.outputs l.present }

commit_lawful : (js new : List Journal) (ms : List Message) (s : Shard) → ((names : List (List ℕ)) → ArePresent names js → ArePresent names new) → IsLawful js s
    → IsLawful new (committing js ms s)
commit_lawful js new ms s present l = record { lines = l.lines; distinct = l.distinct; present = present s.outputs l.present }

commit_step : (js : List Journal) (ms : List Message) (s : Shard) → ms ≡ untaken js s → AreWhole js → IsLawful js s → has_room ms s ≡ true → IfKept s.past (Kept js s) → IsStep js s (commit js ms s)
commit_step js ms s is whole lawful room k =
    let os : List Output = emitted s.app s.store ms in
    let lines : List Message = lines_from s.producer s.clock os in
    let ack : Message = ack_at s.producer (s.clock + length os + 1) in
    let w = writes_lines js ms s is lawful room in
    let new : List Journal = journals_after s os js in
    let present : (names : List (List ℕ)) → ArePresent names js → ArePresent names new = λ names a. present_written (attempt_of s) (length s.outputs) 0 lines ack s.outputs js names a in
    record {
      kept = if_kept s.past (Kept js s) (Kept new (committing js ms s)) (λ x. kept_commit js ms s is whole lawful room x) k;
      foreign = λ p other. foreign_written (attempt_of s) p s.producer (length s.outputs) 0 s.clock os s.outputs js other w.1 w.0;
      present = present;
      whole = grow_whole js new (grow_written (attempt_of s) (length s.outputs) 0 lines ack s.outputs js w.1 w.0) whole;
      producer = refl;
      lawful = commit_lawful js new ms s present lawful;
    }

room_step : (js : List Journal) (ms : List Message) (s : Shard) (room : Bool) → has_room ms s ≡ room → ms ≡ untaken js s → AreWhole js → IsLawful js s → IfKept s.past (Kept js s)
    → IsStep js s (cond room (commit js ms s) (record { journals = js; shard = s }))
room_step js ms s true test is whole lawful k = commit_step js ms s is whole lawful test k
room_step js ms s false test is whole lawful k = no_step js s whole lawful k

step_if : (js : List Journal) (ms : List Message) (s : Shard) → ms ≡ untaken js s → AreWhole js → IsLawful js s → IfKept s.past (Kept js s) → IsStep js s (commit_if js ms s)
step_if js [] s is whole lawful k = no_step js s whole lawful k
step_if js (m ∷ ms) s is whole lawful k = room_step js (m ∷ ms) s (has_room (m ∷ ms) s) refl is whole lawful k

step_unless : (js : List Journal) (s : Shard) (disabled : Bool) → AreWhole js → IsLawful js s → IfKept s.past (Kept js s)
    → IsStep js s (cond disabled (record { journals = js; shard = s }) (commit_if js (untaken js s) s))
step_unless js s true whole lawful k = no_step js s whole lawful k
step_unless js s false whole lawful k = step_if js (untaken js s) s refl whole lawful k

pub step_of : (js : List Journal) (s : Shard) → AreWhole js → IsLawful js s → IfKept s.past (Kept js s) → IsStep js s (stepped js s)
step_of js s whole lawful k = step_unless js s s.is_disabled whole lawful k

-- ---- all shards

abbrev pub AllKept : List Journal → List Shard → Type 0
AllKept js [] = ⊤
AllKept js (s ∷ ss) = IfKept s.past (Kept js s) × AllKept js ss

abbrev pub AllLawful : List Journal → List Shard → Type 0
AllLawful js [] = ⊤
AllLawful js (s ∷ ss) = IsLawful js s × AllLawful js ss

-- the producer of a shard, whose number is below the next one
pub record IsNumbered (next : ℕ) (p : List ℕ) : Type 0 where
  pub number : ℕ
  pub is : p ≡ shard_octets number
  pub below : number < next

abbrev pub AreNumbered : ℕ → List Shard → Type 0
AreNumbered next [] = ⊤
AreNumbered next (s ∷ ss) = IsNumbered next s.producer × AreNumbered next ss

-- the producer is none of these shards', either way that it is compared
abbrev pub IsNone : List ℕ → List Shard → Type 0
IsNone p [] = ⊤
IsNone p (s ∷ ss) = (bytes_eq p s.producer ≡ false) × (bytes_eq s.producer p ≡ false) × IsNone p ss

-- each shard has a producer of its own
abbrev pub HaveOwn : List Shard → Type 0
HaveOwn [] = ⊤
HaveOwn (s ∷ ss) = IsNone s.producer ss × HaveOwn ss

kept_others : (p : List ℕ) (js new : List Journal) (ss : List Shard) → AreWhole js → IsNone p ss → ((q : List ℕ) → bytes_eq p q ≡ false → AllForeign q js new) → AllKept js ss → AllKept new ss
kept_others p js new [] whole none foreign k = tt
kept_others p js new (s ∷ ss) whole none foreign k =
    (if_kept s.past (Kept js s) (Kept new s) (λ x. kept_foreign js new s whole (foreign s.producer none.0) x) k.0, kept_others p js new ss whole none.2 foreign k.1)

pub lawful_others : (js new : List Journal) (ss : List Shard) → ((names : List (List ℕ)) → ArePresent names js → ArePresent names new) → AllLawful js ss → AllLawful new ss
lawful_others js new [] present l = tt
lawful_others js new (s ∷ ss) present l = (stays_lawful js new s present l.0, lawful_others js new ss present l.1)

-- ---- a round

pub record IsRound (js : List Journal) (ss : List Shard) (w : World) : Type 0 where
  pub kept : AllKept w.journals w.shards
  pub lawful : AllLawful w.journals w.shards
  pub whole : AreWhole w.journals
  pub foreign : (p : List ℕ) → IsNone p ss → AllForeign p js w.journals
  pub present : (names : List (List ℕ)) → ArePresent names js → ArePresent names w.journals
  pub none : (p : List ℕ) → IsNone p ss → IsNone p w.shards
  pub own : HaveOwn w.shards
  pub numbered : (next : ℕ) → AreNumbered next ss → AreNumbered next w.shards
  pub count : length w.shards ≡ length ss

pub round_of : (ss : List Shard) (js : List Journal) → AreWhole js → AllLawful js ss → HaveOwn ss → AllKept js ss → IsRound js ss (round ss js)
round_of [] js whole lawful own k = record {
  kept = tt;
  lawful = tt;
  whole = whole;
  foreign = λ p none. all_foreign_none p js;
  present = λ names a. a;
  none = λ p none. tt;
  own = tt;
  numbered = λ next n. tt;
  count = refl;
}
round_of (s ∷ ss) js whole lawful own k =
    let b : Beside = stepped js s in
    let step : IsStep js s b = step_of js s whole lawful.0 k.0 in
    let rest : IsRound b.journals ss (round ss b.journals) =
    round_of ss b.journals step.whole (lawful_others js b.journals ss step.present lawful.1) own.1
    (kept_others s.producer js b.journals ss whole own.0 step.foreign k.1) in
    let new : List Journal = (round ss b.journals).journals in
    let foreign : AllForeign s.producer b.journals new = rest.foreign s.producer own.0 in
    let none : IsNone s.producer (round ss b.journals).shards = rest.none s.producer own.0 in
    record {
      kept = (
        if_kept b.shard.past (Kept b.journals b.shard) (Kept new b.shard)
            (λ x. kept_foreign b.journals new b.shard step.whole (subst (λ (p : List ℕ). AllForeign p b.journals new) (sym step.producer) foreign) x) step.kept,
        rest.kept,
      );
      lawful = (stays_lawful b.journals new b.shard rest.present step.lawful, rest.lawful);
      whole = rest.whole;
      foreign = λ p n. all_foreign_two p js b.journals new (step.foreign p n.1) (rest.foreign p n.2);
      present = λ names a. rest.present names (step.present names a);
      none = λ p n. (ap (λ (q : List ℕ). bytes_eq p q) step.producer ∙ n.0, ap (λ (q : List ℕ). bytes_eq q p) step.producer ∙ n.1, rest.none p n.2);
      own = (subst (λ (p : List ℕ). IsNone p (round ss b.journals).shards) (sym step.producer) none, rest.own);
      numbered = λ next n. (record { number = n.0.number; is = step.producer ∙ n.0.is; below = n.0.below }, rest.numbered next n.1);
      count = ap (λ (n : ℕ). suc n) rest.count;
    }

-- ---- numbers

-- a number that none of these shards has
pub none_numbered : (n : ℕ) (ss : List Shard) → AreNumbered n ss → n < 2 ^ 40 → IsNone (shard_octets n) ss
none_numbered n [] numbered fits = tt
none_numbered n (s ∷ ss) numbered fits =
    let m : IsNumbered n s.producer = numbered.0 in (
      unequal (shard_octets n) s.producer (λ same. shards_apart n m.number fits (omega (arith, m.below)) (λ e. absurd (omega (arith, e, m.below))) (same ∙ m.is)),
      unequal s.producer (shard_octets n) (λ same. shards_apart m.number n (omega (arith, m.below)) fits (λ e. absurd (omega (arith, e, m.below))) (sym m.is ∙ same)),
      none_numbered n ss numbered.1 fits,
    )

pub numbered_wider : (n next : ℕ) (ss : List Shard) → n ≤ next → AreNumbered n ss → AreNumbered next ss
numbered_wider n next [] upto numbered = tt
numbered_wider n next (s ∷ ss) upto numbered =
    (record { number = numbered.0.number; is = numbered.0.is; below = omega (arith, upto, numbered.0.below) }, numbered_wider n next ss upto numbered.1)

-- ---- a world

-- What is kept of journals and shards. Each shard has a number, and no journal has a message of the numbers to come.
pub record IsSound (w : World) : Type 0 where
  pub whole : AreWhole w.journals
  pub lawful : AllLawful w.journals w.shards
  pub own : HaveOwn w.shards
  pub kept : AllKept w.journals w.shards
  pub numbered : AreNumbered (1 + length w.shards) w.shards
  pub clean : (n : ℕ) → 1 + length w.shards ≤ n → n < 2 ^ 40 → IsClean (shard_octets n) w.journals

pub sound_round : (w : World) → IsSound w → IsSound (round w.shards w.journals)
sound_round w s =
    let new : World = round w.shards w.journals in
    let r : IsRound w.journals w.shards new = round_of w.shards w.journals s.whole s.lawful s.own s.kept in
    let none : (n : ℕ) → 1 + length w.shards ≤ n → n < 2 ^ 40 → IsNone (shard_octets n) w.shards =
    λ n above fits. none_numbered n w.shards (numbered_wider (1 + length w.shards) n w.shards above s.numbered) fits in
    record {
      whole = r.whole;
      lawful = r.lawful;
      own = r.own;
      kept = r.kept;
      numbered = subst (λ (k : ℕ). AreNumbered (1 + k) new.shards) (sym r.count) (r.numbered (1 + length w.shards) s.numbered);
      clean = λ n above fits.
          let up : 1 + length w.shards ≤ n = subst (λ (k : ℕ). 1 + k ≤ n) r.count above in
          clean_foreign (shard_octets n) w.journals new.journals s.whole (r.foreign (shard_octets n) (none n up fits)) (s.clean n up fits);
    }

pub sound_rounds : (n : ℕ) (w : World) → IsSound w → IsSound (rounds n w)
sound_rounds zero w s = s
sound_rounds (suc n) w s = sound_rounds n (round w.shards w.journals) (sound_round w s)

pub sound_settled : (w : World) → IsSound w → IsSound (settled w)
sound_settled w s = sound_rounds (length w.shards) w s

-- ---- an append

-- none of the messages is of a shard
abbrev pub AreOthers : List Message → Type 0
AreOthers ms = (n : ℕ) → of_producer (shard_octets n) ms ≡ []

kept_appended : (attempt : Attempt) (name : List ℕ) (ms : List Message) (next : ℕ) (js : List Journal) (ss : List Shard) → AreWhole js → Each IsLine ms → AreOthers ms → AreNumbered next ss → AllKept js ss
    → AllKept (appended attempt name (text_of_lines ms) js) ss
kept_appended attempt name ms next js [] whole each others numbered k = tt
kept_appended attempt name ms next js (s ∷ ss) whole each others numbered k =
    let new : List Journal = appended attempt name (text_of_lines ms) js in
    let none : of_producer s.producer ms ≡ [] = ap (λ (p : List ℕ). of_producer p ms) numbered.0.is ∙ others numbered.0.number in (
      if_kept s.past (Kept js s) (Kept new s) (λ x. kept_foreign js new s whole (foreign_appended attempt s.producer name ms js each none) x) k.0,
      kept_appended attempt name ms next js ss whole each others numbered.1 k.1,
    )

pub sound_appended : (attempt : Attempt) (name : List ℕ) (ms : List Message) (w : World) → Each IsLine ms → AreOthers ms → IsSound w
    → IsSound (record w { journals = appended attempt name (text_of_lines ms) w.journals })
sound_appended attempt name ms w each others s =
    let new : List Journal = appended attempt name (text_of_lines ms) w.journals in
    record {
      whole = grow_whole w.journals new (grow_appended attempt name (text_of_lines ms) w.journals (lines_whole ms each)) s.whole;
      lawful = lawful_others w.journals new w.shards (λ names a. present_stays attempt name (text_of_lines ms) w.journals names a) s.lawful;
      own = s.own;
      kept = kept_appended attempt name ms (1 + length w.shards) w.journals w.shards s.whole each others s.numbered s.kept;
      numbered = s.numbered;
      clean = λ n above fits.
          clean_foreign (shard_octets n) w.journals new s.whole (foreign_appended attempt (shard_octets n) name ms w.journals each (others n)) (s.clean n above fits);
    }

-- ---- the promise

pub all_exactly_once : (js : List Journal) (ss : List Shard) → AllKept js ss → AllExactlyOnce js ss
all_exactly_once js [] k = tt
all_exactly_once js (s ∷ ss) k =
    (if_kept s.past (Kept js s) (Delivers (account_of js s)) (λ x. exactly_once_of js s x) k.0, all_exactly_once js ss k.1)
