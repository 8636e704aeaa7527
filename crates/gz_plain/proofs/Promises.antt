-- The promise, and that a settle ends, for everything that may happen.
use Rattle.std.proofs.Common.{◌≡◌, ℕ, List, [], ◌∷◌, ◌++◌, refl, true, Option, Some, None, inl, inr}
use Rattle.gz_frame.specs.Messages.{Message}
use Rattle.gz_frame.proofs.Whole.{no_messages}
use Rattle.gz_promise.specs.Order.{AreInOrder}
use Rattle.gz_plain.specs.Rests.{wirings_of, AllRest}
use Rattle.gz_promise.specs.Promise.{Delivers, ReadsAll}
use Rattle.gz_promise.proofs.Users.{serves}
use Rattle.gz_promise.specs.Journals.{Journal}
use Rattle.gz_promise.specs.Sources.{AllEndLines}
use Rattle.gz_plain.specs.Promise.{account_of, AllCommitLines, AllExactlyOnce, AllServe, IfKept, Serves}
use Rattle.gz_plain.specs.Reports.{AllTellCaught, AllUpToDate, IsUpToDate, TellsCaught, is_none}
use Rattle.gz_plain.specs.Shards.{Past, Shard, World, round, settled, untaken}
use Rattle.gz_plain.specs.Runs.{nothing, Event, lands, settles, changes, after_event, after_events, IsLine, AreClients, MayHappen, MayAllHappen}
use Rattle.gz_sequencer.proofs.Produced.{Each}
use Rattle.gz_plain.proofs.Changes.{sound_changed}
use Rattle.gz_plain.proofs.Rounds.{AllKept, if_kept, IsSound, sound_appended, sound_settled, all_exactly_once}
use Rattle.gz_plain.proofs.Settles.{AllQuiet, IsQuiet, settled_rests, settled_quiet, quiet_round}
use Rattle.gz_plain.proofs.Accounts.{none_untaken, reads_all}
use Rattle.gz_plain.proofs.Starts.{none_of}
use Rattle.gz_plain.proofs.Steps.{Kept}

-- ---- everything that may happen

each_line : (ms : List Message) → AreClients ms → Each IsLine ms
each_line [] clients = tt
each_line (m ∷ ms) clients = (clients.0, each_line ms clients.2)

pub sound_nothing : IsSound nothing
sound_nothing = record {
  whole = λ name. refl;
  lawful = tt;
  own = tt;
  kept = tt;
  numbered = tt;
  clean = λ n above fits name. rw (no_messages 0 [] refl) refl;
}

pub sound_event : (e : Event) (w : World) → MayHappen e w → IsSound w → IsSound (after_event e w)
sound_event (lands attempt name ms) w may s = sound_appended attempt name ms w (each_line ms may) (λ n. none_of n ms may) s
sound_event settles w may s = sound_settled w s
sound_event (changes names ds) w may s = sound_changed names ds w may s

pub sound_events : (es : List Event) (w : World) → MayAllHappen es w → IsSound w → IsSound (after_events es w)
sound_events [] w may s = s
sound_events (e ∷ es) w may s = sound_events es (after_event e w) may.1 (sound_event e w may.0 s)

-- ---- one more

pub after_more : (es : List Event) (e : Event) (w : World) → after_events (es ++ e ∷ []) w ≡ after_event e (after_events es w)
after_more [] e w = refl
after_more (x ∷ es) e w = after_more es e (after_event x w)

pub may_all_more : (es : List Event) (e : Event) (w : World) → MayAllHappen es w → MayHappen e (after_events es w) → MayAllHappen (es ++ e ∷ []) w
may_all_more [] e w all may = (may, tt)
may_all_more (x ∷ es) e w all may = (all.0, may_all_more es e (after_event x w) all.1 may)

-- ---- the laws

pub all_exactly_once_after : (es : List Event) → MayAllHappen es nothing → AllExactlyOnce (after_events es nothing).journals (after_events es nothing).shards
all_exactly_once_after es may =
    let w : World = after_events es nothing in
    all_exactly_once w.journals w.shards (sound_events es nothing may sound_nothing).kept

-- then users are served too
pub all_serve : (js : List Journal) (ss : List Shard) → AllExactlyOnce js ss → AllServe js ss
all_serve js [] once = tt
all_serve js (s ∷ ss) once =
    (if_kept s.past (Delivers (account_of js s)) (Serves js s) (λ d. record { delivers = d; users = serves (account_of js s) d.once }) once.0, all_serve js ss once.1)

pub all_serve_after : (es : List Event) → MayAllHappen es nothing → AllServe (after_events es nothing).journals (after_events es nothing).shards
all_serve_after es may = all_serve (after_events es nothing).journals (after_events es nothing).shards (all_exactly_once_after es may)

-- what is committed ends with whole lines
all_commit_lines : (js : List Journal) (ss : List Shard) → AllKept js ss → AllCommitLines js ss
all_commit_lines js [] k = tt
all_commit_lines js (s ∷ ss) k = (if_kept s.past (Kept js s) (AllEndLines js s.commits s.sources) (λ x. x.lines) k.0, all_commit_lines js ss k.1)

pub all_lines_after : (es : List Event) → MayAllHappen es nothing → AllCommitLines (after_events es nothing).journals (after_events es nothing).shards
all_lines_after es may =
    let w : World = after_events es nothing in
    all_commit_lines w.journals w.shards (sound_events es nothing may sound_nothing).kept

pub settled_stays : (rank : List ℕ → ℕ) (w : World) → AreInOrder rank (wirings_of w.shards) → round (settled w).shards (settled w).journals ≡ settled w
settled_stays rank w order = quiet_round (settled w).journals (settled w).shards (settled_quiet rank w order)

pub all_rest_after : (es : List Event) (rank : List ℕ → ℕ) → MayAllHappen es nothing → AreInOrder rank (wirings_of (after_events es nothing).shards)
    → AllRest (settled (after_events es nothing)).journals (settled (after_events es nothing)).shards
all_rest_after es rank may order = settled_rests rank (after_events es nothing) (sound_events es nothing may sound_nothing) order

-- ---- what is told

none_told : (ms : List Message) → ms ≡ [] → is_none ms ≡ true
none_told [] none = refl
none_told (m ∷ ms) none = cc

told_none : (ms : List Message) → is_none ms ≡ true → ms ≡ []
told_none [] told = refl
told_none (m ∷ ms) told = absurd (cc)

tells : (js : List Journal) (s : Shard) → Kept js s → TellsCaught js s
tells js s k = record {
  so = λ told. reads_all js s k.shape k.taken (told_none (untaken js s) told);
  told = λ read. none_told (untaken js s) (none_untaken js s k.shape k.taken read);
}

all_tell : (js : List Journal) (ss : List Shard) → AllKept js ss → AllTellCaught js ss
all_tell js [] k = tt
all_tell js (s ∷ ss) k = (if_kept s.past (Kept js s) (TellsCaught js s) (λ x. tells js s x) k.0, all_tell js ss k.1)

up_to_date : (js : List Journal) (s : Shard) → IsQuiet js s → IsUpToDate js s
up_to_date js s (inl disabled) = inr (inl disabled)
up_to_date js s (inr (inl none)) = inl (none_told (untaken js s) none)
up_to_date js s (inr (inr full)) = inr (inr full)

kept_or : (past : Option Past) (A : Type 0) → A → IfKept past A
kept_or None A a = a
kept_or (Some past) A a = tt

all_up_to_date : (js : List Journal) (ss : List Shard) → AllQuiet js ss → AllUpToDate js ss
all_up_to_date js [] quiet = tt
all_up_to_date js (s ∷ ss) quiet = (kept_or s.past (IsUpToDate js s) (up_to_date js s quiet.0), all_up_to_date js ss quiet.1)

pub all_tell_after : (es : List Event) → MayAllHappen es nothing → AllTellCaught (after_events es nothing).journals (after_events es nothing).shards
all_tell_after es may =
    let w : World = after_events es nothing in
    all_tell w.journals w.shards (sound_events es nothing may sound_nothing).kept

pub all_up_to_date_after : (rank : List ℕ → ℕ) (w : World) → AreInOrder rank (wirings_of w.shards) → AllUpToDate (settled w).journals (settled w).shards
all_up_to_date_after rank w order = all_up_to_date (settled w).journals (settled w).shards (settled_quiet rank w order)
