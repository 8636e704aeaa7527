-- What a step makes of a shard and of journals, as the program has them.
use Rattle.std.proofs.Common.{◌≡◌, ℕ, suc, ◌+◌, ◌==◌, ◌^◌, List, [], ◌∷◌, ◌++◌, length, map, refl, ap, sym, ◌∙◌, subst, Bool, true, false, cond, nat_lt, arith}
use Rattle.std.proofs.lemmas.Grind.{common_steps}
use Rattle.std.proofs.lemmas.List.{length-append}
use Rattle.gz_label.specs.declared.entry.Attempt.{Attempt}
use Rattle.gz_frame.specs.Messages.{Message}
use Rattle.gz_app.specs.Applications.{Output}
use Rattle.gz_promise.specs.Applications.{folded, emitted}
use Rattle.gz_promise.specs.Journals.{Journal, is_journal, place_of, appended}
use Rattle.gz_plain.specs.Places.{ArePlaced, names_of}
use Rattle.gz_plain.specs.Plain.{lines_from, ack_at}
use Rattle.gz_plain.specs.Readers.{AreRead, accepted_all, reading_all, all_news, end_of_reader}
use Rattle.gz_plain.specs.Running.{AllUpto, AreTaken, IsKept, IsLinked, AllKept, IsCommitted, journals_of, read_further, read_up}
use Rattle.gz_plain.specs.Seen.{shard_of, source_of, name_of}
use Rattle.gz_plain.specs.Shards as shards
use Rattle.gz_plain.specs.Shards.{Beside, last_offsets, untaken, read_order, has_room, commit_if, committing, journals_after, attempt_of, stepped}
use Rattle.gz_promise.specs.Sources.{Source, froms_of, ends_of, all_committed}
use Rattle.gz_plain.specs.declared.shard.Shard.{Shard}
use Rattle.gz_plain.specs.declared.writer.Writer.{Writer}
use Rattle.gz_plain.proofs.Longer.{Longer, longer_none, longer_two, longer_appended, longer_written}
use Rattle.gz_plain.proofs.Places.{journal_stays, names_stay, place_stays, present_stays, names_written, place_written}
use Rattle.gz_plain.proofs.Running.{sources_on, sources_reading, ends_on, read_on, read_reading, taken_reading, taken_own, taken_quiet, untaken_all, read_longer, taken_longer}
use Rattle.gz_plain.proofs.Steps.{order_commit, less_than}
use Rattle.gz_plain.proofs.Takes.{all_upto_later, all_upto_more, upto_ends, order_later, last_is_more}

-- ---- journals

-- every journal's text has become longer, and each journal is where it was
pub record Grows (js new : List Journal) : Type 0 where
  pub longer : Longer js new
  pub places : (name : List ℕ) → place_of name new ≡ place_of name js
  pub names : names_of new ≡ names_of js

pub grows_none : (js : List Journal) → Grows js js
grows_none js = record { longer = longer_none js; places = λ name. refl; names = refl }

pub grows_appended : (attempt : Attempt) (name bytes : List ℕ) (js : List Journal) → Grows js (appended attempt name bytes js)
grows_appended attempt name bytes js = record { longer = longer_appended attempt name bytes js; places = λ other. place_stays attempt name bytes other js; names = names_stay attempt name bytes js }

pub grows_after : (s : shards.Shard) (os : List Output) (js : List Journal) → Grows js (journals_after s os js)
grows_after s os js =
    let lines : List Message = lines_from s.producer s.clock os in
    let ack : Message = ack_at s.producer (s.clock + length os + 1) in
    record {
      longer = longer_written (attempt_of s) (length s.outputs) 0 lines ack s.outputs js;
      places = λ name. place_written (attempt_of s) (length s.outputs) 0 lines ack s.outputs js name;
      names = names_written (attempt_of s) (length s.outputs) 0 lines ack s.outputs js;
    }

grows_room : (b : Bool) (js : List Journal) (ms : List Message) (s : shards.Shard) → Grows js (cond b (shards.commit js ms s) (record { journals = js; shard = s })).journals
grows_room true js ms s = grows_after s (emitted s.app s.store ms) js
grows_room false js ms s = grows_none js

grows_if : (js : List Journal) (ms : List Message) (s : shards.Shard) → Grows js (commit_if js ms s).journals
grows_if js [] s = grows_none js
grows_if js (m ∷ ms) s = grows_room (has_room (m ∷ ms) s) js (m ∷ ms) s

grows_able : (b : Bool) (js : List Journal) (s : shards.Shard) → Grows js (cond b (record { journals = js; shard = s }) (commit_if js (untaken js s) s)).journals
grows_able true js s = grows_none js
grows_able false js s = grows_if js (untaken js s) s

pub grows_step : (js : List Journal) (s : shards.Shard) → Grows js (stepped js s).journals
grows_step js s = grows_able s.is_disabled js s

-- ---- what is kept

placed_grown : (js new : List Journal) (ws : List Writer) → Grows js new → ArePlaced js ws → ArePlaced new ws
placed_grown js new [] g placed = tt
placed_grown js new (w ∷ ws) g placed = (placed.0 ∙ sym (g.places w.journal), placed_grown js new ws g placed.1)

pub linked_grown : (js new : List Journal) (s : shards.Shard) → Grows js new → IsLinked js s → IsLinked new s
linked_grown js new s g linked =
    let same : (name : List ℕ) → is_journal name new ≡ is_journal name js = λ name. journal_stays name js new g.names in
    (present_stays (journals_of s.sources) js new same linked.0, present_stays s.outputs js new same linked.1)

pub kept_grown : (js new : List Journal) (s : Shard) → Grows js new → IsKept js s → IsKept new s
kept_grown js new s g k = record {
  readers = read_longer js new s.readers g.longer g.places k.readers;
  taken = taken_longer js new (last_offsets (shard_of s)) s.readers g.longer k.readers k.taken;
  upto = all_upto_later js new s.commits.items (shard_of s).sources g.longer k.upto;
  writers = placed_grown js new s.writers.items g k.writers;
  linked = linked_grown js new (shard_of s) g k.linked;
  count = k.count ∙ ap (λ (ms : List Message). length ms) (sym (order_later js new (froms_of (shard_of s).sources) s.commits.items (shard_of s).sources g.longer k.upto));
}

pub all_kept_grown : (js new : List Journal) (ss : List Shard) → Grows js new → AllKept js ss → AllKept new ss
all_kept_grown js new [] g k = tt
all_kept_grown js new (s ∷ ss) g k = (kept_grown js new s g k.0, all_kept_grown js new ss g k.1)

-- ---- a shard that has read on

pub seen_further : (js : List Journal) (s : Shard) → shard_of (read_further js s) ≡ shard_of s
seen_further js s = ap (λ (ss : List Source). record (shard_of s) { sources = ss }) (sources_reading js s.readers)

pub kept_further : (js : List Journal) (s : Shard) → IsKept js s → IsKept js (read_further js s)
kept_further js s k =
    let P : List Source → Type 0 = λ ss. AllUpto js s.commits.items ss in
    let Q : shards.Shard → Type 0 = λ x. AreTaken js (last_offsets x) (reading_all js s.readers) in
    let R : shards.Shard → Type 0 = λ x. s.messages ≡ length (read_order js x) in
    let L : shards.Shard → Type 0 = λ x. IsLinked js x in
    record {
      readers = read_reading js s.readers k.readers;
      taken = subst Q (sym (seen_further js s)) (taken_reading js (last_offsets (shard_of s)) s.readers k.taken);
      upto = subst P (sym (sources_reading js s.readers)) k.upto;
      writers = k.writers;
      linked = subst L (sym (seen_further js s)) k.linked;
      count = subst R (sym (seen_further js s)) k.count;
    }

pub untaken_is : (js : List Journal) (s : Shard) → IsKept js s → untaken js (shard_of s) ≡ all_news js s.readers
untaken_is js s k = untaken_all js (last_offsets (shard_of s)) s.readers k.readers k.taken

-- where nothing is new, what was read may count at once
seen_up : (js : List Journal) (s : Shard) → AreRead js s.readers → shard_of (read_up (read_further js s)) ≡ shard_of s
seen_up js s read = ap (λ (ss : List Source). record (shard_of s) { sources = ss }) (sources_on js s.readers read)

kept_up : (js : List Journal) (s : Shard) → IsKept js s → all_news js s.readers ≡ [] → IsKept js (read_up (read_further js s))
kept_up js s k none =
    let P : List Source → Type 0 = λ ss. AllUpto js s.commits.items ss in
    let Q : shards.Shard → Type 0 = λ x. AreTaken js (last_offsets x) (accepted_all (reading_all js s.readers)) in
    let R : shards.Shard → Type 0 = λ x. s.messages ≡ length (read_order js x) in
    let L : shards.Shard → Type 0 = λ x. IsLinked js x in
    record {
      readers = read_on js s.readers k.readers;
      taken = subst Q (sym (seen_up js s k.readers)) (taken_quiet js (last_offsets (shard_of s)) s.readers k.readers k.taken none);
      upto = subst P (sym (sources_on js s.readers k.readers)) k.upto;
      writers = k.writers;
      linked = subst L (sym (seen_up js s k.readers)) k.linked;
      count = subst R (sym (seen_up js s k.readers)) k.count;
    }

-- ---- the steps

-- what a step came to
pub record IsStepped (js : List Journal) (s : Shard) (new : List Journal) (after : Shard) : Type 0 where
  pub is : record { journals = new; shard = shard_of after } ≡ stepped js (shard_of s)
  pub kept : IsKept new after

able_step : (js : List Journal) (s : shards.Shard) → s.is_disabled ≡ false → stepped js s ≡ commit_if js (untaken js s) s
able_step js s able = ap (λ (b : Bool). cond b (record { journals = js; shard = s }) (commit_if js (untaken js s) s)) able

pub step_quiet : (js : List Journal) (s : Shard) → IsKept js s → s.is_disabled ≡ false → all_news js s.readers ≡ [] → stepped js (shard_of s) ≡ record { journals = js; shard = shard_of s }
step_quiet js s k able none = able_step js (shard_of s) able ∙ ap (λ (ms : List Message). commit_if js ms (shard_of s)) (untaken_is js s k ∙ none)

pub stepped_quiet : (js : List Journal) (s : Shard) → IsKept js s → s.is_disabled ≡ false → all_news js s.readers ≡ [] → IsStepped js s js (read_up (read_further js s))
stepped_quiet js s k able none = record {
  is = ap (λ (x : shards.Shard). record { journals = js; shard = x }) (seen_up js s k.readers) ∙ sym (step_quiet js s k able none);
  kept = kept_up js s k none;
}

-- messages that there is no room for aren't taken
commit_full : (js : List Journal) (ms : List Message) (s : shards.Shard) → has_room ms s ≡ false → commit_if js ms s ≡ record { journals = js; shard = s }
commit_full js [] s full = refl
commit_full js (m ∷ ms) s full = rw (full) refl

commit_some : (js : List Journal) (ms : List Message) (s : shards.Shard) → (ms ≡ [] → ⊥) → has_room ms s ≡ true → commit_if js ms s ≡ shards.commit js ms s
commit_some js [] s some room = absurd (some refl)
commit_some js (m ∷ ms) s some room = rw (room) refl

pub step_full : (js : List Journal) (s : Shard) → IsKept js s → s.is_disabled ≡ false → nat_lt (s.producer.last + length (all_news js s.readers) + 1) (2 ^ 64) ≡ false
    → stepped js (shard_of s) ≡ record { journals = js; shard = shard_of s }
step_full js s k able full =
    able_step js (shard_of s) able ∙ ap (λ (ms : List Message). commit_if js ms (shard_of s)) (untaken_is js s k)
    ∙ commit_full js (all_news js s.readers) (shard_of s) full

pub stepped_full : (js : List Journal) (s : Shard) → IsKept js s → s.is_disabled ≡ false → nat_lt (s.producer.last + length (all_news js s.readers) + 1) (2 ^ 64) ≡ false → IsStepped js s js (read_further js s)
stepped_full js s k able full = record {
  is = ap (λ (x : shards.Shard). record { journals = js; shard = x }) (seen_further js s) ∙ sym (step_full js s k able full);
  kept = kept_further js s k;
}

-- ---- a commit

seen_commit : (js : List Journal) (s new : Shard) (ms : List Message) → AreRead js s.readers → IsCommitted (read_further js s) ms new → shard_of new ≡ committing js ms (shard_of s)
seen_commit js s new ms read c =
    let sources : map source_of new.readers ≡ map source_of s.readers = ap (λ rs. map source_of rs) c.readers ∙ sources_on js s.readers read in
    let ends : new.commits.items ≡ s.commits.items ++ ends_of js (map source_of s.readers) ∷ [] =
    c.commits ∙ ap (λ (tos : List ℕ). s.commits.items ++ tos ∷ []) (ends_on js s.readers read) in
    rw (sources, ends, c.id, c.log, c.producer, c.writers, c.app, c.is_disabled, c.past, c.store) refl

pub step_commit : (js : List Journal) (s : Shard) → IsKept js s → s.is_disabled ≡ false → (all_news js s.readers ≡ [] → ⊥) → nat_lt (s.producer.last + length (all_news js s.readers) + 1) (2 ^ 64) ≡ true
    → stepped js (shard_of s) ≡ shards.commit js (all_news js s.readers) (shard_of s)
step_commit js s k able some room =
    able_step js (shard_of s) able ∙ ap (λ (ms : List Message). commit_if js ms (shard_of s)) (untaken_is js s k)
    ∙ commit_some js (all_news js s.readers) (shard_of s) some room

-- what is kept after a commit
kept_commit : (js : List Journal) (s new : Shard) (ms : List Message) → ms ≡ all_news js s.readers → IsKept js s → IsCommitted (read_further js s) ms new → IsKept js new
kept_commit js s new ms is k c =
    let sources : map source_of new.readers ≡ map source_of s.readers = ap (λ rs. map source_of rs) c.readers ∙ sources_on js s.readers k.readers in
    let ends : new.commits.items ≡ s.commits.items ++ ends_of js (map source_of s.readers) ∷ [] =
    c.commits ∙ ap (λ (tos : List ℕ). s.commits.items ++ tos ∷ []) (ends_on js s.readers k.readers) in
    let on = read_on js s.readers k.readers in
    let last : last_offsets (shard_of new) ≡ map end_of_reader (accepted_all (reading_all js s.readers)) =
    ap (λ (x : shards.Shard). last_offsets x) (seen_commit js s new ms k.readers c)
    ∙ last_is_more (froms_of (map source_of s.readers)) s.commits.items (ends_of js (map source_of s.readers))
    ∙ sym (ends_on js s.readers k.readers) in
    let order : read_order js (shard_of new) ≡ read_order js (shard_of s) ++ ms =
    ap (λ (x : shards.Shard). read_order js x) (seen_commit js s new ms k.readers c)
    ∙ order_commit js js ms (shard_of s) (is ∙ sym (untaken_is js s k)) (longer_none js) k.upto in
    record {
      readers = subst (λ rs. AreRead js rs) (sym c.readers) on;
      taken = rw (last, c.readers) (taken_own js (accepted_all (reading_all js s.readers)) on);
      upto = rw (sources, ends) (all_upto_more js s.commits.items (map source_of s.readers) (ends_of js (map source_of s.readers)) (upto_ends js (map source_of s.readers)) k.upto);
      writers = subst (λ ws. ArePlaced js ws) (sym c.writers) k.writers;
      linked = subst (λ (x : shards.Shard). IsLinked js x) (sym (seen_commit js s new ms k.readers c)) k.linked;
      count = c.messages ∙ ap (λ (n : ℕ). n + length ms) k.count ∙ sym (length-append (read_order js (shard_of s)) ms) ∙ ap (λ (xs : List Message). length xs) (sym order);
    }

pub stepped_commit : (js new : List Journal) (s after : Shard) (ms : List Message) → ms ≡ all_news js s.readers → IsKept js s → s.is_disabled ≡ false → (ms ≡ [] → ⊥)
    → nat_lt (s.producer.last + length ms + 1) (2 ^ 64) ≡ true → new ≡ journals_after (shard_of (read_further js s)) (emitted s.app s.store ms) js → IsCommitted (read_further js s) ms after
    → IsStepped js s new after
stepped_commit js new s after ms is k able some room written c =
    let sh : shards.Shard = shard_of s in
    let grown : new ≡ journals_after sh (emitted s.app s.store ms) js = written ∙ ap (λ (x : shards.Shard). journals_after x (emitted s.app s.store ms) js) (seen_further js s) in
    let step : stepped js sh ≡ shards.commit js ms sh =
    step_commit js s k able (λ none. some (is ∙ none)) (ap (λ (xs : List Message). nat_lt (s.producer.last + length xs + 1) (2 ^ 64)) (sym is) ∙ room)
    ∙ ap (λ (xs : List Message). shards.commit js xs sh) (sym is) in
    record {
      is = ap (λ (x : shards.Shard). record { journals = new; shard = x }) (seen_commit js s after ms k.readers c)
          ∙ ap (λ (x : List Journal). record { journals = x; shard = committing js ms sh }) grown ∙ sym step;
      kept = subst (λ (x : List Journal). IsKept x after) (sym grown)
          (kept_grown js (journals_after sh (emitted s.app s.store ms) js) after (grows_after sh (emitted s.app s.store ms) js) (kept_commit js s after ms is k c));
    }

-- ---- whether there are messages

pub none_of : (ms : List Message) (b : Bool) → b ≡ (length ms == 0) → b ≡ true → ms ≡ []
none_of [] b is held = refl
none_of (m ∷ ms) b is held = absurd (not_none (length ms) b is held)
  where
    not_none : (n : ℕ) (b : Bool) → b ≡ (suc n == 0) → b ≡ true → ⊥
    not_none n b is held = grind (arith, common_steps)

pub some_of : (ms : List Message) (b : Bool) → b ≡ (length ms == 0) → b ≡ false → ms ≡ [] → ⊥
some_of ms b is held none =
    let zero_long : (length ms == 0) ≡ true = ap (λ (xs : List Message). length xs == 0) none in
    clash b (sym is ∙ held) zero_long
  where
    clash : (b : Bool) → (length ms == 0) ≡ false → (length ms == 0) ≡ true → ⊥
    clash b a c = cc

pub kept_appended : (attempt : Attempt) (name bytes : List ℕ) (js new : List Journal) (ss : List Shard) → new ≡ appended attempt name bytes js → AllKept js ss → AllKept new ss
kept_appended attempt name bytes js new ss is k = subst (λ (x : List Journal). AllKept x ss) (sym is) (all_kept_grown js (appended attempt name bytes js) ss (grows_appended attempt name bytes js) k)
