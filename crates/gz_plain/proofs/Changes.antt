-- Journals and shards that are changed: journals come, and shards begin or have another definition from then on.
use Rattle.std.proofs.Common.{◌≡◌, ℕ, ◌+◌, ◌<◌, ◌≤◌, ◌^◌, ◌==◌, ◌&&◌, List, [], ◌∷◌, length, map, refl, ap, sym, ◌∙◌, subst, Bool, true, false, cond, arith, inl, inr}
use Rattle.std.proofs.lemmas.List.{length-map}
use Rattle.std.specs.Str.{bytes_eq}
use Rattle.std.proofs.lemmas.Slice.Eq.{bytes_eq-Decides}
use Rattle.std.proofs.lemmas.Grind.{common_steps}
use Rattle.gz_uuid.specs.Producer.{shard_octets}
use Rattle.gz_frame.specs.Release.{of_producer}
use Rattle.gz_frame.specs.Text.{messages_of, is_whole}
use Rattle.gz_app.specs.declared.app.AppKind.{AppKind}
use Rattle.gz_app.specs.declared.app.AppKind.TheVariants.{Count, Relay, Latest}
use Rattle.gz_sequencer.specs.Committed.{messages_alone}
use Rattle.gz_plain.specs.Definitions.{Definition, fresh, same_app, same_names, same_sources, keeps_definition, resumes_at, marks_of, with_definition, continued, redefined, definition_of, GoesOn, AllGoOn}
use Rattle.gz_promise.specs.Journals.{Journal, text_of}
use Rattle.gz_plain.specs.Promise.{IfKept}
use Rattle.gz_plain.specs.Runs.{with_journals, changed, ArePresent, AreDefined, continues, MayHappen, changes}
use Rattle.gz_promise.specs.Names.{Distinct}
use Rattle.gz_plain.specs.Shards.{Shard, World}
use Rattle.gz_promise.specs.Sources.{Source}
use Rattle.gz_plain.proofs.Added.{text_added, present_added}
use Rattle.gz_plain.proofs.Writes.{Foreign, foreign_none, AllForeign, IsClean}
use Rattle.gz_plain.proofs.Steps.{IsLawful, Kept, kept_foreign}
use Rattle.gz_plain.proofs.Starts.{unequal, shards_apart, has_lines, kept_new}
use Rattle.gz_plain.proofs.Rounds.{if_kept, AllKept, AllLawful, lawful_others, IsNumbered, AreNumbered, numbered_wider, none_numbered, IsNone, HaveOwn, IsSound}

-- ---- journals that come

-- so nothing of any producer is written
foreign_texts : (p : List ℕ) (names : List (List ℕ)) (js : List Journal) → AllForeign p js (with_journals names js)
foreign_texts p names js name = subst (λ (t : List ℕ). Foreign p (text_of name js) t) (sym (text_added name names js)) (foreign_none p (text_of name js))

kept_texts : (names : List (List ℕ)) (js : List Journal) (ss : List Shard) → ((name : List ℕ) → is_whole (text_of name js) ≡ true) → AllKept js ss → AllKept (with_journals names js) ss
kept_texts names js [] whole k = tt
kept_texts names js (s ∷ ss) whole k =
    let new : List Journal = with_journals names js in
    (if_kept s.past (Kept js s) (Kept new s) (λ x. kept_foreign js new s whole (foreign_texts s.producer names js) x) k.0, kept_texts names js ss whole k.1)

-- where journals come, all that is kept stays
sound_grown : (names : List (List ℕ)) (w : World) → IsSound w → IsSound (record { journals = with_journals names w.journals; shards = w.shards })
sound_grown names w s = record {
  whole = λ name. ap (λ (t : List ℕ). is_whole t) (text_added name names w.journals) ∙ s.whole name;
  lawful = lawful_others w.journals (with_journals names w.journals) w.shards (λ ns a. present_added ns names w.journals a) s.lawful;
  own = s.own;
  kept = kept_texts names w.journals w.shards s.whole s.kept;
  numbered = s.numbered;
  clean = λ n above fits name.
      ap (λ (t : List ℕ). of_producer (shard_octets n) (messages_alone (messages_of 0 t))) (text_added name names w.journals) ∙ s.clean n above fits name;
}

-- ---- one shard

continued_producer : (js : List Journal) (d : Definition) (s : Shard) (keeps : Bool) → (cond keeps (record s { is_disabled = d.is_disabled }) (with_definition js d s)).producer ≡ s.producer
continued_producer js d s true = refl
continued_producer js d s false = refl

same_producer : (js : List Journal) (d : Definition) (s : Shard) → (continued js d s).producer ≡ s.producer
same_producer js d s = continued_producer js d s (keeps_definition d s)

-- that a shard is disabled says nothing of what it has come to
kept_disabled : (js : List Journal) (disabled : Bool) (s : Shard) → Kept js s → Kept js (record s { is_disabled = disabled })
kept_disabled js disabled s k = record {
  batches = k.batches;
  taken = k.taken;
  upto = k.upto;
  lines = k.lines;
  shape = k.shape;
  store = k.store;
  puts = k.puts;
  outputs = k.outputs;
  clock = k.clock;
}

continued_kept : (js : List Journal) (d : Definition) (s : Shard) (keeps : Bool) → IfKept s.past (Kept js s)
    → IfKept (cond keeps (record s { is_disabled = d.is_disabled }) (with_definition js d s)).past (Kept js (cond keeps (record s { is_disabled = d.is_disabled }) (with_definition js d s)))
continued_kept js d s true k = if_kept s.past (Kept js s) (Kept js (record s { is_disabled = d.is_disabled })) (λ x. kept_disabled js d.is_disabled s x) k
continued_kept js d s false k = tt

continued_lawful : (js : List Journal) (d : Definition) (s : Shard) (keeps : Bool) → IsLawful js s → Distinct d.outputs → ArePresent d.outputs js
    → IsLawful js (cond keeps (record s { is_disabled = d.is_disabled }) (with_definition js d s))
continued_lawful js d s true l distinct present = record { lines = l.lines; distinct = l.distinct; present = l.present }
continued_lawful js d s false l distinct present = record { lines = l.lines; distinct = distinct; present = present }

-- ---- all shards

-- Shards that are to be of these definitions, with the next number, and the one that will be next then.
record IsReady (js : List Journal) (end next : ℕ) (ds : List Definition) (ss : List Shard) : Type 0 where
  pub kept : AllKept js ss
  pub lawful : AllLawful js ss
  pub own : HaveOwn ss
  pub numbered : AreNumbered next ss
  pub defined : AreDefined js ds
  pub all : continues ds ss ≡ true
  pub clean : (n : ℕ) → next ≤ n → n < 2 ^ 40 → IsClean (shard_octets n) js
  pub fits : next + length ds ≤ length ss + end
  pub room : end ≤ 2 ^ 40

-- the shards that these have become
record IsDone (js : List Journal) (end next : ℕ) (ss new : List Shard) : Type 0 where
  pub kept : AllKept js new
  pub lawful : AllLawful js new
  pub own : HaveOwn new
  pub numbered : AreNumbered end new
  pub none : (m : ℕ) → m < next → m < 2 ^ 40 → IsNone (shard_octets m) ss → IsNone (shard_octets m) new

long_if : (n m : ℕ) (a b here : Bool) → cond here a b ≡ true → (a ≡ true → n ≤ m) → (b ≡ true → n + 1 ≤ m) → n + 1 ≤ m + 1
long_if n m a b true is f g = omega (arith, f is)
long_if n m a b false is f g = omega (arith, g is)

pub continues_long : (ds : List Definition) (ss : List Shard) → continues ds ss ≡ true → length ss ≤ length ds
continues_long [] [] is = omega arith
continues_long [] (s ∷ ss) is = absurd (cc)
continues_long (d ∷ ds) [] is = omega arith
continues_long (d ∷ ds) (s ∷ ss) is =
    let long : length ss + 1 ≤ length ds + 1 =
    long_if (length ss) (length ds) (continues ds ss) (continues ds (s ∷ ss)) (bytes_eq s.id d.id) is (λ e. continues_long ds ss e)
    (λ e. omega (arith, continues_long ds (s ∷ ss) e)) in
    omega (arith, long)

none_lost : (ds : List Definition) → continues ds [] ≡ true
none_lost [] = refl
none_lost (d ∷ ds) = refl

-- one that begins, before the others
begin_one : (js : List Journal) (end next : ℕ) (d : Definition) (ds : List Definition) (ss new : List Shard) → IsReady js end next (d ∷ ds) ss → next < end
    → IsDone js end (next + 1) ss new → IsDone js end next ss (fresh next d ∷ new)
begin_one js end next d ds ss new r fits done = record {
  kept = (kept_new js next d (r.clean next (omega arith) (omega (arith, fits, r.room))), done.kept);
  lawful = (record { lines = has_lines next; distinct = r.defined.0; present = r.defined.1 }, done.lawful);
  own = (done.none next (omega arith) (omega (arith, fits, r.room)) (none_numbered next ss r.numbered (omega (arith, fits, r.room))), done.own);
  numbered = (record { number = next; is = refl; below = fits }, done.numbered);
  none = λ m below m_fits n. (
    unequal (shard_octets m) (shard_octets next) (λ same. shards_apart m next m_fits (omega (arith, fits, r.room)) (λ e. absurd (omega (arith, below, e))) same),
    unequal (shard_octets next) (shard_octets m) (λ same. shards_apart next m (omega (arith, fits, r.room)) m_fits (λ e. absurd (omega (arith, below, e))) same),
    done.none m (omega (arith, below)) m_fits n,
  );
}

-- one that goes on, before the others
continue_one : (js : List Journal) (end next : ℕ) (d : Definition) (ds : List Definition) (s : Shard) (ss new : List Shard) → IsReady js end next (d ∷ ds) (s ∷ ss) → next ≤ end
    → IsDone js end next ss new → IsDone js end next (s ∷ ss) (continued js d s ∷ new)
continue_one js end next d ds s ss new r fits done =
    let m : IsNumbered next s.producer = r.numbered.0 in
    let same : (continued js d s).producer ≡ s.producer = same_producer js d s in
    let mine : IsNone (shard_octets m.number) new =
    done.none m.number m.below (omega (arith, m.below, fits, r.room)) (subst (λ (p : List ℕ). IsNone p ss) m.is r.own.0) in
    record {
      kept = (continued_kept js d s (keeps_definition d s) r.kept.0, done.kept);
      lawful = (continued_lawful js d s (keeps_definition d s) r.lawful.0 r.defined.0 r.defined.1, done.lawful);
      own = (subst (λ (p : List ℕ). IsNone p new) (sym (same ∙ m.is)) mine, done.own);
      numbered = (record { number = m.number; is = same ∙ m.is; below = omega (arith, m.below, fits) }, done.numbered);
      none = λ n below n_fits none. (
        ap (λ (q : List ℕ). bytes_eq (shard_octets n) q) same ∙ none.0,
        ap (λ (q : List ℕ). bytes_eq q (shard_octets n)) same ∙ none.1,
        done.none n below n_fits none.2,
      );
    }

-- the others, where the first one begins
ready_fresh : (js : List Journal) (end next : ℕ) (d : Definition) (ds : List Definition) (ss : List Shard) → IsReady js end next (d ∷ ds) ss → continues ds ss ≡ true → IsReady js end (next + 1) ds ss
ready_fresh js end next d ds ss r all = record {
  kept = r.kept;
  lawful = r.lawful;
  own = r.own;
  numbered = numbered_wider next (next + 1) ss (omega arith) r.numbered;
  defined = r.defined.2;
  all = all;
  clean = λ n above fits. r.clean n (omega (arith, above)) fits;
  fits = omega (arith, r.fits);
  room = r.room;
}

-- and where it goes on
ready_more : (js : List Journal) (end next : ℕ) (d : Definition) (ds : List Definition) (s : Shard) (ss : List Shard) → IsReady js end next (d ∷ ds) (s ∷ ss) → continues ds ss ≡ true
    → IsReady js end next ds ss
ready_more js end next d ds s ss r all = record {
  kept = r.kept.1;
  lawful = r.lawful.1;
  own = r.own.1;
  numbered = r.numbered.1;
  defined = r.defined.2;
  all = all;
  clean = r.clean;
  fits = omega (arith, r.fits);
  room = r.room;
}

turn_if : (js : List Journal) (end next : ℕ) (d : Definition) (ds : List Definition) (s : Shard) (ss more rest : List Shard) (here : Bool)
    → IsReady js end next (d ∷ ds) (s ∷ ss) → cond here (continues ds ss) (continues ds (s ∷ ss)) ≡ true
    → (IsReady js end next ds ss → IsDone js end next ss more) → (IsReady js end (next + 1) ds (s ∷ ss) → IsDone js end (next + 1) (s ∷ ss) rest)
    → IsDone js end next (s ∷ ss) (cond here (continued js d s ∷ more) (fresh next d ∷ rest))
turn_if js end next d ds s ss more rest true r all f g =
    continue_one js end next d ds s ss more r (omega (arith, r.fits, continues_long ds ss all)) (f (ready_more js end next d ds s ss r all))
turn_if js end next d ds s ss more rest false r all f g =
    begin_one js end next d ds (s ∷ ss) rest r (omega (arith, r.fits, continues_long ds (s ∷ ss) all)) (g (ready_fresh js end next d ds (s ∷ ss) r all))

turn : (js : List Journal) (end next : ℕ) (ds : List Definition) (ss : List Shard) → IsReady js end next ds ss → IsDone js end next ss (redefined js next ds ss)
turn js end next [] [] r = record { kept = tt; lawful = tt; own = tt; numbered = tt; none = λ m below fits n. tt }
turn js end next [] (s ∷ ss) r = let lost : false ≡ true = r.all in absurd (cc)
turn js end next (d ∷ ds) [] r =
    begin_one js end next d ds [] (redefined js (next + 1) ds []) r (omega (arith, r.fits))
    (turn js end (next + 1) ds [] (ready_fresh js end next d ds [] r (none_lost ds)))
turn js end next (d ∷ ds) (s ∷ ss) r =
    turn_if js end next d ds s ss (redefined js next ds ss) (redefined js (next + 1) ds (s ∷ ss)) (bytes_eq s.id d.id) r r.all
    (λ x. turn js end next ds ss x) (λ x. turn js end (next + 1) ds (s ∷ ss) x)

-- ---- what the shards are said to be

same_byte_lists : (a b : List ℕ) → bytes_eq a b ≡ true → b ≡ a
same_byte_lists a b is = sym ((bytes_eq-Decides a b).0 is)

first_holds : (a b : Bool) → (a && b) ≡ true → a ≡ true
first_holds true b is = refl
first_holds false b is = is

second_holds : (a b : Bool) → (a && b) ≡ true → b ≡ true
second_holds true b is = is
second_holds false b is = cc

same_apps : (a b : AppKind) → same_app a b ≡ true → b ≡ a
same_apps Count Count is = refl
same_apps Count Relay is = absurd (cc)
same_apps Count Latest is = absurd (cc)
same_apps Relay Count is = absurd (cc)
same_apps Relay Relay is = refl
same_apps Relay Latest is = absurd (cc)
same_apps Latest Count is = absurd (cc)
same_apps Latest Relay is = absurd (cc)
same_apps Latest Latest is = refl

same_lists : (xs bs : List (List ℕ)) → same_names xs bs ≡ true → bs ≡ xs
same_lists [] [] is = refl
same_lists [] (b ∷ bs) is = absurd (cc)
same_lists (a ∷ xs) [] is = absurd (cc)
same_lists (a ∷ xs) (b ∷ bs) is =
    rw (same_byte_lists a b (first_holds (bytes_eq a b) (same_names xs bs) is), same_lists xs bs (second_holds (bytes_eq a b) (same_names xs bs) is)) refl

same_number : (a b : ℕ) → (a == b) ≡ true → b ≡ a
same_number a b is = grind (arith, common_steps)

same_source : (a b : Source) → b.journal ≡ a.journal → b.from ≡ a.from → b ≡ a
same_source a b journal from = ap (λ (j : List ℕ). let s : Source = record { journal = j; from = b.from } in s) journal ∙ ap (λ (n : ℕ). let s : Source = record { journal = a.journal; from = n } in s) from

same_reads : (xs bs : List Source) → same_sources xs bs ≡ true → bs ≡ xs
same_reads [] [] is = refl
same_reads [] (b ∷ bs) is = absurd (cc)
same_reads (a ∷ xs) [] is = absurd (cc)
same_reads (a ∷ xs) (b ∷ bs) is =
    let journal : Bool = bytes_eq a.journal b.journal in
    let from : Bool = a.from == b.from in
    let two : (journal && from) ≡ true = first_holds (journal && from) (same_sources xs bs) is in
    let one : b ≡ a = same_source a b (same_byte_lists a.journal b.journal (first_holds journal from two)) (same_number a.from b.from (second_holds journal from two)) in
    ap (λ (s : Source). s ∷ bs) one ∙ ap (λ (ss : List Source). a ∷ ss) (same_reads xs bs (second_holds (journal && from) (same_sources xs bs) is))

-- a shard of the same id that keeps its definition is of this one
pub same_definition : (d : Definition) (s : Shard) → keeps_definition d s ≡ true → bytes_eq s.id d.id ≡ true → definition_of (record s { is_disabled = d.is_disabled }) ≡ d
same_definition d s keeps id =
    let sources : Bool = same_sources d.sources s.sources in
    let outputs : Bool = same_names d.outputs s.outputs in
    let app : Bool = same_app d.app s.app in
    let log : Bool = bytes_eq d.log s.log in
    let three : (sources && outputs && app) ≡ true = first_holds (sources && outputs && app) log keeps in
    let two : (sources && outputs) ≡ true = first_holds (sources && outputs) app three in
    rw (
      (bytes_eq-Decides s.id d.id).0 id,
      same_byte_lists d.log s.log (second_holds (sources && outputs && app) log keeps),
      same_reads d.sources s.sources (first_holds sources outputs two),
      same_lists d.outputs s.outputs (second_holds sources outputs two),
      same_apps d.app s.app (second_holds (sources && outputs) app three),
    ) refl

definition_continued : (js : List Journal) (d : Definition) (s : Shard) (keeps : Bool) → keeps_definition d s ≡ keeps → bytes_eq s.id d.id ≡ true
    → definition_of (cond keeps (record s { is_disabled = d.is_disabled }) (with_definition js d s)) ≡ d
definition_continued js d s true keeps id = same_definition d s keeps id
definition_continued js d s false keeps id =
    ap (λ (i : List ℕ). let e : Definition = record d { id = i } in e) ((bytes_eq-Decides s.id d.id).0 id)

redefined_if : (js : List Journal) (next : ℕ) (d : Definition) (ds : List Definition) (s : Shard) (more rest : List Shard) (here : Bool) → bytes_eq s.id d.id ≡ here
    → map definition_of more ≡ ds → map definition_of rest ≡ ds → map definition_of (cond here (continued js d s ∷ more) (fresh next d ∷ rest)) ≡ d ∷ ds
redefined_if js next d ds s more rest true id f g =
    ap (λ (e : Definition). e ∷ map definition_of more) (definition_continued js d s (keeps_definition d s) refl id) ∙ ap (λ (es : List Definition). d ∷ es) f
redefined_if js next d ds s more rest false id f g = ap (λ (es : List Definition). d ∷ es) g

-- the shards are what was said of them
pub definitions_redefined : (js : List Journal) (next : ℕ) (ds : List Definition) (ss : List Shard) → map definition_of (redefined js next ds ss) ≡ ds
definitions_redefined js next [] ss = refl
definitions_redefined js next (d ∷ ds) [] = ap (λ (es : List Definition). d ∷ es) (definitions_redefined js (next + 1) ds [])
definitions_redefined js next (d ∷ ds) (s ∷ ss) =
    redefined_if js next d ds s (redefined js next ds ss) (redefined js (next + 1) ds (s ∷ ss)) (bytes_eq s.id d.id) refl
    (definitions_redefined js next ds ss) (definitions_redefined js (next + 1) ds (s ∷ ss))

pub definitions_changed : (names : List (List ℕ)) (ds : List Definition) (w : World) → map definition_of (changed names ds w).shards ≡ ds
definitions_changed names ds w = definitions_redefined (with_journals names w.journals) (1 + length w.shards) ds w.shards

-- as many as there are definitions
pub redefined_count : (js : List Journal) (next : ℕ) (ds : List Definition) (ss : List Shard) → length (redefined js next ds ss) ≡ length ds
redefined_count js next ds ss = sym (length-map (redefined js next ds ss) definition_of) ∙ ap (λ (es : List Definition). length es) (definitions_redefined js next ds ss)

-- ---- a world that is changed

-- what is kept stays where journals and shards are changed
pub sound_changed : (names : List (List ℕ)) (ds : List Definition) (w : World) → MayHappen (changes names ds) w → IsSound w → IsSound (changed names ds w)
sound_changed names ds w may s =
    let js : List Journal = with_journals names w.journals in
    let grown : IsSound (record { journals = js; shards = w.shards }) = sound_grown names w s in
    let new : List Shard = redefined js (1 + length w.shards) ds w.shards in
    let done : IsDone js (1 + length ds) (1 + length w.shards) w.shards new = turn js (1 + length ds) (1 + length w.shards) ds w.shards (record {
      kept = grown.kept;
      lawful = grown.lawful;
      own = grown.own;
      numbered = grown.numbered;
      defined = may.0;
      all = may.1;
      clean = grown.clean;
      fits = omega arith;
      room = omega (arith, may.2);
    }) in
    let count : length new ≡ length ds = redefined_count js (1 + length w.shards) ds w.shards in
    record {
      whole = grown.whole;
      lawful = done.lawful;
      own = done.own;
      kept = done.kept;
      numbered = subst (λ (n : ℕ). AreNumbered (1 + n) new) (sym count) done.numbered;
      clean = λ n above fits. grown.clean n (omega (arith, above, count, continues_long ds w.shards may.1)) fits;
    }

-- ---- no shard is lost

goes_if : (js : List Journal) (d : Definition) (s : Shard) (keeps : Bool) → GoesOn s (cond keeps (record s { is_disabled = d.is_disabled }) (with_definition js d s))
goes_if js d s true = record { id = refl; producer = refl; clock = refl; store = refl; commits = refl }
goes_if js d s false = record { id = refl; producer = refl; clock = refl; store = refl; commits = length-map s.commits (λ offsets. map (resumes_at js (marks_of s)) d.sources) }

go_if : (js : List Journal) (next : ℕ) (d : Definition) (ds : List Definition) (s : Shard) (ss more rest : List Shard) (here : Bool)
    → cond here (continues ds ss) (continues ds (s ∷ ss)) ≡ true → (continues ds ss ≡ true → AllGoOn ss more) → (continues ds (s ∷ ss) ≡ true → AllGoOn (s ∷ ss) rest)
    → AllGoOn (s ∷ ss) (cond here (continued js d s ∷ more) (fresh next d ∷ rest))
go_if js next d ds s ss more rest true all f g = inl (goes_if js d s (keeps_definition d s), f all)
go_if js next d ds s ss more rest false all f g = inr (g all)

all_go_on : (js : List Journal) (next : ℕ) (ds : List Definition) (ss : List Shard) → continues ds ss ≡ true → AllGoOn ss (redefined js next ds ss)
all_go_on js next [] [] all = tt
all_go_on js next [] (s ∷ ss) all = absurd (cc)
all_go_on js next (d ∷ ds) [] all = tt
all_go_on js next (d ∷ ds) (s ∷ ss) all =
    go_if js next d ds s ss (redefined js next ds ss) (redefined js (next + 1) ds (s ∷ ss)) (bytes_eq s.id d.id) all
    (λ e. all_go_on js next ds ss e) (λ e. all_go_on js (next + 1) ds (s ∷ ss) e)

pub all_go_on_changed : (names : List (List ℕ)) (ds : List Definition) (w : World) → continues ds w.shards ≡ true → AllGoOn w.shards (changed names ds w).shards
all_go_on_changed names ds w all = all_go_on (with_journals names w.journals) (1 + length w.shards) ds w.shards all
