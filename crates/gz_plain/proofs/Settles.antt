-- A settle ends: where the writers of a journal come before its readers, a further round changes nothing.
use Rattle.std.proofs.Common.{◌≡◌, ℕ, zero, suc, ◌+◌, ◌<◌, ◌≤◌, List, [], ◌∷◌, length, refl, ap, sym, ◌∙◌, subst, Bool, true, false, cond, arith, inl, inr}
use Rattle.std.specs.Prelude.{⊤, ◌⊎◌}
use Rattle.gz_frame.specs.Messages.{Message}
use Rattle.gz_app.specs.Applications.{Output}
use Rattle.gz_promise.specs.Applications.{emitted}
use Rattle.gz_plain.specs.Plain.{lines_from, ack_at}
use Rattle.gz_promise.specs.Journals.{Journal, text_of}
use Rattle.gz_promise.specs.Sources.{Source, froms_of, ends_of, all_committed, parts}
use Rattle.gz_plain.specs.Shards.{Shard, Beside, World, attempt_of, untaken, journals_after, commit, commit_if, stepped, has_room, round, rounds, settled}
use Rattle.gz_promise.specs.Order.{Wiring, IsBeside, IsBefore, AreBefore, AllBefore, AllBelow, AreInOrder}
use Rattle.gz_plain.specs.Rests.{wiring_of, wirings_of, Rests, AllRest}
use Rattle.gz_plain.proofs.Writes.{others_stay}
use Rattle.gz_plain.proofs.Takes.{parts_none, last_is_more}
use Rattle.gz_plain.proofs.Steps.{Kept}
use Rattle.gz_plain.proofs.Accounts.{reads_all}
use Rattle.gz_plain.proofs.Rounds.{if_kept, AllKept, IsSound, sound_settled}
use Rattle.gz_plain.proofs.Stays.{wired}

-- ---- sources whose texts stay

abbrev pub SourcesStay : List Journal → List Journal → List Source → Type 0
SourcesStay js new [] = ⊤
SourcesStay js new (s ∷ ss) = (text_of s.journal new ≡ text_of s.journal js) × SourcesStay js new ss

ends_stay : (js new : List Journal) (ss : List Source) → SourcesStay js new ss → ends_of new ss ≡ ends_of js ss
ends_stay js new [] stay = refl
ends_stay js new (s ∷ ss) stay = rw (stay.0, ends_stay js new ss stay.1) refl

committed_stay : (js new : List Journal) (ss : List Source) → SourcesStay js new ss → all_committed new ss ≡ all_committed js ss
committed_stay js new [] stay = refl
committed_stay js new (s ∷ ss) stay = rw (stay.0, committed_stay js new ss stay.1) refl

untaken_stays : (js new : List Journal) (s : Shard) → SourcesStay js new s.sources → untaken new s ≡ untaken js s
untaken_stays js new s stay = rw (ends_stay js new s.sources stay, committed_stay js new s.sources stay) refl

stay_none : (js : List Journal) (ss : List Source) → SourcesStay js js ss
stay_none js [] = tt
stay_none js (s ∷ ss) = (refl, stay_none js ss)

stay_two : (a b c : List Journal) (ss : List Source) → SourcesStay a b ss → SourcesStay b c ss → SourcesStay a c ss
stay_two a b c [] f g = tt
stay_two a b c (s ∷ ss) f g = (g.0 ∙ f.0, stay_two a b c ss f.1 g.1)

-- what a shard writes leaves the sources that are none of its outputs
stay_written : (js : List Journal) (t : Shard) (os : List Output) (ss : List Source) → IsBeside t.outputs ss → SourcesStay js (journals_after t os js) ss
stay_written js t os [] apart = tt
stay_written js t os (s ∷ ss) apart =
    (others_stay (attempt_of t) (length t.outputs) 0 (lines_from t.producer t.clock os) (ack_at t.producer (t.clock + length os + 1)) t.outputs js s.journal apart.0, stay_written js t os ss apart.1)

-- ---- a shard that takes nothing

-- it is disabled, has nothing to take, or no room for it
abbrev pub IsQuiet : List Journal → Shard → Type 0
IsQuiet js s = (s.is_disabled ≡ true) ⊎ ((untaken js s ≡ []) ⊎ (has_room (untaken js s) s ≡ false))

pub quiet_stays : (js new : List Journal) (s : Shard) → SourcesStay js new s.sources → IsQuiet js s → IsQuiet new s
quiet_stays js new s stay (inl disabled) = inl disabled
quiet_stays js new s stay (inr (inl none)) = inr (inl (untaken_stays js new s stay ∙ none))
quiet_stays js new s stay (inr (inr full)) = inr (inr (ap (λ (ms : List Message). has_room ms s) (untaken_stays js new s stay) ∙ full))

both : {A : Type 0} (b : Bool) (x : A) → cond b x x ≡ x
both true x = refl
both false x = refl

full_if : (js : List Journal) (ms : List Message) (s : Shard) → has_room ms s ≡ false → commit_if js ms s ≡ record { journals = js; shard = s }
full_if js [] s full = refl
full_if js (m ∷ ms) s full = rw full refl

-- a quiet shard's step changes nothing
pub quiet_step : (js : List Journal) (s : Shard) → IsQuiet js s → stepped js s ≡ record { journals = js; shard = s }
quiet_step js s (inl disabled) = rw disabled refl
quiet_step js s (inr (inl none)) = rw none (both s.is_disabled (record { journals = js; shard = s }))
quiet_step js s (inr (inr full)) = rw (full_if js (untaken js s) s full) (both s.is_disabled (record { journals = js; shard = s }))

-- ---- what a step leaves

stay_room : (js : List Journal) (ms : List Message) (s : Shard) (xs : List Source) (room : Bool) → IsBeside s.outputs xs
    → SourcesStay js (cond room (commit js ms s) (record { journals = js; shard = s })).journals xs
stay_room js ms s xs true apart = stay_written js s (emitted s.app s.store ms) xs apart
stay_room js ms s xs false apart = stay_none js xs

stay_if : (js : List Journal) (ms : List Message) (s : Shard) (xs : List Source) → IsBeside s.outputs xs → SourcesStay js (commit_if js ms s).journals xs
stay_if js [] s xs apart = stay_none js xs
stay_if js (m ∷ ms) s xs apart = stay_room js (m ∷ ms) s xs (has_room (m ∷ ms) s) apart

stay_unless : (js : List Journal) (s : Shard) (xs : List Source) (disabled : Bool) → IsBeside s.outputs xs
    → SourcesStay js (cond disabled (record { journals = js; shard = s }) (commit_if js (untaken js s) s)).journals xs
stay_unless js s xs true apart = stay_none js xs
stay_unless js s xs false apart = stay_if js (untaken js s) s xs apart

-- a step of a quiet shard, or of one that doesn't write them, leaves the sources
stay_step : (js : List Journal) (s : Shard) (xs : List Source) → IsQuiet js s ⊎ IsBeside s.outputs xs → SourcesStay js (stepped js s).journals xs
stay_step js s xs (inl quiet) = subst (λ (b : Beside). SourcesStay js b.journals xs) (sym (quiet_step js s quiet)) (stay_none js xs)
stay_step js s xs (inr apart) = stay_unless js s xs s.is_disabled apart

commit_quiet : (js : List Journal) (ms : List Message) (s : Shard) → IsBeside s.outputs s.sources → IsQuiet (commit js ms s).journals (commit js ms s).shard
commit_quiet js ms s apart =
    let new : List Journal = journals_after s (emitted s.app s.store ms) js in
    let ends : List ℕ = ends_of js s.sources in
    let stay : SourcesStay js new s.sources = stay_written js s (emitted s.app s.store ms) s.sources apart in
    inr (inl (
    ap (λ (tos : List ℕ). parts tos (ends_of new s.sources) (all_committed new s.sources)) (last_is_more (froms_of s.sources) s.commits ends)
    ∙ ap (λ (tos : List ℕ). parts ends tos (all_committed new s.sources)) (ends_stay js new s.sources stay)
    ∙ parts_none ends (all_committed new s.sources)
    ))

quiet_room : (js : List Journal) (ms : List Message) (s : Shard) (room : Bool) → has_room ms s ≡ room → ms ≡ untaken js s → IsBeside s.outputs s.sources
    → IsQuiet (cond room (commit js ms s) (record { journals = js; shard = s })).journals (cond room (commit js ms s) (record { journals = js; shard = s })).shard
quiet_room js ms s true test is apart = commit_quiet js ms s apart
quiet_room js ms s false test is apart = inr (inr (ap (λ (xs : List Message). has_room xs s) (sym is) ∙ test))

quiet_if : (js : List Journal) (ms : List Message) (s : Shard) → ms ≡ untaken js s → IsBeside s.outputs s.sources → IsQuiet (commit_if js ms s).journals (commit_if js ms s).shard
quiet_if js [] s is apart = inr (inl (sym is))
quiet_if js (m ∷ ms) s is apart = quiet_room js (m ∷ ms) s (has_room (m ∷ ms) s) refl is apart

quiet_unless : (js : List Journal) (s : Shard) (disabled : Bool) → s.is_disabled ≡ disabled → IsBeside s.outputs s.sources
    → IsQuiet (cond disabled (record { journals = js; shard = s }) (commit_if js (untaken js s) s)).journals
    (cond disabled (record { journals = js; shard = s }) (commit_if js (untaken js s) s)).shard
quiet_unless js s true test apart = inl test
quiet_unless js s false test apart = quiet_if js (untaken js s) s refl apart

-- after its step a shard is quiet
quiet_after : (js : List Journal) (s : Shard) → IsBeside s.outputs s.sources → IsQuiet (stepped js s).journals (stepped js s).shard
quiet_after js s apart = quiet_unless js s s.is_disabled refl apart

-- ---- a round

-- the shards up to a place in the order are quiet
abbrev pub Frozen : (List ℕ → ℕ) → ℕ → List Journal → List Shard → Type 0
Frozen rank r js [] = ⊤
Frozen rank r js (s ∷ ss) = (rank s.id < r → IsQuiet js s) × Frozen rank r js ss

tails_before : (rank : List ℕ → ℕ) (t : Wiring) (ts ss : List Wiring) → AllBefore rank (t ∷ ts) ss → AllBefore rank ts ss
tails_before rank t ts [] a = tt
tails_before rank t ts (s ∷ ss) a = (a.0.1, tails_before rank t ts ss a.1)

-- the first one against each of these
abbrev pub FirstBefore : (List ℕ → ℕ) → Wiring → List Wiring → Type 0
FirstBefore rank t [] = ⊤
FirstBefore rank t (s ∷ ss) = IsBefore rank t s × FirstBefore rank t ss

heads_before : (rank : List ℕ → ℕ) (t : Wiring) (ts ss : List Wiring) → AllBefore rank (t ∷ ts) ss → FirstBefore rank t ss
heads_before rank t ts [] a = tt
heads_before rank t ts (s ∷ ss) a = (a.0.0, heads_before rank t ts ss a.1)

itself : (rank : List ℕ → ℕ) (s : Wiring) → IsBefore rank s s → IsBeside s.outputs s.sources
itself rank s (inl apart) = apart
itself rank s (inr less) = absurd (omega arith)

-- a step of `s` leaves what `t` reads, where `t` is among the first places
leaves : (rank : List ℕ → ℕ) (r : ℕ) (js : List Journal) (s : Shard) (t : Wiring) → IsBefore rank (wiring_of s) t → rank t.id ≤ r → (rank s.id < r → IsQuiet js s)
    → IsQuiet js s ⊎ IsBeside s.outputs t.sources
leaves rank r js s t (inl apart) upto quiet = inr apart
leaves rank r js s t (inr less) upto quiet = inl (quiet (omega arith))

frozen_step : (rank : List ℕ → ℕ) (r : ℕ) (js : List Journal) (s : Shard) (ts : List Shard) → FirstBefore rank (wiring_of s) (wirings_of ts) → (rank s.id < r → IsQuiet js s)
    → Frozen rank r js ts → Frozen rank r (stepped js s).journals ts
frozen_step rank r js s [] before quiet f = tt
frozen_step rank r js s (t ∷ ts) before quiet f = (
  λ less. quiet_stays js (stepped js s).journals t (stay_step js s t.sources (leaves rank r js s (wiring_of t) before.0 (omega arith) quiet)) (f.0 less),
  frozen_step rank r js s ts before.1 quiet f.1,
)

-- A round in which the first places are quiet: one further place is, and what they read stays.
pub record IsFurther (rank : List ℕ → ℕ) (r : ℕ) (js : List Journal) (ss : List Shard) (w : World) : Type 0 where
  pub frozen : Frozen rank (r + 1) w.journals w.shards
  pub stay : (t : Wiring) → AreBefore rank (wirings_of ss) t → rank t.id ≤ r → SourcesStay js w.journals t.sources
  pub wirings : wirings_of w.shards ≡ wirings_of ss

pub further : (rank : List ℕ → ℕ) (r : ℕ) (ss : List Shard) (js : List Journal) → AllBefore rank (wirings_of ss) (wirings_of ss) → Frozen rank r js ss → IsFurther rank r js ss (round ss js)
further rank r [] js before f = record { frozen = tt; stay = λ t b upto. stay_none js t.sources; wirings = refl }
further rank r (s ∷ ss) js before f =
    let b : Beside = stepped js s in
    let t : Wiring = wiring_of s in
    let same : wiring_of b.shard ≡ t = wired js s in
    let rest : IsFurther rank r b.journals ss (round ss b.journals) =
    further rank r ss b.journals (tails_before rank t (wirings_of ss) (wirings_of ss) before.1)
    (frozen_step rank r js s ss (heads_before rank t (wirings_of ss) (wirings_of ss) before.1) f.0 f.1) in
    let new : List Journal = (round ss b.journals).journals in
    let quiet : IsQuiet b.journals b.shard = quiet_after js s (itself rank t before.0.0) in
    record {
      frozen = (
        λ less. quiet_stays b.journals new b.shard
            (subst (λ (u : Wiring). SourcesStay b.journals new u.sources) (sym same) (rest.stay t before.0.1 (subst (λ (u : Wiring). rank u.id ≤ r) same (omega arith)))) quiet,
        rest.frozen,
      );
      stay = λ u b4 upto. stay_two js b.journals new u.sources (stay_step js s u.sources (leaves rank r js s u b4.0 upto f.0)) (rest.stay u b4.1 upto);
      wirings = rw (same, rest.wirings) refl;
    }

-- ---- all rounds

pub frozen_rounds : (rank : List ℕ → ℕ) (n r : ℕ) (w : World) → AllBefore rank (wirings_of w.shards) (wirings_of w.shards) → Frozen rank r w.journals w.shards
    → Frozen rank (n + r) (rounds n w).journals (rounds n w).shards × (wirings_of (rounds n w).shards ≡ wirings_of w.shards)
frozen_rounds rank zero r w before f = (subst (λ (k : ℕ). Frozen rank k w.journals w.shards) (omega arith) f, refl)
frozen_rounds rank (suc n) r w before f =
    let next : World = round w.shards w.journals in
    let one : IsFurther rank r w.journals w.shards next = further rank r w.shards w.journals before f in
    let more = frozen_rounds rank n (r + 1) next (subst (λ (us : List Wiring). AllBefore rank us us) (sym one.wirings) before) one.frozen in (
      subst (λ (k : ℕ). Frozen rank k (rounds n next).journals (rounds n next).shards) (omega arith) more.0,
      more.1 ∙ one.wirings,
    )

none_frozen : (rank : List ℕ → ℕ) (js : List Journal) (ss : List Shard) → Frozen rank 0 js ss
none_frozen rank js [] = tt
none_frozen rank js (s ∷ ss) = (λ less. absurd (omega arith), none_frozen rank js ss)

abbrev pub AllQuiet : List Journal → List Shard → Type 0
AllQuiet js [] = ⊤
AllQuiet js (s ∷ ss) = IsQuiet js s × AllQuiet js ss

all_quiet : (rank : List ℕ → ℕ) (n : ℕ) (js : List Journal) (ss : List Shard) → AllBelow rank n (wirings_of ss) → Frozen rank n js ss → AllQuiet js ss
all_quiet rank n js [] below f = tt
all_quiet rank n js (s ∷ ss) below f = (f.0 below.0, all_quiet rank n js ss below.1 f.1)

count_wirings : (ss : List Shard) → length (wirings_of ss) ≡ length ss
count_wirings [] = refl
count_wirings (s ∷ ss) = ap (λ (n : ℕ). suc n) (count_wirings ss)

-- after a settle all shards are quiet
pub settled_quiet : (rank : List ℕ → ℕ) (w : World) → AreInOrder rank (wirings_of w.shards) → AllQuiet (settled w).journals (settled w).shards
settled_quiet rank w order =
    let n : ℕ = length w.shards in
    let f = frozen_rounds rank n 0 w order.before (none_frozen rank w.journals w.shards) in
    let below : AllBelow rank n (wirings_of (settled w).shards) =
    subst (λ (us : List Wiring). AllBelow rank n us) (sym f.1) (subst (λ (k : ℕ). AllBelow rank k (wirings_of w.shards)) (count_wirings w.shards) order.below) in
    all_quiet rank n (settled w).journals (settled w).shards below
    (subst (λ (k : ℕ). Frozen rank k (settled w).journals (settled w).shards) (omega arith) f.0)

-- a round of quiet shards changes nothing
pub quiet_round : (js : List Journal) (ss : List Shard) → AllQuiet js ss → round ss js ≡ record { journals = js; shards = ss }
quiet_round js [] quiet = refl
quiet_round js (s ∷ ss) quiet = rw (quiet_step js s quiet.0, quiet_round js ss quiet.1) refl

rests_of : (js : List Journal) (s : Shard) → Kept js s → IsQuiet js s → Rests js s
rests_of js s k (inl disabled) = inl disabled
rests_of js s k (inr (inl none)) = inr (inr (reads_all js s k.shape k.taken none))
rests_of js s k (inr (inr full)) = inr (inl full)

pub all_rest : (js : List Journal) (ss : List Shard) → AllKept js ss → AllQuiet js ss → AllRest js ss
all_rest js [] k quiet = tt
all_rest js (s ∷ ss) k quiet = (if_kept s.past (Kept js s) (Rests js s) (λ x. rests_of js s x quiet.0) k.0, all_rest js ss k.1 quiet.1)

-- after a settle every shard that kept its definition rests
pub settled_rests : (rank : List ℕ → ℕ) (w : World) → IsSound w → AreInOrder rank (wirings_of w.shards) → AllRest (settled w).journals (settled w).shards
settled_rests rank w sound order = all_rest (settled w).journals (settled w).shards (sound_settled w sound).kept (settled_quiet rank w order)
