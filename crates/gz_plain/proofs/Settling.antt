-- What rounds of steps make of shards and journals, as the program has them.
use Rattle.std.proofs.Common.{◌≡◌, ℕ, zero, suc, ◌+◌, ◌-◌, ◌<◌, ◌≤◌, List, [], ◌∷◌, ◌++◌, length, refl, ap, sym, ◌∙◌, subst, append_assoc, append-nil, Bool, true, false, ◌&&◌, arith}
use Rattle.std.proofs.lemmas.List.{map-append}
use Rattle.gz_promise.specs.Journals.{Journal}
use Rattle.gz_plain.specs.Places.{names_of}
use Rattle.gz_plain.specs.Running.{IsKept, AllKept}
use Rattle.gz_promise.specs.Names.{Distinct}
use Rattle.gz_plain.specs.Seen.{shard_of, shards_of}
use Rattle.gz_plain.specs.Shards as shards
use Rattle.gz_plain.specs.Shards.{Beside, World, stepped, round, rounds, settled}
use Rattle.gz_plain.specs.declared.shard.Shard.{Shard}
use Rattle.gz_plain.proofs.Stepping.{Grows, grows_step, all_kept_grown}

-- ---- a round

-- shards before those of a world
abbrev pub behind : List shards.Shard → World → World
behind xs w = record { journals = w.journals; shards = xs ++ w.shards }

all_kept_two : (js : List Journal) (xs ys : List Shard) → AllKept js xs → AllKept js ys → AllKept js (xs ++ ys)
all_kept_two js [] ys a b = b
all_kept_two js (x ∷ xs) ys a b = (a.0, all_kept_two js xs ys a.1 b)

-- how far a round is: the shards behind it and those ahead
pub record IsRound (start : List Journal) (all : List Shard) (js : List Journal) (past next : List Shard) (is_quiet : Bool) : Type 0 where
  pub round : behind (shards_of past) (round (shards_of next) js) ≡ round (shards_of all) start
  pub done : AllKept js past
  pub ahead : AllKept js next
  pub names : names_of js ≡ names_of start
  pub quiet : is_quiet ≡ true → (js ≡ start) × (shards_of past ++ shards_of next ≡ shards_of all)

quiet_first : (a b : Bool) → (a && b) ≡ true → a ≡ true
quiet_first true b is = refl
quiet_first false b is = is

quiet_second : (a b : Bool) → (a && b) ≡ true → b ≡ true
quiet_second true b is = is
quiet_second false b is = cc

same_shard : (js new : List Journal) (s t : shards.Shard) → let b : Beside = record { journals = new; shard = t } in b ≡ record { journals = js; shard = s } → (new ≡ js) × (t ≡ s)
same_shard js new s t same = (ap (λ (b : Beside). b.journals) same, ap (λ (b : Beside). b.shard) same)

pub round_turn : (start : List Journal) (all : List Shard) (js new : List Journal) (done done2 ahead ahead2 : List Shard) (s after : Shard) (q step_quiet q2 : Bool)
    → ahead ≡ s ∷ ahead2 → done2 ≡ done ++ after ∷ [] → q2 ≡ (q && step_quiet)
    → record { journals = new; shard = shard_of after } ≡ stepped js (shard_of s) → IsKept new after
    → (step_quiet ≡ true → stepped js (shard_of s) ≡ record { journals = js; shard = shard_of s })
    → IsRound start all js done ahead q → IsRound start all new done2 ahead2 q2
round_turn start all js new done done2 ahead ahead2 s after q step_quiet q2 next pushed both is kept quiet inv =
    let sh : shards.Shard = shard_of s in
    let g : Grows js new = subst (λ (b : Beside). Grows js b.journals) (sym is) (grows_step js sh) in
    let seen : shards_of done2 ≡ shards_of done ++ shard_of after ∷ [] = ap (λ (ss : List Shard). shards_of ss) pushed ∙ map-append shard_of done (after ∷ []) in
    let kept_ahead : AllKept js (s ∷ ahead2) = subst (λ (ss : List Shard). AllKept js ss) next inv.ahead in
    record {
      round = ap (λ (xs : List shards.Shard). behind xs (round (shards_of ahead2) new)) seen
          ∙ ap (λ (xs : List shards.Shard). record { journals = (round (shards_of ahead2) new).journals; shards = xs }) (append_assoc (shards_of done) (shard_of after ∷ []) (round (shards_of ahead2) new).shards)
          ∙ ap (λ (b : Beside). behind (shards_of done) (record { journals = (round (shards_of ahead2) b.journals).journals; shards = b.shard ∷ (round (shards_of ahead2) b.journals).shards })) is
          ∙ ap (λ (ss : List Shard). behind (shards_of done) (round (shards_of ss) js)) (sym next)
          ∙ inv.round;
      done = subst (λ (ss : List Shard). AllKept new ss) (sym pushed) (all_kept_two new done (after ∷ []) (all_kept_grown js new done g inv.done) (kept, tt));
      ahead = all_kept_grown js new ahead2 g kept_ahead.1;
      names = g.names ∙ inv.names;
      quiet = λ yes_.
          let yes_both : (q && step_quiet) ≡ true = sym both ∙ yes_ in
          let before = inv.quiet (quiet_first q step_quiet yes_both) in
          let same = same_shard js new sh (shard_of after) (is ∙ quiet (quiet_second q step_quiet yes_both)) in (
            same.0 ∙ before.0,
            ap (λ (xs : List shards.Shard). xs ++ shards_of ahead2) (seen ∙ ap (λ (x : shards.Shard). shards_of done ++ x ∷ []) same.1)
                ∙ append_assoc (shards_of done) (sh ∷ []) (shards_of ahead2)
                ∙ ap (λ (ss : List Shard). shards_of done ++ shards_of ss) (sym next) ∙ before.1,
          );
    }

-- ---- rounds

-- after a quiet round, further ones change nothing
pub rounds_quiet : (n : ℕ) (w : World) → round w.shards w.journals ≡ w → rounds n w ≡ w
rounds_quiet zero w quiet = refl
rounds_quiet (suc n) w quiet = ap (λ (v : World). rounds n v) quiet ∙ rounds_quiet n w quiet

pub length_seen : (ss : List Shard) → length (shards_of ss) ≡ length ss
length_seen [] = refl
length_seen (s ∷ ss) = ap (λ (n : ℕ). suc n) (length_seen ss)

-- how far a settle is
pub record IsSettling (start : List Journal) (all : List Shard) (js : List Journal) (ss : List Shard) (i : ℕ) : Type 0 where
  pub rounds : rounds (length all - i) (record { journals = js; shards = shards_of ss }) ≡ settled (record { journals = start; shards = shards_of all })
  pub kept : AllKept js ss
  pub names : names_of js ≡ names_of start

pub settle_start : (js : List Journal) (all : List Shard) → AllKept js all → IsSettling js all js all 0
settle_start js all k =
    let count : length all - 0 ≡ length (shards_of all) = omega (arith, length_seen all) in
    record {
      rounds = ap (λ (n : ℕ). shards.rounds n (record { journals = js; shards = shards_of all })) count;
      kept = k;
      names = refl;
    }

pub settle_turn : (start : List Journal) (all : List Shard) (js new : List Journal) (ss after : List Shard) (i : ℕ) → i < length all
    → record { journals = new; shards = shards_of after } ≡ round (shards_of ss) js → AllKept new after → names_of new ≡ names_of js
    → IsSettling start all js ss i → IsSettling start all new after (i + 1)
settle_turn start all js new ss after i less is kept names inv =
    let w : World = record { journals = js; shards = shards_of ss } in
    let count : length all - i ≡ suc (length all - (i + 1)) = omega (arith, less) in
    record {
      rounds = ap (λ (v : World). shards.rounds (length all - (i + 1)) v) is ∙ ap (λ (n : ℕ). shards.rounds n w) (sym count) ∙ inv.rounds;
      kept = kept;
      names = names ∙ inv.names;
    }

-- after a quiet round it is done
pub settle_quiet : (start : List Journal) (all : List Shard) (js new : List Journal) (ss after : List Shard) (i : ℕ)
    → record { journals = new; shards = shards_of after } ≡ round (shards_of ss) js → round (shards_of ss) js ≡ record { journals = js; shards = shards_of ss }
    → IsSettling start all js ss i → record { journals = new; shards = shards_of after } ≡ settled (record { journals = start; shards = shards_of all })
settle_quiet start all js new ss after i is quiet inv =
    is ∙ quiet ∙ sym (rounds_quiet (length all - i) (record { journals = js; shards = shards_of ss }) quiet) ∙ inv.rounds
