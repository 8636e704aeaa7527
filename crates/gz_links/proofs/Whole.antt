-- Specifications that were read: their shards are linked, and ranked.
use Rattle.std.proofs.Common.{◌≡◌, ℕ, zero, suc, ◌+◌, ◌<◌, ap, ◌∙◌, get_or, arith, List, [], ◌∷◌, length, nat_le, refl, subst, Bool, true, false, cond, Result, Ok, Err, Option, Some, None}
use Rattle.std.specs.Prelude.{codes}
use Rattle.std.specs.List.{list_all, IsAmong}
use Rattle.std.proofs.lemmas.Bool.{and_parts}
use Rattle.gz_links.specs.declared.error.SpecError.{SpecError}
use Rattle.gz_links.specs.declared.error.SpecError.TheVariants.{NoJournal}
use Rattle.gz_spec.specs.Limits.{max_shards}
use Rattle.gz_spec.specs.Records.{JournalSpec, SourceSpec, ShardSpec, Specs}
use Rattle.gz_fields.specs.Paths.{below, at_place}
use Rattle.gz_links.specs.Links.{framing_at, is_readable, is_lines, is_log, sources_linked, log_name, log_linked, outputs_of, shard_linked, all_linked, is_linked, are_linked}
use Rattle.gz_links.specs.Cycles.{first_cycle, AreRanked}
use Rattle.gz_spec.specs.Specs.{id_of_shard, part_of}
use Rattle.gz_links.specs.Whole.{cycle_if, acyclic, whole, specs_of}
use Rattle.gz_spec.specs.Valid.{are_fresh, is_shard, are_journals, are_shards, are_specs}
use Rattle.gz_fields.proofs.Readable.{step, same_ok, chosen}
use Rattle.gz_spec.proofs.Sound.{both, part_is_valid}
use Rattle.gz_links.specs.Outcomes.{of_fields}
use Rattle.gz_links.proofs.Fields.{fields_went}
use Rattle.gz_links.proofs.Reaching.{none_reaches}
use Rattle.gz_links.proofs.Ranks.{rank, ranked}

-- ---- the journals that shards name

one_passed : (t : Bool) (r : Result (Unit {0}) SpecError) (e : SpecError) (u : Unit {0}) → cond t r (Err e) ≡ Ok u
    → (t ≡ true) × (r ≡ Ok u)
one_passed true r e u is = (refl, is)
one_passed false r e u is = absurd (cc)

sources_good : (journals : List JournalSpec) (path : List ℕ) (k : ℕ) (ss : List SourceSpec) (u : Unit {0})
    → sources_linked journals path k ss ≡ Ok u
    → list_all (λ s. is_readable (framing_at journals s.journal)) ss ≡ true
sources_good journals path k [] u is = refl
sources_good journals path k (s ∷ ss) u is =
    let c = one_passed (is_readable (framing_at journals s.journal)) (sources_linked journals path (k + 1) ss)
    (NoJournal (at_place path k)) u is in
    both (is_readable (framing_at journals s.journal)) (list_all (λ t. is_readable (framing_at journals t.journal)) ss) c.0
    (sources_good journals path (k + 1) ss u c.1)

shard_good : (journals : List JournalSpec) (path : List ℕ) (s : ShardSpec) (u : Unit {0})
    → shard_linked journals path s ≡ Ok u → is_linked journals s ≡ true
unfolding shard_linked
shard_good journals path s u is =
    let a = step (sources_linked journals (below path (codes "sources")) 0 s.sources) _ u is in
    let b = step (log_linked journals path s) _ u a.2 in
    both (list_all (λ t. is_readable (framing_at journals t.journal)) s.sources) _
    (sources_good journals (below path (codes "sources")) 0 s.sources a.0 a.1)
    (both (is_log (framing_at journals (log_name s))) (list_all (λ o. is_lines (framing_at journals o)) (outputs_of s))
    (chosen (is_log (framing_at journals (log_name s))) tt b.0 (NoJournal (below path (codes "recovery_log_prefix"))) b.1).0
    (chosen (list_all (λ o. is_lines (framing_at journals o)) (outputs_of s)) tt u
    (NoJournal (below path (codes "labels"))) b.2).0)

all_good : (journals : List JournalSpec) (i : ℕ) (ss : List ShardSpec) (u : Unit {0})
    → all_linked journals i ss ≡ Ok u → are_linked journals ss ≡ true
all_good journals i [] u is = refl
all_good journals i (s ∷ ss) u is =
    let a = step (shard_linked journals (at_place (codes "shards") i) s) (λ _. all_linked journals (i + 1) ss) u is in
    both (is_linked journals s) (are_linked journals ss) (shard_good journals (at_place (codes "shards") i) s a.0 a.1)
    (all_good journals (i + 1) ss u a.2)

-- ---- shards none of which reaches itself

no_first : (o : Option ℕ) (u : Unit {0}) → cycle_if o ≡ Ok u → o ≡ None
no_first None u is = refl
no_first (Some i) u is = absurd (cc)

acyclic_good : (shards : List ShardSpec) (u : Unit {0}) → acyclic shards ≡ Ok u → first_cycle shards ≡ None
unfolding acyclic
acyclic_good shards u is = no_first (first_cycle shards) u is

-- ---- specifications as a whole

-- what is whole is what was judged
pub record IsWhole (specs out : Specs) : Type 0 where
  pub same : specs ≡ out
  pub linked : are_linked out.journals out.shards ≡ true
  pub acyclic : first_cycle out.shards ≡ None

pub whole_good : (specs out : Specs) → whole specs ≡ Ok out → IsWhole specs out
unfolding whole
whole_good specs out is =
    let a = step (all_linked specs.journals 0 specs.shards) _ out is in
    let b = step (acyclic specs.shards) _ out a.2 in
    let P : Specs → Type 0 = λ s. IsWhole specs s in
    subst P (same_ok specs out b.2) (record {
      same = refl;
      linked = all_good specs.journals 0 specs.shards a.0 a.1;
      acyclic = acyclic_good specs.shards b.0 b.1;
    })

ids_fresh : (shards : List ShardSpec) → are_shards shards ≡ true → are_fresh id_of_shard [] shards ≡ true
ids_fresh shards good = (and_parts (list_all is_shard shards) (are_fresh id_of_shard [] shards)
    (and_parts (nat_le (length shards) max_shards) _ good).1).1

shards_of : (specs : Specs) → are_specs specs ≡ true → are_shards specs.shards ≡ true
shards_of specs good = (and_parts (are_shards specs.shards) _ (and_parts (are_journals specs.journals) _ good).1).0

pub whole_is_ranked : (specs : Specs) → are_specs specs ≡ true → first_cycle specs.shards ≡ None
    → (number : List ℕ → ℕ) × AreRanked number specs.shards
whole_is_ranked specs good none =
    (rank specs.shards, ranked specs.shards (ids_fresh specs.shards (shards_of specs good)) (none_reaches specs.shards none))

-- ---- specifications that were read

-- where a text says these, each by itself, reading judges them as a whole
pub part_judged : (bytes : List ℕ) (specs : Specs) → part_of bytes ≡ Ok specs → specs_of bytes ≡ whole specs
unfolding specs_of
part_judged bytes specs is = rw is refl

-- ---- one shard, and what it names

holds_at : {A : Type 0} (test : A → Bool) (xs : List A) (i : ℕ) (x : A) → list_all test xs ≡ true → i < length xs
    → x ≡ get_or xs i x → test x ≡ true
holds_at test [] i x all below is = absurd (omega arith)
holds_at test (y ∷ ys) zero x all below is = ap test is ∙ (and_parts (test y) (list_all test ys) all).0
holds_at test (y ∷ ys) (suc i) x all below is = holds_at test ys i x (and_parts (test y) (list_all test ys) all).1
    (omega arith) is

-- what holds of all holds of one among them
pub all_among : {A : Type 0} (test : A → Bool) (xs : List A) (x : A) → list_all test xs ≡ true → IsAmong xs x
    → test x ≡ true
all_among test xs x all a = holds_at test xs a.0 x all a.1.0 a.1.1
