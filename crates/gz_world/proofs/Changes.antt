-- Journals and shards may change to those of specifications.
use Rattle.std.proofs.Common.{◌≡◌, ℕ, ◌+◌, ◌<◌, ◌≤◌, ◌^◌, List, [], ◌∷◌, ◌++◌, length, take, drop, length-drop, ◌-◌, refl, sym, ap, ◌∙◌, subst, true, None, Result, Ok, Err, arith}
use Rattle.std.specs.Prelude.{is_ok}
use Rattle.std.proofs.lemmas.List.{take_all}
use Rattle.gz_links.specs.Cycles.{AreRanked, first_cycle}
use Rattle.gz_links.specs.Links.{are_linked}
use Rattle.gz_links.specs.Whole.{whole}
use Rattle.gz_spec.specs.Valid.{are_specs}
use Rattle.gz_spec.specs.Records.{Specs, JournalSpec}
use Rattle.gz_links.specs.declared.error.SpecError.{SpecError}
use Rattle.gz_links.proofs.Whole.{whole_good, whole_is_ranked}
use Rattle.gz_scenario.specs.Lawful.{is_start}
use Rattle.gz_plain.specs.Cluster.{AreLinked, definitions_of as definitions_seen}
use Rattle.gz_plain.specs.Definitions.{Definition}
use Rattle.gz_promise.specs.Journals.{Journal}
use Rattle.gz_plain.specs.Places.{names_of}
use Rattle.gz_plain.specs.Runs.{with_journals, continues, changes, MayHappen}
use Rattle.gz_promise.specs.Names.{Distinct}
use Rattle.gz_plain.specs.Shards as shards
use Rattle.gz_plain.specs.declared.cluster.Definition as declared
use Rattle.gz_plain.proofs.Places.{names_empty}
use Rattle.gz_world.specs.Starts.{names_of_journals, definitions_of}
use Rattle.gz_world.proofs.Begun.{seen_count}
use Rattle.gz_world.proofs.Defined.{are_defined, definitions_linked}
use Rattle.gz_world.proofs.Good.{and_parts, are_good, distinct_names, few_definitions}

-- ---- names

pub names_with : (names : List (List ℕ)) (js : List Journal) → names_of (with_journals names js) ≡ names_of js ++ names
names_with names [] = names_empty names
names_with names (j ∷ js) = ap (λ (xs : List (List ℕ)). j.name ∷ xs) (names_with names js)

rest_whole : (n : ℕ) (js : List JournalSpec) → take (length js - n) (drop n js) ≡ drop n js
rest_whole n js =
    let count : length (drop n js) ≡ length js - n = length-drop n js in
    take_all (length js - n) (drop n js) (omega (arith, count))

-- the names behind the first ones, where they were copied
pub rest_names : (specs : Specs) (there : ℕ) (names prefix : List (List ℕ)) (journals : List JournalSpec) → journals ≡ specs.journals
    → names ≡ names_of_journals (take (length journals - there) (drop there journals)) → prefix ++ names_of_journals (drop there specs.journals) ≡ names_of_journals specs.journals
    → prefix ++ names ≡ names_of_journals specs.journals
rest_names specs there names prefix journals same copied named =
    rw (copied, rest_whole there journals, same) named

-- ---- what a change asks for

-- what is asked of new journals and of the definitions of shards, besides small offsets
pub record MayChange (names : List (List ℕ)) (ds : List declared.Definition) (w : shards.World) : Type 0 where
  pub distinct : Distinct (names_of (with_journals names w.journals))
  pub few : length w.shards + length ds < 2 ^ 40
  pub linked : AreLinked (with_journals names w.journals) (definitions_seen ds)

few_together : (n m : ℕ) → n ≤ 256 → m ≤ 256 → n + m < 2 ^ 40
few_together n m a b = omega (arith, a, b)

pub may_change : (specs : Specs) (names : List (List ℕ)) (ds : List declared.Definition) (w : shards.World) → are_specs specs ≡ true → are_linked specs.journals specs.shards ≡ true
    → names_of w.journals ++ names ≡ names_of_journals specs.journals → definitions_seen ds ≡ definitions_of specs.shards → length w.shards ≤ 256 → MayChange names ds w
may_change specs names ds w valid linked named same few =
    let good = are_good specs valid in
    let js = with_journals names w.journals in
    let named_ : names_of js ≡ names_of_journals specs.journals = names_with names w.journals ∙ named in
    let count : length ds ≡ length (definitions_of specs.shards) = sym (seen_count ds) ∙ ap (λ (xs : List Definition). length xs) same in
    let least : length ds ≤ 256 = let n = few_definitions specs.shards good in omega (arith, n, count) in
    record {
      distinct = subst (λ (ns : List (List ℕ)). Distinct ns) (sym named_) (distinct_names specs valid);
      few = few_together (length w.shards) (length ds) few least;
      linked = subst (λ (xs : List Definition). AreLinked js xs) (sym same) (definitions_linked specs js good.each linked named_);
    }

-- ---- the change as a happening

few_enough : (n : ℕ) → n ≤ 256 → n < 1099511627775
few_enough n least = omega (arith, least)

pub may_happen : (specs : Specs) (names : List (List ℕ)) (w : shards.World) → are_specs specs ≡ true → are_linked specs.journals specs.shards ≡ true
    → names_of w.journals ++ names ≡ names_of_journals specs.journals → continues (definitions_of specs.shards) w.shards ≡ true → MayHappen (changes names (definitions_of specs.shards)) w
may_happen specs names w valid linked named continued =
    let good = are_good specs valid in (
      are_defined specs (with_journals names w.journals) good.each linked (names_with names w.journals ∙ named),
      continued,
      few_enough (length (definitions_of specs.shards)) (few_definitions specs.shards good),
    )

-- ---- specifications that begin

-- they have nothing to refuse, and their shards are linked, each before those that it feeds
pub record AreWhole (specs : Specs) : Type 0 where
  pub valid : are_specs specs ≡ true
  pub linked : are_linked specs.journals specs.shards ≡ true
  pub ranked : (rank : List ℕ → ℕ) × AreRanked rank specs.shards

whole_if : (specs : Specs) (r : Result Specs SpecError) → are_specs specs ≡ true → whole specs ≡ r → is_ok r ≡ true → AreWhole specs
whole_if specs (Ok out) valid is ok =
    let w = whole_good specs out is in
    let P : Specs → Type 0 = λ s. (are_linked s.journals s.shards ≡ true) × (first_cycle s.shards ≡ None) in
    let both : P specs = subst P (sym w.same) (w.linked, w.acyclic) in
    record { valid = valid; linked = both.0; ranked = whole_is_ranked specs valid both.1 }
whole_if specs (Err e) valid is ok = absurd (cc)

pub start_whole : (specs : Specs) → is_start specs ≡ true → AreWhole specs
unfolding is_start
start_whole specs good =
    let p = and_parts (are_specs specs) (is_ok (whole specs)) good in
    whole_if specs (whole specs) p.0 refl p.1
