-- A world stays as its specifications say, whatever event comes.
use Rattle.std.proofs.Common.{◌≡◌, ◌&&◌, ◌==◌, ℕ, suc, ◌≤◌, List, [], ◌∷◌, ◌++◌, length, map, filter, drop, refl, sym, ap, ◌∙◌, subst, cond, Bool, true, false, Result, Ok, Err, arith}
use Rattle.gz_links.specs.Joins.{replaced, is_new, joined, join_of}
use Rattle.gz_links.specs.Links.{are_linked}
use Rattle.gz_spec.specs.Specs.{name_of_journal}
use Rattle.gz_spec.specs.Valid.{are_specs}
use Rattle.gz_spec.specs.Records.{Specs}
use Rattle.gz_links.specs.declared.error.SpecError.{SpecError}
use Rattle.gz_links.proofs.Joining.{join_is_valid, join_is_linked}
use Rattle.gz_scenario.specs.Lawful.{is_start, is_apply}
use Rattle.gz_plain.specs.Definitions.{Definition, definition_of}
use Rattle.gz_label.specs.declared.entry.Attempt.{Attempt}
use Rattle.gz_promise.specs.Journals.{appended}
use Rattle.gz_plain.specs.Places.{names_of}
use Rattle.gz_plain.specs.Runs.{continues, nothing, changed}
use Rattle.gz_plain.specs.Shards as shards
use Rattle.gz_plain.proofs.Changes.{definitions_changed}
use Rattle.gz_plain.proofs.Stays.{names_appended, names_changed, names_settled, definitions_settled}
use Rattle.gz_world.specs.Starts.{IsSpecified, names_of_journals, new_journals, definitions_of, cluster_start, cluster_with}
use Rattle.gz_world.proofs.Changes.{start_whole}
use Rattle.gz_world.proofs.Good.{and_parts, are_good, few_definitions}
use Rattle.gz_world.proofs.Ids.{continues_joined}
use Rattle.gz_world.proofs.Joined.{joined_names, join_is_both}

-- ---- journals and shards that change to those of specifications

-- then they are as these say
pub change_specified : (specs : Specs) (names : List (List ℕ)) (w : shards.World) → are_specs specs ≡ true → names_of w.journals ++ names ≡ names_of_journals specs.journals
    → IsSpecified specs (changed names (definitions_of specs.shards) w)
change_specified specs names w valid named = record {
  valid = valid;
  names = names_changed names (definitions_of specs.shards) w ∙ named;
  said = definitions_changed names (definitions_of specs.shards) w;
}

pub cluster_specified : (specs : Specs) → are_specs specs ≡ true → IsSpecified specs (cluster_start specs)
cluster_specified specs valid = change_specified specs (names_of_journals specs.journals) nothing valid refl

-- ---- more specifications

-- the new journals' names come behind those of the journals that are there
pub names_joined : (specs more all : Specs) (w : shards.World) → IsSpecified specs w → join_of specs more ≡ Ok all
    → names_of w.journals ++ names_of_journals (new_journals specs more) ≡ names_of_journals all.journals
names_joined specs more all w t is =
    ap (λ (xs : List (List ℕ)). xs ++ names_of_journals (new_journals specs more)) t.names
    ∙ sym (ap (λ (s : Specs). names_of_journals s.journals) (join_is_both specs more all is) ∙ joined_names name_of_journal specs.journals more.journals)

-- no shard is lost
pub shards_continue : (specs more all : Specs) (w : shards.World) → IsSpecified specs w → join_of specs more ≡ Ok all → continues (definitions_of all.shards) w.shards ≡ true
shards_continue specs more all w t is =
    ap (λ (s : Specs). continues (definitions_of s.shards) w.shards) (join_is_both specs more all is) ∙ continues_joined specs.shards more.shards w.shards t.said

pub with_specified : (specs more all : Specs) (w : shards.World) → IsSpecified specs w → are_specs more ≡ true → join_of specs more ≡ Ok all → IsSpecified all (cluster_with specs more all w)
with_specified specs more all w t good is =
    change_specified all (names_of_journals (new_journals specs more)) w (join_is_valid specs more all t.valid good is) (names_joined specs more all w t is)

-- ---- how many there are

replaced_count : {A : Type 0} (f : A → A) (xs : List A) → length (map f xs) ≡ length xs
replaced_count f [] = refl
replaced_count f (x ∷ xs) = ap (λ (n : ℕ). suc n) (replaced_count f xs)

drop_prefix : {A : Type 0} (xs ys : List A) → drop (length xs) (xs ++ ys) ≡ ys
drop_prefix [] ys = refl
drop_prefix (x ∷ xs) ys = drop_prefix xs ys

rest_is_new : {A : Type 0} (name_of : A → List ℕ) (old more : List A) → drop (length old) (joined name_of old more) ≡ filter (is_new name_of old) more
rest_is_new name_of old more =
    ap (λ (n : ℕ). drop n (joined name_of old more)) (sym (replaced_count (replaced name_of more) old)) ∙ drop_prefix (map (replaced name_of more) old) (filter (is_new name_of old) more)

-- behind the journals that are there come the new ones
pub new_is_rest : (specs more all : Specs) → join_of specs more ≡ Ok all → drop (length specs.journals) all.journals ≡ new_journals specs more
new_is_rest specs more all is =
    ap (λ (s : Specs). drop (length specs.journals) s.journals) (join_is_both specs more all is) ∙ rest_is_new name_of_journal specs.journals more.journals

prefix_within : {A : Type 0} (xs ys : List A) → length xs ≤ length (xs ++ ys)
prefix_within [] ys = omega arith
prefix_within (x ∷ xs) ys = let rest = prefix_within xs ys in omega (arith, rest)

joined_within : {A : Type 0} (name_of : A → List ℕ) (old more : List A) → length old ≤ length (joined name_of old more)
joined_within name_of old more =
    let prefix : length (map (replaced name_of more) old) ≤ length (joined name_of old more) = prefix_within (map (replaced name_of more) old) (filter (is_new name_of old) more) in
    let count : length (map (replaced name_of more) old) ≡ length old = replaced_count (replaced name_of more) old in
    omega (arith, prefix, count)

there_within : (specs more all : Specs) → join_of specs more ≡ Ok all → length specs.journals ≤ length all.journals
there_within specs more all is =
    subst (λ (s : Specs). length specs.journals ≤ length s.journals) (sym (join_is_both specs more all is)) (joined_within name_of_journal specs.journals more.journals)

defined_count : (ss : List shards.Shard) → length (map definition_of ss) ≡ length ss
defined_count [] = refl
defined_count (s ∷ ss) = ap (λ (n : ℕ). suc n) (defined_count ss)

few_shards : (specs : Specs) (w : shards.World) → IsSpecified specs w → length w.shards ≤ 256
few_shards specs w t =
    let least = few_definitions specs.shards (are_good specs t.valid) in
    let count : length w.shards ≡ length (definitions_of specs.shards) = sym (defined_count w.shards) ∙ ap (λ (ds : List Definition). length ds) t.said in
    omega (arith, least, count)

-- what the change asks for
pub record JoinChanges (specs more all : Specs) (w : shards.World) : Type 0 where
  pub valid : are_specs all ≡ true
  pub linked : are_linked all.journals all.shards ≡ true
  pub there : length specs.journals ≤ length all.journals
  pub names : names_of w.journals ++ names_of_journals (drop (length specs.journals) all.journals) ≡ names_of_journals all.journals
  pub few : length w.shards ≤ 256

pub apply_valid : (more : Specs) → is_apply more ≡ true → are_specs more ≡ true
unfolding is_apply
apply_valid more good =
    let first = are_specs more && (length more.brokers == 0) in
    (and_parts (are_specs more) (length more.brokers == 0) (and_parts first (length more.consumers == 0) good).0).0

pub join_changes : (specs more all : Specs) (w : shards.World) → IsSpecified specs w → is_apply more ≡ true → join_of specs more ≡ Ok all → JoinChanges specs more all w
join_changes specs more all w t good is = record {
  valid = join_is_valid specs more all t.valid (apply_valid more good) is;
  linked = join_is_linked specs more all is;
  there = there_within specs more all is;
  names = rw (new_is_rest specs more all is) (names_joined specs more all w t is);
  few = few_shards specs w t;
}

-- ---- events

pub landed_specified : (attempt : Attempt) (specs : Specs) (w : shards.World) (b : Bool) (name content : List ℕ) → IsSpecified specs w
    → IsSpecified specs (record w { journals = cond b (appended attempt name content w.journals) w.journals })
landed_specified attempt specs w true name content t = record { valid = t.valid; names = names_appended attempt name content w.journals ∙ t.names; said = t.said }
landed_specified attempt specs w false name content t = record { valid = t.valid; names = t.names; said = t.said }

pub settled_specified : (specs : Specs) (w : shards.World) → IsSpecified specs w → IsSpecified specs (shards.settled w)
settled_specified specs w t = record { valid = t.valid; names = names_settled w ∙ t.names; said = definitions_settled w ∙ t.said }
