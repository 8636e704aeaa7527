-- The sources and outputs of a shard that may be read: each is a journal, and no output is named twice.
use Rattle.std.proofs.Common.{◌≡◌, ◌&&◌, ℕ, List, [], ◌∷◌, map, refl, sym, subst, ◌∙◌, cond, is_lt, Bool, true, false, Option, Some, None, Ordering, Equal}
use Rattle.std.specs.Prelude.{⊤, codes}
use Rattle.std.specs.List.{list_all}
use Rattle.std.specs.Str.{bytes_eq}
use Rattle.std.proofs.lemmas.Cmp.{tied_itself}
use Rattle.std.proofs.lemmas.Slice.Eq.{bytes_eq-Decides}
use Rattle.gz_label.specs.declared.label.Label.{Label}
use Rattle.gz_label.specs.Labels.{label_cmp, comes_before, are_ascending, is_label_set, labels_named}
use Rattle.gz_label.proofs.Sets.{label_total, less, ascending_of_set, is_label_set-filter}
use Rattle.gz_links.specs.Links.{framing_at, is_lines, is_readable, outputs_of}
use Rattle.gz_spec.specs.Framings.{framing_in}
use Rattle.gz_fields.specs.Names.{is_id, is_journal_name}
use Rattle.gz_spec.specs.Reserved.{is_hint_prefix}
use Rattle.gz_spec.specs.Specs.{name_of_journal}
use Rattle.gz_fields.specs.Form.{is_between}
use Rattle.gz_spec.specs.Valid.{are_sources, are_shard_labels, is_shard}
use Rattle.gz_spec.specs.declared.framing.Framing.{Framing}
use Rattle.gz_spec.specs.Records.{JournalSpec, SourceSpec, ShardSpec}
use Rattle.gz_promise.specs.Journals.{is_journal}
use Rattle.gz_promise.specs.Names.{Apart}
use Rattle.gz_plain.specs.Running.{journals_of}
use Rattle.gz_plain.specs.Runs.{ArePresent, all_empty}
use Rattle.gz_promise.specs.Names.{Distinct}
use Rattle.gz_plain.proofs.Starts.{unequal}
use Rattle.gz_world.specs.Starts.{source_of}

-- ---- labels of one name

-- each of these has the name
abbrev AllNamed : List ℕ → List Label → Type 0
AllNamed name [] = ⊤
AllNamed name (m ∷ ms) = (m.name ≡ name) × AllNamed name ms

named_if : (name : List ℕ) (m : Label) (ms : List Label) (b : Bool) → bytes_eq m.name name ≡ b → AllNamed name ms → AllNamed name (cond b (m ∷ ms) ms)
named_if name m ms true is all = ((bytes_eq-Decides m.name name).0 is, all)
named_if name m ms false is all = all

all_named : (name : List ℕ) (ms : List Label) → AllNamed name (labels_named name ms)
all_named name [] = tt
all_named name (m ∷ ms) = named_if name m (labels_named name ms) (bytes_eq m.name name) refl (all_named name ms)

and_parts : (a b : Bool) → (a && b) ≡ true → (a ≡ true) × (b ≡ true)
and_parts true b is = (refl, is)
and_parts false b is = absurd (cc)

before_next : (l m : Label) (ms : List Label) → is_lt (label_cmp l m) ≡ true → comes_before m ms ≡ true → comes_before l ms ≡ true
before_next l m [] first next = refl
before_next l m (k ∷ ms) first next = rw (label_total.trans l m k (less (label_cmp l m) first) (less (label_cmp m k) next)) refl

-- a lesser label of the same name has another value
not_same : (l m : Label) → l.name ≡ m.name → is_lt (label_cmp l m) ≡ true → l.value ≡ m.value → ⊥
not_same l m name first value =
    let same : label_cmp l m ≡ label_cmp l l = rw (name, value) refl in
    let tied : label_cmp l m ≡ Equal = same ∙ tied_itself label_total l in
    let wrong : is_lt Equal ≡ true = subst (λ (o : Ordering). is_lt o ≡ true) tied first in
    cc

apart_values : (name : List ℕ) (l : Label) (ms : List Label) → l.name ≡ name → AllNamed name ms → comes_before l ms ≡ true → are_ascending ms ≡ true → Apart l.value (map (λ x. x.value) ms)
apart_values name l [] is all first up = tt
apart_values name l (m ∷ ms) is all first up =
    let rest = and_parts (comes_before m ms) (are_ascending ms) up in
    let same : l.name ≡ m.name = is ∙ sym all.0 in (
      unequal l.value m.value (λ value. not_same l m same first value),
      unequal m.value l.value (λ value. not_same l m same first (sym value)),
      apart_values name l ms is all.1 (before_next l m ms first rest.0) rest.1,
    )

distinct_values : (name : List ℕ) (ms : List Label) → AllNamed name ms → are_ascending ms ≡ true → Distinct (map (λ x. x.value) ms)
distinct_values name [] all up = tt
distinct_values name (m ∷ ms) all up =
    let rest = and_parts (comes_before m ms) (are_ascending ms) up in
    (apart_values name m ms all.0 all.1 rest.0 rest.1, distinct_values name ms all.1 rest.1)

labels_of : (s : ShardSpec) → is_shard s ≡ true → is_label_set s.labels ≡ true
labels_of s good =
    let a = and_parts (is_id s.id) _ good in
    let b = and_parts (are_sources s.sources) _ a.1 in
    let c = and_parts (is_journal_name s.recovery_log_prefix) _ b.1 in
    let d = and_parts (is_hint_prefix s.hint_prefix) _ c.1 in
    let e = and_parts (is_between 0 4 s.hint_backups) _ d.1 in
    let f = and_parts (is_between 0 4 s.hot_standbys) _ e.1 in
    (and_parts (is_label_set s.labels) (are_shard_labels s.labels) f.1).0

-- no output is named twice
pub distinct_outputs : (s : ShardSpec) → is_shard s ≡ true → Distinct (outputs_of s)
distinct_outputs s good =
    let named = labels_named (codes "output") s.labels in
    let up = ascending_of_set named (is_label_set-filter (λ l. bytes_eq l.name (codes "output")) s.labels (labels_of s good)) in
    distinct_values (codes "output") named (all_named (codes "output") s.labels) up

-- ---- journals

present_if : (t : Option Framing → Bool) (j : JournalSpec) (js : List JournalSpec) (name : List ℕ) (b : Bool) → bytes_eq j.name name ≡ b
    → (t (framing_at js name) ≡ true → is_journal name (all_empty (map name_of_journal js)) ≡ true)
    → t (cond b (Some (framing_in j.labels)) (framing_at js name)) ≡ true → is_journal name (all_empty (map name_of_journal (j ∷ js))) ≡ true
present_if t j js name true is rest good = rw is refl
present_if t j js name false is rest good = rw is (rest good)

-- a journal that holds what is wanted is a journal
pub is_present : (t : Option Framing → Bool) → t None ≡ false → (js : List JournalSpec) (name : List ℕ) → t (framing_at js name) ≡ true → is_journal name (all_empty (map name_of_journal js)) ≡ true
is_present t none [] name good = absurd (cc)
is_present t none (j ∷ js) name good = present_if t j js name (bytes_eq j.name name) refl (is_present t none js name) good

pub are_present : (js : List JournalSpec) (names : List (List ℕ)) → list_all (λ o. is_lines (framing_at js o)) names ≡ true → ArePresent names (all_empty (map name_of_journal js))
are_present js [] all = tt
are_present js (n ∷ names) all =
    let parts = and_parts (is_lines (framing_at js n)) (list_all (λ o. is_lines (framing_at js o)) names) all in
    (is_present is_lines refl js n parts.0, are_present js names parts.1)

pub sources_present : (js : List JournalSpec) (us : List SourceSpec) → list_all (λ u. is_readable (framing_at js u.journal)) us ≡ true
    → ArePresent (journals_of (map source_of us)) (all_empty (map name_of_journal js))
sources_present js [] all = tt
sources_present js (u ∷ us) all =
    let parts = and_parts (is_readable (framing_at js u.journal)) (list_all (λ v. is_readable (framing_at js v.journal)) us) all in
    (is_present is_readable refl js u.journal parts.0, sources_present js us parts.1)
