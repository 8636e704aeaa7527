-- Shards of specifications read and write journals that these name.
use Rattle.std.proofs.Common.{◌≡◌, ◌||◌, ℕ, List, [], ◌∷◌, map, refl, sym, ap, ◌∙◌, subst, Bool, true}
use Rattle.std.specs.List.{list_all}
use Rattle.std.specs.Str.{bytes_eq}
use Rattle.gz_links.specs.Links.{framing_at, is_lines, is_log, is_readable, log_name, outputs_of, is_linked, are_linked}
use Rattle.gz_spec.specs.Specs.{name_of_journal}
use Rattle.gz_spec.specs.Valid.{is_shard}
use Rattle.gz_spec.specs.Records.{Specs, JournalSpec, ShardSpec}
use Rattle.gz_plain.specs.Cluster.{AreLinked}
use Rattle.gz_promise.specs.Journals.{Journal, is_journal}
use Rattle.gz_plain.specs.Places.{names_of}
use Rattle.gz_plain.specs.Running.{journals_of}
use Rattle.gz_plain.specs.Runs as plain
use Rattle.gz_promise.specs.Names.{Distinct}
use Rattle.gz_world.specs.Starts.{source_of, defined, in_id_order, names_of_journals, definitions_of}
use Rattle.gz_world.proofs.Good.{and_parts}
use Rattle.gz_world.proofs.Order.{Each, Shards, each_in_order}
use Rattle.gz_world.proofs.Outputs.{distinct_outputs, are_present, sources_present}

-- ---- one shard

-- a shard's sources and outputs are journals, and it names no output twice
record IsDefined (js : List JournalSpec) (s : ShardSpec) : Type 0 where
  distinct : Distinct (outputs_of s)
  outputs : plain.ArePresent (outputs_of s) (plain.all_empty (map name_of_journal js))
  sources : plain.ArePresent (journals_of (map source_of s.sources)) (plain.all_empty (map name_of_journal js))

is_defined : (js : List JournalSpec) (s : ShardSpec) → is_shard s ≡ true → is_linked js s ≡ true → IsDefined js s
is_defined js s good linked =
    let a = and_parts (list_all (λ u. is_readable (framing_at js u.journal)) s.sources) _ linked in
    let b = and_parts (is_log (framing_at js (log_name s))) (list_all (λ o. is_lines (framing_at js o)) (outputs_of s)) a.1 in
    record { distinct = distinct_outputs s good; outputs = are_present js (outputs_of s) b.1; sources = sources_present js s.sources a.0 }

each_defined : (js : List JournalSpec) (ss : List ShardSpec) → list_all is_shard ss ≡ true → are_linked js ss ≡ true → Each (IsDefined js) ss
each_defined js [] good linked = tt
each_defined js (s ∷ ss) good linked =
    let g = and_parts (is_shard s) (list_all is_shard ss) good in
    let l = and_parts (is_linked js s) (are_linked js ss) linked in
    (is_defined js s g.0 l.0, each_defined js ss g.1 l.1)

-- ---- journals of the same names

same_place : (name : List ℕ) (js : List Journal) → is_journal name (plain.all_empty (names_of js)) ≡ is_journal name js
same_place name [] = refl
same_place name (j ∷ js) = ap (λ (b : Bool). bytes_eq j.name name || b) (same_place name js)

present_named : (js : List Journal) (names : List (List ℕ)) → plain.ArePresent names (plain.all_empty (names_of js)) → plain.ArePresent names js
present_named js [] present = tt
present_named js (n ∷ names) present = (sym (same_place n js) ∙ present.0, present_named js names present.1)

-- these are there, where the journals have the names of those that the specifications name
present : (specs : List JournalSpec) (js : List Journal) (names : List (List ℕ)) → names_of js ≡ names_of_journals specs → plain.ArePresent names (plain.all_empty (names_of_journals specs)) → plain.ArePresent names js
present specs js names same there =
    present_named js names (subst (λ (ns : List (List ℕ)). plain.ArePresent names (plain.all_empty ns)) (sym same) there)

-- ---- all of them

all_defined : (specs : List JournalSpec) (js : List Journal) (es : List (List ℕ × ShardSpec)) → names_of js ≡ names_of_journals specs → Shards (IsDefined specs) es → plain.AreDefined js (map defined es)
all_defined specs js [] same each = tt
all_defined specs js (e ∷ es) same each = (each.0.distinct, present specs js (outputs_of e.1) same each.0.outputs, all_defined specs js es same each.1)

all_linked : (specs : List JournalSpec) (js : List Journal) (es : List (List ℕ × ShardSpec)) → names_of js ≡ names_of_journals specs → Shards (IsDefined specs) es → AreLinked js (map defined es)
all_linked specs js [] same each = tt
all_linked specs js (e ∷ es) same each = (
  (present specs js (journals_of (map source_of e.1.sources)) same each.0.sources, present specs js (outputs_of e.1) same each.0.outputs),
  all_linked specs js es same each.1,
)

in_order_defined : (specs : Specs) → list_all is_shard specs.shards ≡ true → are_linked specs.journals specs.shards ≡ true → Shards (IsDefined specs.journals) (in_id_order specs.shards)
in_order_defined specs good linked = each_in_order (IsDefined specs.journals) specs.shards (each_defined specs.journals specs.shards good linked)

-- the shards of linked specifications emitted to journals of their names, and none twice to one
pub are_defined : (specs : Specs) (js : List Journal) → list_all is_shard specs.shards ≡ true → are_linked specs.journals specs.shards ≡ true → names_of js ≡ names_of_journals specs.journals
    → plain.AreDefined js (definitions_of specs.shards)
are_defined specs js good linked same = all_defined specs.journals js (in_id_order specs.shards) same (in_order_defined specs good linked)

-- and read and write journals of their names
pub definitions_linked : (specs : Specs) (js : List Journal) → list_all is_shard specs.shards ≡ true → are_linked specs.journals specs.shards ≡ true → names_of js ≡ names_of_journals specs.journals
    → AreLinked js (definitions_of specs.shards)
definitions_linked specs js good linked same = all_linked specs.journals js (in_id_order specs.shards) same (in_order_defined specs good linked)
