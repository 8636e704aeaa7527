-- Definitions by specifications are small.
use Rattle.std.proofs.Common.{◌≡◌, ℕ, ◌+◌, ◌<◌, ◌≤◌, ◌^◌, List, [], ◌∷◌, ◌++◌, suc, length, map, nat_le, refl, ap, drop, get_or, drop-cons, append_assoc, true, arith}
use Rattle.std.specs.List.{list_all}
use Rattle.std.proofs.lemmas.Grind.{common_steps}
use Rattle.gz_fields.specs.Names.{is_journal_name}
use Rattle.gz_fields.specs.Form.{is_between}
use Rattle.gz_spec.specs.Valid.{is_source, is_shard}
use Rattle.gz_spec.specs.Records.{SourceSpec, ShardSpec}
use Rattle.gz_plain.specs.declared.cluster.Definition.{Definition}
use Rattle.gz_plain.specs.declared.cluster.Source.{Source}
use Rattle.gz_plain.specs.Definitions as plain
use Rattle.gz_promise.specs.Sources as shards
use Rattle.gz_plain.specs.Cluster.{AreSmallSources, AreSmall, source_named, definition_of, definitions_of as definitions_seen}
use Rattle.gz_world.specs.Starts as starts
use Rattle.gz_world.specs.Starts.{source_of, defined}
use Rattle.gz_world.proofs.Order.{is_shard_entry}
use Rattle.gz_world.proofs.Good.{and_parts}

at_most : (n m : ℕ) → nat_le n m ≡ true → n ≤ m
at_most n m is = grind (arith, common_steps)

pub small_offset : (s : SourceSpec) → is_source s ≡ true → s.min_offset ≤ 2 ^ 62
small_offset s good =
    let a = and_parts (is_journal_name s.journal) (is_between 0 (2 ^ 62) s.min_offset) good in
    at_most s.min_offset (2 ^ 62) (and_parts (nat_le 0 s.min_offset) (nat_le s.min_offset (2 ^ 62)) a.1).1

pub small_sources_more : (ss : List Source) (s : Source) → AreSmallSources ss → s.from ≤ 2 ^ 62 → AreSmallSources (ss ++ s ∷ [])
small_sources_more [] s small least = (least, tt)
small_sources_more (t ∷ ts) s small least = (small.0, small_sources_more ts s small.1 least)

-- ---- one more

pub named_more : (ss : List Source) (s : Source) → map source_named (ss ++ s ∷ []) ≡ map source_named ss ++ source_named s ∷ []
named_more [] s = refl
named_more (t ∷ ts) s = ap (λ (xs : List shards.Source). source_named t ∷ xs) (named_more ts s)

pub defined_more : (ds : List Definition) (d : Definition) → definitions_seen (ds ++ d ∷ []) ≡ definitions_seen ds ++ definition_of d ∷ []
defined_more [] d = refl
defined_more (e ∷ ds) d = ap (λ (xs : List plain.Definition). definition_of e ∷ xs) (defined_more ds d)

pub small_more : (ds : List Definition) (d : Definition) → AreSmall ds → AreSmallSources d.sources.items → AreSmall (ds ++ d ∷ [])
small_more [] d small least = (least, tt)
small_more (e ∷ ds) d small least = (small.0, small_more ds d small.1 least)

pub seen_count : (ds : List Definition) → length (definitions_seen ds) ≡ length ds
seen_count [] = refl
seen_count (d ∷ ds) = ap (λ (n : ℕ). suc n) (seen_count ds)

-- ---- the next source

one_behind : (i : ℕ) → i + 1 ≡ suc i
one_behind i = omega arith

last_small : (old new : List Source) (s : Source) (u : SourceSpec) → new ≡ old ++ s ∷ [] → s.from ≡ u.min_offset → is_source u ≡ true → AreSmallSources old → AreSmallSources new
last_small old new s u pushed from good small = rw pushed (small_sources_more old s small (rw from (small_offset u good)))

last_copied : (old new : List Source) (s : Source) (u : SourceSpec) (us all : List SourceSpec) → new ≡ old ++ s ∷ [] → s.journal ≡ u.journal → s.from ≡ u.min_offset
    → map source_named old ++ map source_of (u ∷ us) ≡ map source_of all → map source_named new ++ map source_of us ≡ map source_of all
last_copied old new s u us all pushed journal from copied =
    rw (pushed, named_more old s, append_assoc (map source_named old) (source_named s ∷ []) (map source_of us), journal, from) copied

pub sources_next : (old new : List Source) (s : Source) (all : List SourceSpec) (i : ℕ) (u : SourceSpec) → new ≡ old ++ s ∷ [] → i < length all → u ≡ get_or all i u → s.journal ≡ u.journal → s.from ≡ u.min_offset
    → map source_named old ++ map source_of (drop i all) ≡ map source_of all → list_all is_source (drop i all) ≡ true → AreSmallSources old
    → (map source_named new ++ map source_of (drop (i + 1) all) ≡ map source_of all) × ((list_all is_source (drop (i + 1) all) ≡ true) × AreSmallSources new)
sources_next old new s all i u pushed within is journal from copied lawful small =
    let cut : drop i all ≡ u ∷ drop (i + 1) all = rw (drop-cons all i u within, ← is, one_behind i) refl in
    let good = and_parts (is_source u) (list_all is_source (drop (i + 1) all)) (rw cut at lawful) in
    (last_copied old new s u (drop (i + 1) all) all pushed journal from (rw cut at copied), (good.1, last_small old new s u pushed from good.0 small))

-- ---- the next shard

pub definitions_next : (old new : List Definition) (one : Definition) (s : ShardSpec) (id : List ℕ) (left rest : List (List ℕ × ShardSpec)) (all : List plain.Definition) → new ≡ old ++ one ∷ [] → left ≡ (id, s) ∷ rest
    → definition_of one ≡ starts.definition_of s → AreSmallSources one.sources.items → definitions_seen old ++ map defined left ≡ all → list_all is_shard_entry left ≡ true → AreSmall old
    → (definitions_seen new ++ map defined rest ≡ all) × ((list_all is_shard_entry rest ≡ true) × AreSmall new)
definitions_next old new one s id left rest all pushed is same least made lawful small =
    let good = and_parts (is_shard s) (list_all is_shard_entry rest) (rw is at lawful) in
    let made_ : definitions_seen old ++ starts.definition_of s ∷ map defined rest ≡ all = rw is at made in (
      rw (pushed, defined_more old one, append_assoc (definitions_seen old) (definition_of one ∷ []) (map defined rest), same) made_,
      (good.1, rw pushed (small_more old one small least)),
    )
