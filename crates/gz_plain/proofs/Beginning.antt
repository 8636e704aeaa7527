-- What shards keep that have read nothing.
use Rattle.std.proofs.Common.{◌≡◌, ℕ, ◌+◌, ◌≤◌, ◌^◌, List, [], ◌∷◌, length, map, refl, ap, sym, ◌∙◌, subst, None, arith}
use Rattle.gz_uuid.specs.Producer.{shard_octets}
use Rattle.gz_frame.proofs.Whole.{no_messages}
use Rattle.gz_frame.specs.Text.{Placed}
use Rattle.gz_sequencer.specs.Committed.{committed_after}
use Rattle.gz_plain.specs.Cluster.{AreSmallSources, definition_of, reader_at, source_named, writer_at}
use Rattle.gz_promise.specs.Journals.{Journal, place_of}
use Rattle.gz_plain.specs.Places.{ArePlaced}
use Rattle.gz_plain.specs.Readers.{AreRead}
use Rattle.gz_plain.specs.Running.{AllEndBy, AllUpto, AreTaken, IsKept, IsLinked, journals_of}
use Rattle.gz_plain.specs.Definitions.{fresh}
use Rattle.gz_plain.specs.Runs.{ArePresent}
use Rattle.gz_plain.specs.Seen.{name_of, shard_of, source_of}
use Rattle.gz_plain.specs.Shards as shards
use Rattle.gz_promise.specs.Sources.{Source, froms_of}
use Rattle.gz_plain.specs.declared.cluster.Definition as declared
use Rattle.gz_plain.specs.declared.cluster.Source as named
use Rattle.gz_plain.specs.declared.reader.Reader.{Reader}
use Rattle.gz_plain.specs.declared.shard.Shard.{Shard}
use Rattle.gz_plain.specs.declared.writer.Writer.{Writer}

-- ---- one shard

pub sources_begun : (js : List Journal) (ss : List named.Source) → map source_of (map (reader_at js) ss) ≡ map source_named ss
sources_begun js [] = refl
sources_begun js (s ∷ ss) = ap (λ (xs : List Source). source_named s ∷ xs) (sources_begun js ss)

pub names_begun : (js : List Journal) (names : List (List ℕ)) → map name_of (map (writer_at js) names) ≡ names
names_begun js [] = refl
names_begun js (n ∷ names) = ap (λ (xs : List (List ℕ)). n ∷ xs) (names_begun js names)

read_begun : (js : List Journal) (ss : List named.Source) → AreSmallSources ss → AreRead js (map (reader_at js) ss)
read_begun js [] small = tt
read_begun js (s ∷ ss) small = ((small.0, refl, record { within = omega arith; at = refl }), read_begun js ss small.1)

taken_begun : (js : List Journal) (ss : List named.Source) → AreTaken js (froms_of (map source_named ss)) (map (reader_at js) ss)
taken_begun js [] = tt
taken_begun js (s ∷ ss) = (
  record { below = omega arith; ended = subst (λ (ps : List Placed). AllEndBy s.from (committed_after [] ps)) (sym (no_messages s.from [] refl)) tt },
  taken_begun js ss,
)

pub placed_begun : (js : List Journal) (names : List (List ℕ)) → ArePlaced js (map (writer_at js) names)
placed_begun js [] = tt
placed_begun js (n ∷ names) = (refl, placed_begun js names)

-- what a shard keeps that has read nothing
pub record IsBegun (js : List Journal) (number : ℕ) (d : declared.Definition) (s : Shard) : Type 0 where
  pub id : s.id ≡ d.id
  pub log : s.log ≡ d.log
  pub producer : s.producer ≡ record { id = shard_octets number; last = 0 }
  pub readers : s.readers ≡ map (reader_at js) d.sources.items
  pub writers : s.writers.items ≡ map (writer_at js) d.outputs.items
  pub app : s.app ≡ d.app
  pub is_disabled : s.is_disabled ≡ d.is_disabled
  pub past : s.past ≡ None
  pub commits : s.commits.items ≡ []
  pub messages : s.messages ≡ 0
  pub store : s.store ≡ []

pub begun_seen : (js : List Journal) (number : ℕ) (d : declared.Definition) (s : Shard) → IsBegun js number d s → shard_of s ≡ fresh number (definition_of d)
begun_seen js number d s b =
    let sources : map source_of s.readers ≡ map source_named d.sources.items = ap (λ rs. map source_of rs) b.readers ∙ sources_begun js d.sources.items in
    let names : map name_of s.writers.items ≡ d.outputs.items = ap (λ ws. map name_of ws) b.writers ∙ names_begun js d.outputs.items in
    rw (b.id, b.log, b.producer, sources, names, b.app, b.is_disabled, b.past, b.commits, b.store) refl

pub begun_kept : (js : List Journal) (number : ℕ) (d : declared.Definition) (s : Shard) → AreSmallSources d.sources.items
    → ArePresent (journals_of (map source_named d.sources.items)) js → ArePresent d.outputs.items js → IsBegun js number d s → IsKept js s
begun_kept js number d s small read written b =
    let seen : shard_of s ≡ fresh number (definition_of d) = begun_seen js number d s b in
    record {
      readers = subst (λ rs. AreRead js rs) (sym b.readers) (read_begun js d.sources.items small);
      taken = subst (λ (x : shards.Shard). AreTaken js (shards.last_offsets x) s.readers) (sym seen)
          (subst (λ (rs : List Reader). AreTaken js (froms_of (map source_named d.sources.items)) rs) (sym b.readers) (taken_begun js d.sources.items));
      upto = subst (λ commits. AllUpto js commits (shard_of s).sources) (sym b.commits) tt;
      writers = subst (λ ws. ArePlaced js ws) (sym b.writers) (placed_begun js d.outputs.items);
      linked = subst (λ (x : shards.Shard). IsLinked js x) (sym seen) (read, written);
      count = b.messages ∙ ap (λ (x : shards.Shard). length (shards.read_order js x)) (sym seen);
    }
