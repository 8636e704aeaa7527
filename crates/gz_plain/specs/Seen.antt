-- How what the program keeps of shards is seen.
use Rattle.std.specs.Prelude.{ℕ, List, map}
use Rattle.gz_plain.specs.declared.reader.Reader.{Reader}
use Rattle.gz_plain.specs.declared.shard.Shard.{Shard}
use Rattle.gz_plain.specs.declared.writer.Writer.{Writer}
use Rattle.gz_plain.specs.Shards as shards
use Rattle.gz_promise.specs.Sources.{Source}

abbrev pub source_of : Reader → Source
source_of r = record { journal = r.journal; from = r.from }

abbrev pub name_of : Writer → List ℕ
name_of w = w.journal

abbrev pub shard_of : Shard → shards.Shard
shard_of s = record {
  id = s.id;
  log = s.log;
  producer = s.producer.id;
  sources = map source_of s.readers;
  outputs = map name_of s.writers.items;
  app = s.app;
  is_disabled = s.is_disabled;
  past = s.past;
  commits = s.commits.items;
  clock = s.producer.last;
  store = s.store;
}

abbrev pub shards_of : List Shard → List shards.Shard
shards_of ss = map shard_of ss
