use Rattle.std.proofs.Common.{◌≡◌, ◌++◌, drop, map, true}
use Rattle.std.specs.List.{list_all}
use Rattle.gz_spec.specs.Valid.{is_source}
use Rattle.gz_plain.specs.Cluster.{AreSmallSources, source_named}
use Rattle.gz_world.specs.Starts.{source_of}
use Rattle.gz_world.proofs.start.sources_of.Given as goal

abbrev pub invariant-loop-source : goal.invariant-loop-source
invariant-loop-source l = record {
  copied : map source_named l.copied.items ++ map source_of (drop l.source-index l.sources) ≡ map source_of l.sources;
  lawful : list_all is_source (drop l.source-index l.sources) ≡ true;
  small : AreSmallSources l.copied.items;
}
