use Rattle.std.proofs.Common.{◌≡◌, ◌++◌, drop, map}
use Rattle.serde_json.specs.View.{view}
use Rattle.gz_store.specs.Stores.{IsBack, source_data, source_of}
use Rattle.gz_store.proofs.print.source_values.Given as goal

abbrev pub invariant-loop-source : goal.invariant-loop-source
invariant-loop-source l = record {
  value : map view l.values.items ++ map source_data (drop l.source-index l.sources) ≡ map source_data l.sources;
  back : IsBack source_of source_data (drop l.source-index l.sources) → IsBack source_of source_data l.sources;
}
