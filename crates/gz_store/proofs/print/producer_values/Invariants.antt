use Rattle.std.proofs.Common.{◌≡◌, ◌++◌, map}
use Rattle.serde_json.specs.View.{view}
use Rattle.gz_store.specs.Stores.{IsBack, producer_data, producer_of}
use Rattle.gz_store.proofs.print.producer_values.Given as goal

abbrev pub invariant-loop-producer : goal.invariant-loop-producer
invariant-loop-producer l = record {
  value : map view l.values.items ++ map producer_data l.producer-iterator ≡ map producer_data l.fn.producers.entries;
  back : IsBack producer_of producer_data l.producer-iterator → IsBack producer_of producer_data l.fn.producers.entries;
}
