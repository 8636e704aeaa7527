use Rattle.std.proofs.Common.{◌≡◌, ◌++◌, drop, map}
use Rattle.serde_json.specs.View.{view}
use Rattle.gz_store.specs.Stores.{IsBack, intent_data, intent_of}
use Rattle.gz_store.proofs.print.intent_values.Given as goal

abbrev pub invariant-loop-intent : goal.invariant-loop-intent
invariant-loop-intent l = record {
  value : map view l.values.items ++ map intent_data (drop l.intent-index l.intents) ≡ map intent_data l.intents;
  back : IsBack intent_of intent_data (drop l.intent-index l.intents) → IsBack intent_of intent_data l.intents;
}
