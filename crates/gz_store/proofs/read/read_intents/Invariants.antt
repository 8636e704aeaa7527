use Rattle.std.proofs.Common.{◌≡◌, ◌++◌, drop}
use Rattle.std.specs.Prelude.{option_map}
use Rattle.serde_json.specs.View.{items_view}
use Rattle.gz_store.specs.Stores.{all_of, intent_of}
use Rattle.gz_store.proofs.read.read_intents.Given as goal

abbrev pub invariant-loop-value : goal.invariant-loop-value
invariant-loop-value l =
    option_map (λ xs. l.intents.items ++ xs) (all_of intent_of (items_view (drop l.value-index l.values))) ≡ all_of intent_of (items_view l.values)
