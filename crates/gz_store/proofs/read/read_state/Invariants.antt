use Rattle.std.proofs.Common.{◌≡◌}
use Rattle.std.specs.Prelude.{option_map}
use Rattle.serde_json.specs.View.{members_view}
use Rattle.gz_store.specs.Stores.{entries_of, map_with, state_of_members}
use Rattle.gz_store.proofs.read.read_state.Given as goal

abbrev pub invariant-loop-key : goal.invariant-loop-key
invariant-loop-key l =
    option_map (λ xs. map_with l.state xs) (entries_of (members_view l.key-iterator)) ≡ state_of_members (members_view l.fn.members.entries)
