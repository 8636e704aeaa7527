use Rattle.std.proofs.Common.{◌≡◌, ◌≤◌, false, length}
use Rattle.std.specs.List.{AllByRecursion}
use Rattle.std.specs.Map.{keys_of}
use Rattle.serde_json.specs.Data.{no_members}
use Rattle.serde_json.specs.View.{members_view}
use Rattle.serde_json.specs.Written.{members_have_float}
use Rattle.gz_app.specs.States.{put_all}
use Rattle.gz_app.proofs.state.state_value.Given as goal

abbrev pub invariant-loop-key : goal.invariant-loop-key
invariant-loop-key l = record {
  rest : put_all l.key-iterator (members_view l.members.entries) ≡ put_all l.fn.state no_members;
  no_float : members_have_float (members_view l.members.entries) ≡ false;
  short : AllByRecursion (λ key. length key ≤ 1024) (keys_of l.key-iterator) → AllByRecursion (λ key. length key ≤ 1024) (keys_of l.fn.state);
}
