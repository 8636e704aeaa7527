use Rattle.std.proofs.Common.{◌≡◌, map}
use Rattle.serde_json.specs.View.{members_view}
use Rattle.gz_json.specs.Json.{first_unknown}
use Rattle.gz_json.proofs.json.first_unknown.Given as goal

abbrev pub invariant-loop-name : goal.invariant-loop-name
invariant-loop-name l =
    let known = map (λ k. k.now) l.known in
    first_unknown known (members_view l.name-iterator) ≡ first_unknown known (members_view l.fn.members.entries)
