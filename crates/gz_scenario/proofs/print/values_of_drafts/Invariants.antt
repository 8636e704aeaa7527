use Rattle.std.proofs.Common.{◌≡◌, ◌++◌, drop, map}
use Rattle.serde_json.specs.View.{view}
use Rattle.gz_scenario.specs.Printed.{draft_data}
use Rattle.gz_scenario.proofs.print.values_of_drafts.Given as goal

abbrev pub invariant-loop-draft : goal.invariant-loop-draft
invariant-loop-draft l = map view l.values.items ++ map draft_data (drop l.draft-index l.drafts) ≡ map draft_data l.drafts
