use Rattle.std.proofs.Common.{◌≡◌, ◌++◌, drop}
use Rattle.gz_converge.specs.Converged.{more_text}
use Rattle.gz_converge.proofs.ids.append_more.Given as goal

abbrev pub invariant-loop-id : goal.invariant-loop-id
invariant-loop-id l = l.text ++ more_text (drop l.id-index l.ids) ≡ l.fn.text ++ more_text l.ids
