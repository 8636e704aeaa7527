use Rattle.std.proofs.Common.{arith}
use Rattle.gz_fields.specs.Names.{is_id}
use Rattle.gz_converge.proofs.Forms.{right, limit_within}
use Rattle.gz_converge.proofs.problem.limit_of.Goals as goal

pub overflow_cast-result : goal.overflow_cast-result
overflow_cast-result c =
    let within = limit_within c.spec.inside.limit (right (is_id c.spec.inside.zone) _ (right (is_id c.spec.inside.id) _ c.spec.invariant)) in
    omega (arith, within)
