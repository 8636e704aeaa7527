use Rattle.std.proofs.Common.{arith}
use Rattle.gz_fields.specs.Names.{is_journal_name}
use Rattle.gz_fields.specs.Form.{is_between}
use Rattle.gz_converge.proofs.Forms.{left, right, few_replicas}
use Rattle.gz_converge.proofs.problem.replicas_of.Goals as goal

pub overflow_cast-result : goal.overflow_cast-result
overflow_cast-result c =
    let few = few_replicas c.spec.inside.replication (left (is_between 1 5 c.spec.inside.replication) _ (right (is_journal_name c.spec.inside.name) _ c.spec.invariant)) in
    omega (arith, few)
