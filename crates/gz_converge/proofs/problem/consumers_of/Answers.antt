use Rattle.std.proofs.Common.{arith}
use Rattle.gz_fields.specs.Names.{is_id, is_journal_name}
use Rattle.gz_fields.specs.Form.{is_between}
use Rattle.gz_spec.specs.Reserved.{is_hint_prefix}
use Rattle.gz_spec.specs.Valid.{are_sources}
use Rattle.gz_converge.proofs.Forms.{left, right, few_standbys}
use Rattle.gz_converge.proofs.problem.consumers_of.Goals as goal

pub overflow_cast-standbys : goal.overflow_cast-standbys
overflow_cast-standbys c =
    let s = c.spec.inside in
    let few = few_standbys s.hot_standbys (left (is_between 0 4 s.hot_standbys) _ (right (is_between 0 4 s.hint_backups) _ (right (is_hint_prefix s.hint_prefix) _
    (right (is_journal_name s.recovery_log_prefix) _ (right (are_sources s.sources) _ (right (is_id s.id) _ c.spec.invariant)))))) in
    omega (arith, few)

pub overflow_add-result : goal.overflow_add-result
overflow_add-result c =
    let s = c.spec.inside in
    let few = few_standbys s.hot_standbys (left (is_between 0 4 s.hot_standbys) _ (right (is_between 0 4 s.hint_backups) _ (right (is_hint_prefix s.hint_prefix) _
    (right (is_journal_name s.recovery_log_prefix) _ (right (are_sources s.sources) _ (right (is_id s.id) _ c.spec.invariant)))))) in
    omega (arith, few)
