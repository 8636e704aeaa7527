use Rattle.serde_json.specs.View.{view}
use Rattle.gz_spec.proofs.Sound.{shard_made}
use Rattle.gz_spec.proofs.shard.read_rest.Goals as goal

pub invariant_of-result : goal.invariant_of-result
invariant_of-result c =
    shard_made c.args.path.now c.args.id (view c.args.value.now) c.in_ok-sources.sources
    c.in_ok-recovery_log_prefix.recovery_log_prefix c.in_ok-hint_prefix.hint_prefix c.in_ok-hint_backups.hint_backups
    c.in_ok-hot_standbys.hot_standbys c.in_ok-disable.disable c.in_ok-labels.labels c.in_ok-refuse_labels.field-0
    c.requires c.in_ok-sources.ensures c.in_ok-recovery_log_prefix.ensures c.in_ok-hint_prefix.ensures
    c.in_ok-hint_backups.ensures c.in_ok-hot_standbys.ensures c.in_ok-disable.ensures c.in_ok-labels.ensures
    (rw (← c.in_ok-place.ensures, ← c.as_slice.ensures.value) c.in_ok-refuse_labels.ensures)
