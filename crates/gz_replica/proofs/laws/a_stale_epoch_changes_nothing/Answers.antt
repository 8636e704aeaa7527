use Rattle.gz_replica.proofs.Stale.{stale_promise, stale_adopt, stale_replicate}
use Rattle.gz_replica.proofs.laws.a_stale_epoch_changes_nothing.Goals as goal

pub returns-clause-promise : goal.returns-clause-promise
returns-clause-promise c = λ j m from epoch less. stale_promise m epoch less j from

pub returns-clause-adopt : goal.returns-clause-adopt
returns-clause-adopt c = λ j m from epoch image less. stale_adopt m epoch less j from image

pub returns-clause-replicate : goal.returns-clause-replicate
returns-clause-replicate c = λ j m from epoch offset entry head less. stale_replicate m epoch less j from offset entry head
