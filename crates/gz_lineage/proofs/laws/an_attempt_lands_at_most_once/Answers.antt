use Rattle.gz_lineage.proofs.Attempts.{lands_once, lands_of}
use Rattle.gz_lineage.proofs.laws.an_attempt_lands_at_most_once.Goals as goal

pub returns-clause-once : goal.returns-clause-once
returns-clause-once c = lands_once

pub returns-clause-put : goal.returns-clause-put
returns-clause-put c = lands_of
