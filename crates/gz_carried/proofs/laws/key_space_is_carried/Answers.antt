use Rattle.gz_carried.proofs.Sentences.{takes_syncs, applies, draws_authors, expires}
use Rattle.gz_carried.proofs.laws.key_space_is_carried.Goals as goal

pub returns-clause-syncs : goal.returns-clause-syncs
returns-clause-syncs c = takes_syncs

pub returns-clause-applies : goal.returns-clause-applies
returns-clause-applies c = applies

pub returns-clause-authors : goal.returns-clause-authors
returns-clause-authors c = draws_authors

pub returns-clause-expire : goal.returns-clause-expire
returns-clause-expire c = expires
