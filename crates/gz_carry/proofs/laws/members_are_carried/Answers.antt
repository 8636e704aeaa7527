use Rattle.gz_carry.proofs.Members.{on_promise_seen, on_adopt_seen, on_replicate_seen, on_head_seen}
use Rattle.gz_carry.proofs.laws.members_are_carried.Goals as goal

pub returns-clause-promise : goal.returns-clause-promise
returns-clause-promise c = λ num lists j me from m n epoch seen. on_promise_seen num j me m n seen lists from epoch

pub returns-clause-adopt : goal.returns-clause-adopt
returns-clause-adopt c = λ num h j me from m n epoch image i seen ok fits made. on_adopt_seen num j me m n seen h ok from epoch image i fits made

pub returns-clause-replicate : goal.returns-clause-replicate
returns-clause-replicate c = λ num h j me from m n epoch offset head k reach entry seen ok at low is. on_replicate_seen num j me m n seen h ok.spool from epoch offset head k reach entry is at low

pub returns-clause-head : goal.returns-clause-head
returns-clause-head c = λ num h j me m n epoch head begin k seen ok at. on_head_seen num j me m n seen h ok epoch head begin k at
