use Rattle.gz_carry.proofs.Fitting.{judged_alike}
use Rattle.gz_carry.proofs.Primary.{on_held_seen, append_seen, on_stored_seen}
use Rattle.gz_carry.proofs.laws.primaries_are_carried.Goals as goal

pub returns-clause-held : goal.returns-clause-held
returns-clause-held c = λ num same h j me from m n epoch end k seen ok at. on_held_seen num j me m n seen same h ok from epoch end k at

pub returns-clause-judged : goal.returns-clause-judged
returns-clause-judged c = judged_alike

pub returns-clause-append : goal.returns-clause-append
returns-clause-append c = λ num h lists j me m n request end r held seen ok leads lands whole. append_seen num j me m n seen h ok lists request end r held leads lands whole

pub returns-clause-trim : goal.returns-clause-trim
returns-clause-trim c = λ num h j me m n end seen ok. on_stored_seen num j me m n seen h ok end
