use Rattle.std.proofs.Common.{◌≡◌, ◌∙◌, Some, None, rules}
use Rattle.gz_converge.specs.Converged.{placed_on}
use Rattle.gz_converge.proofs.Changing.{journal_stays, journal_moves}
use Rattle.gz_converge.proofs.answer.journal_txn.Goals as goal

pub returns-in_default : goal.returns-in_default
returns-in_default c =
    let on : c.as_slice.result.now ≡ placed_on c.args.placed.now c.args.journal.now.spec.name = c.as_slice.ensures.value ∙ c.in_ok-on.ensures in
    let none : c.in_ok-next.next ≡ None = search rules in
    journal_stays c.args.members.now c.args.placed.now c.args.journal.now c.as_slice.result.now c.in_ok-next.next on c.in_ok-next.ensures none

pub returns : goal.returns
returns c =
    let on : c.as_slice.result.now ≡ placed_on c.args.placed.now c.args.journal.now.spec.name = c.as_slice.ensures.value ∙ c.in_ok-on.ensures in
    let some : c.in_ok-next.next ≡ Some c.in-Some.new = search rules in
    journal_moves c.args.members.now c.args.placed.now c.args.journal.now c.as_slice.result.now c.in_ok-next.next c.in-Some.new c.in_ok-key.key c.in_ok-txn.txn on c.in_ok-next.ensures some c.in_ok-key.ensures c.in_ok-txn.ensures
