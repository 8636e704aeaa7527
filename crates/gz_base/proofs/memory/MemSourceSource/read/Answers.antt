use Rattle.std.proofs.Common.{ℕ, List, ◌==◌, ◌∙◌, sym, ap, arith}
use Rattle.std.specs.List.{list_any}
use Rattle.gz_base.proofs.FailingLemmas.{now_failing, later_failing}
use Rattle.gz_base.proofs.memory.MemSourceSource.read.Goals as goal

pub returns-clause-well : goal.returns-clause-well
returns-clause-well c =
    let calls = c.args.self.now.calls in
    let failing = c.args.self.now.failing.items in
    let listed = ap (λ (ns : List ℕ). list_any (λ n. n == calls) ns) (sym c.deref.ensures.value) in
    (now_failing failing calls (omega (arith, c.fits-self)) ∙ listed ∙ sym c.contains.ensures.value ∙ c.if-contains.false, later_failing failing calls _ c.saturating_add-self.ensures)
