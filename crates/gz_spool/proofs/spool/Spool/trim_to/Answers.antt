use Rattle.std.proofs.Common.{arith, ◌≡◌, ◌+◌, List, drop, ap}
use Rattle.gz_label.specs.declared.entry.Entry.{Entry}
use Rattle.gz_journal.specs.JournalList.{end_of}
use Rattle.gz_spool.proofs.spool.Spool.trim_to.Goals as goal

pub invariant_of-self : goal.invariant_of-self
invariant_of-self c =
    let rest : c.args.begin + end_of (drop c.in-Some.count c.self.inside.entries.items) ≡ c.self.inside.begin + end_of c.self.inside.entries.items = c.in-Some.ensures.rest in
    let kept : end_of c.drop_first.new.entries.items ≡ end_of (drop c.in-Some.count c.self.inside.entries.items) = ap (λ (es : List Entry). end_of es) c.drop_first.ensures.entries in
    (omega arith, omega arith, omega arith, omega (arith, rest, kept))
