use Rattle.std.proofs.Common.{◌≡◌, ◌∙◌, arith, sym, subst, List, ℕ}
use Rattle.gz_plain.specs.Places.{names_of}
use Rattle.gz_plain.specs.Running.{AllKept}
use Rattle.gz_promise.specs.Names.{Distinct}
use Rattle.gz_plain.specs.declared.shard.Shard.{Shard}
use Rattle.gz_plain.proofs.Settling.{IsSettling, settle_start, settle_turn, settle_quiet}
use Rattle.gz_plain.proofs.settle.settle_all.Goals as goal

pub loop-i-init : goal.loop-i-init
loop-i-init c = settle_start c.args.journals.now c.args.shards.items c.requires.kept

pub step_each-requires-clause-names : goal.step_each-requires-clause-names
step_each-requires-clause-names c = subst (λ (names : List (List ℕ)). Distinct names) (sym c.loop-i.invariant.names) c.requires.names

pub returns-then-after-clause-settled : goal.returns-then-after-clause-settled
returns-then-after-clause-settled c =
    settle_quiet c.args.journals.now c.args.shards.items c.loop-i.journals c.step_each.new.journals c.loop-i.shards.items c.in_ok-after.after.shards.items c.loop-i._i
    c.in_ok-after.ensures.round (c.in_ok-after.ensures.quiet c.if-after.true) c.loop-i.invariant

pub loop-i-preserved : goal.loop-i-preserved
loop-i-preserved c =
    settle_turn c.args.journals.now c.args.shards.items c.loop-i.journals c.step_each.new.journals c.loop-i.shards.items c.in_ok-after.after.shards.items c.loop-i._i
    (omega (arith, c.loop-i-test.true, c.len-count.ensures)) c.in_ok-after.ensures.round c.in_ok-after.ensures.kept c.in_ok-after.ensures.names c.loop-i.invariant
