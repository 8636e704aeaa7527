use Rattle.std.proofs.Common.{◌≡◌, ◌∙◌, sym, subst, List, ℕ}
use Rattle.gz_plain.specs.Places.{names_of}
use Rattle.gz_plain.specs.Running.{AllKept, IsKept}
use Rattle.gz_promise.specs.Names.{Distinct}
use Rattle.gz_plain.specs.declared.shard.Shard.{Shard}
use Rattle.gz_plain.proofs.Settling.{round_turn}
use Rattle.gz_plain.proofs.settle.step_each.Goals as goal

pub step-requires-clause-names : goal.step-requires-clause-names
step-requires-clause-names c = subst (λ (names : List (List ℕ)). Distinct names) (sym c.loop-shard.invariant.names) c.requires.names

pub step-requires-clause-kept : goal.step-requires-clause-kept
step-requires-clause-kept c = (subst (λ (ss : List Shard). AllKept c.loop-shard.journals ss) c.in-Some.ensures.steps.0 c.loop-shard.invariant.ahead).0

pub loop-shard-preserved : goal.loop-shard-preserved
loop-shard-preserved c =
    round_turn c.args.journals.now c.args.shards.items c.loop-shard.journals c.step.new.journals c.loop-shard.after.items c.push.new.self.items
    c.loop-shard.shard-iterator.rest.items c.next.new.self.rest.items c.in-Some.shard c.in_ok-stepped.stepped.shard c.loop-shard.is_quiet c.in_ok-stepped.stepped.is_quiet c.both-is_quiet.result
    c.in-Some.ensures.steps.0 c.in_ok-push.ensures.items c.both-is_quiet.ensures c.in_ok-stepped.ensures.step c.in_ok-stepped.ensures.kept c.in_ok-stepped.ensures.quiet c.loop-shard.invariant
