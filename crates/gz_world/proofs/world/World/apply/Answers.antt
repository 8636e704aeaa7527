use Rattle.std.proofs.Common.{Option, option_map}
use Rattle.gz_world.specs.contracts.world.World.{the_view}
use Rattle.gz_world.proofs.Happened.{run_specified, run_after, with_happened, scenario_after}
use Rattle.gz_world.proofs.world.World.apply.Goals as goal

pub take-requires-clause-specified : goal.take-requires-clause-specified
take-requires-clause-specified c = run_specified c.args.self.now c.requires.run

pub returns-clause-run : goal.returns-clause-run
returns-clause-run c =
    let answer = option_map (λ s. s.value) c.in_ok-applied.answer in
    let made = with_happened c.args.line answer c.args.event.now c.args.self.now c.take.new.self (the_view c.self.inside) c.of-step.result c.and-self-inside.result.items c.self.view_is c.in_ok-applied.ensures.done c.of-step.ensures c.and-self-inside.ensures in
    run_after c.args.line answer c.args.event.now c.args.self.now _ c.requires.lawful c.in_ok-applied.ensures.answered made c.requires.run

pub returns-clause-follows : goal.returns-clause-follows
returns-clause-follows c =
    let answer = option_map (λ s. s.value) c.in_ok-applied.answer in
    let made = with_happened c.args.line answer c.args.event.now c.args.self.now c.take.new.self (the_view c.self.inside) c.of-step.result c.and-self-inside.result.items c.self.view_is c.in_ok-applied.ensures.done c.of-step.ensures c.and-self-inside.ensures in
    record { answer = answer; answered = c.in_ok-applied.ensures.answered; made = made }

pub returns-clause-scenario : goal.returns-clause-scenario
returns-clause-scenario c =
    let answer = option_map (λ s. s.value) c.in_ok-applied.answer in
    let made = with_happened c.args.line answer c.args.event.now c.args.self.now c.take.new.self (the_view c.self.inside) c.of-step.result c.and-self-inside.result.items c.self.view_is c.in_ok-applied.ensures.done c.of-step.ensures c.and-self-inside.ensures in
    scenario_after c.args.line answer c.args.event.now c.args.self.now _ made
