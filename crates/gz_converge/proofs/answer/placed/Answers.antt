use Rattle.gz_converge.proofs.Placing.{placed_by_cut}
use Rattle.gz_converge.proofs.answer.placed.Goals as goal

pub returns : goal.returns
returns c =
    let facts = c.in_ok-placement.ensures in
    placed_by_cut c.args.problem.now c.requires c.args.now.now c.args.goal.now c.in_ok-placement.placement c.in_ok-placement._cut.members.items c.in_ok-placement._cut.zones.items facts.feasible facts.cut facts.choice
