use Rattle.std.proofs.Common.{◌<◌, map, length, sym, ◌∙◌, arith}
use Rattle.std.proofs.lemmas.List.{length-map}
use Rattle.gz_alloc.specs.Names.{rises_at}
use Rattle.gz_alloc.proofs.NameLemmas.{all_to_fails}
use Rattle.gz_alloc.proofs.problem.members_rise.Goals as goal

pub returns-then-not-rises : goal.returns-then-not-rises
returns-then-not-rises c =
    let within : c.loop-m.m < length (map (λ m. m.name) c.args.members.now) = omega (arith, length-map c.args.members.now (λ m. m.name)) in
    sym (all_to_fails (length (map (λ m. m.name) c.args.members.now)) (rises_at (map (λ m. m.name) c.args.members.now)) c.loop-m.m within (sym c.member_rises-rises.ensures ∙ c.if-not-rises.true))
