use Rattle.std.proofs.Common.{sym, ◌∙◌}
use Rattle.gz_json.proofs.Known.{known_turn, unknown_turn}
use Rattle.gz_json.proofs.json.first_unknown.Goals as goal

pub loop-name-preserved : goal.loop-name-preserved
loop-name-preserved c =
    known_turn c.args.known.now _ _ _ _ c.in-Some.is c.next.ensures.steps c.as_str-name.result.now c.as_str-name.ensures.value
    (sym c.is_known.ensures ∙ c.if-not-is_known.false)
    ∙ c.loop-name.invariant

pub returns-then-not-is_known : goal.returns-then-not-is_known
returns-then-not-is_known c =
    unknown_turn c.args.known.now _ _ _ _ c.in-Some.is c.next.ensures.steps c.as_str-name.result.now c.as_str-name.ensures.value
    (sym c.is_known.ensures ∙ c.if-not-is_known.true)
    ∙ c.loop-name.invariant
