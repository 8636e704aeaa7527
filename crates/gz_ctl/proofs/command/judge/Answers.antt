use Rattle.std.proofs.Common.{rules, refl, Some, None}
use Rattle.gz_ctl.proofs.Verdicts.{report_is, refusal_is}
use Rattle.gz_ctl.proofs.command.judge.Goals as goal

pub returns-in_ok-text-in-Err-Refused-clause-verdict : goal.returns-in_ok-text-in-Err-Refused-clause-verdict
returns-in_ok-text-in-Err-Refused-clause-verdict g c =
    refusal_is _ c.in-Err-Refused.refusal _ (c.in-Err-Refused.ensures.refused c.in-Err-Refused.refusal (search rules)) c.in_ok-text-in-Err-Refused.ensures

pub returns-in_ok-text-in-Ok-Some-clause-verdict : goal.returns-in_ok-text-in-Ok-Some-clause-verdict
returns-in_ok-text-in-Ok-Some-clause-verdict g c =
    let done = rw c.in-Ok-Some.field-0-is at c.in-Ok-Some.ensures.done in
    let run = rw c.in-Ok-Some.field-0-is at c.in-Ok-Some.ensures.run in
    (report_is _ (Some c.in-Ok-Some.world) _ done run c.in_ok-text-in-Ok-Some.ensures, c.in-Ok-Some.ensures.end)
