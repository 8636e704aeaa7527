-- What is answered of a verdict, clause by clause.
use Rattle.std.proofs.Common.{sym, ◌∙◌}
use Rattle.gz_ctl.proofs.Verdicts.{promise_kept, usage_prefix, verdict_done, verdict_refused, verdict_fault, verdict_prefix, verdict_answer, verdict_complete, verdict_no_usage, verdict_no_want}
use Rattle.gz_ctl.proofs.command.gazctl.Goals as goal

pub returns-in-Err-clause-exactly_once : goal.returns-in-Err-clause-exactly_once
returns-in-Err-clause-exactly_once g c = promise_kept (record { said = c.a_scenario_is_what_its_lines_say.ensures.said; once = c.every_run_is_exactly_once.ensures.once; users = c.every_run_is_exactly_once.ensures.users; lines = c.every_run_is_exactly_once.ensures.lines; rests = c.a_settle_ends_every_run.ensures; told = c.what_a_report_tells_is_so.ensures.caught; settled_told = c.what_a_report_tells_is_so.ensures.settled }) _

pub returns-in-Ok-clause-exactly_once : goal.returns-in-Ok-clause-exactly_once
returns-in-Ok-clause-exactly_once g c = promise_kept (record { said = c.a_scenario_is_what_its_lines_say.ensures.said; once = c.every_run_is_exactly_once.ensures.once; users = c.every_run_is_exactly_once.ensures.users; lines = c.every_run_is_exactly_once.ensures.lines; rests = c.a_settle_ends_every_run.ensures; told = c.what_a_report_tells_is_so.ensures.caught; settled_told = c.what_a_report_tells_is_so.ensures.settled }) _

pub returns-in-Ok-clause-usage : goal.returns-in-Ok-clause-usage
returns-in-Ok-clause-usage g c = λ is. absurd (verdict_no_usage _ _ _ _ _ _ _ c.in-Ok.ensures.verdict c.say.ensures.answers is)

pub returns-in-Ok-clause-done : goal.returns-in-Ok-clause-done
returns-in-Ok-clause-done g c = verdict_done (record { said = c.a_scenario_is_what_its_lines_say.ensures.said; once = c.every_run_is_exactly_once.ensures.once; users = c.every_run_is_exactly_once.ensures.users; lines = c.every_run_is_exactly_once.ensures.lines; rests = c.a_settle_ends_every_run.ensures; told = c.what_a_report_tells_is_so.ensures.caught; settled_told = c.what_a_report_tells_is_so.ensures.settled }) _ _ _ _ _ _ _ _ _ c.in-Ok.ensures.verdict c.say.ensures.answers (rw c.as_slice.ensures at c.say.ensures.said)

pub returns-in-Ok-clause-bad_input : goal.returns-in-Ok-clause-bad_input
returns-in-Ok-clause-bad_input g c = verdict_refused _ _ _ _ _ _ _ _ _ c.in-Ok.ensures.verdict c.say.ensures.answers (rw c.as_slice.ensures at c.say.ensures.said)

pub returns-in-Ok-clause-read_fault : goal.returns-in-Ok-clause-read_fault
returns-in-Ok-clause-read_fault g c = verdict_fault _ _ _ _ _ _ _ _ _ c.in-Ok.ensures.verdict c.say.ensures.answers (rw c.as_slice.ensures at c.say.ensures.said)

pub returns-in-Ok-clause-write_fault : goal.returns-in-Ok-clause-write_fault
returns-in-Ok-clause-write_fault g c = λ is. (c.say.ensures.fault is, verdict_prefix _ _ _ _ _ _ _ _ _ (sym c.is_replay.ensures ∙ c.if-is_replay.true) c.in-Ok.ensures.verdict (rw c.as_slice.ensures at (c.say.ensures.prefix is)))

pub returns-in-Ok-clause-no_memory : goal.returns-in-Ok-clause-no_memory
returns-in-Ok-clause-no_memory g c = λ is. absurd (verdict_no_want _ _ _ _ _ _ _ c.in-Ok.ensures.verdict c.say.ensures.answers is)

pub returns-in-Ok-clause-answers : goal.returns-in-Ok-clause-answers
returns-in-Ok-clause-answers g c = verdict_answer _ _ _ _ _ _ _ c.in-Ok.ensures.verdict c.say.ensures.answers

pub returns-in-Ok-clause-complete : goal.returns-in-Ok-clause-complete
returns-in-Ok-clause-complete g c = λ command has. verdict_complete _ _ _ _ _ _ _ _ has c.in-Ok.ensures.verdict c.say.ensures.answers c.say.ensures.fault

pub returns-clause-exactly_once : goal.returns-clause-exactly_once
returns-clause-exactly_once g c = promise_kept (record { said = c.a_scenario_is_what_its_lines_say.ensures.said; once = c.every_run_is_exactly_once.ensures.once; users = c.every_run_is_exactly_once.ensures.users; lines = c.every_run_is_exactly_once.ensures.lines; rests = c.a_settle_ends_every_run.ensures; told = c.what_a_report_tells_is_so.ensures.caught; settled_told = c.what_a_report_tells_is_so.ensures.settled }) _

pub returns-clause-write_fault : goal.returns-clause-write_fault
returns-clause-write_fault g c = λ is. (c.say-2.ensures.fault is, usage_prefix _ _ _ _ _ (sym c.is_replay.ensures ∙ c.if-is_replay.false) (c.say-2.ensures.prefix is))
