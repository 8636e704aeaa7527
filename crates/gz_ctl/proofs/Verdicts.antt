-- What is written of a verdict, and what is answered then.
use Rattle.std.proofs.Common.{◌≡◌, ◌≢◌, ◌⊎◌, inl, inr, Bool, true, false, ℕ, List, Option, Some, None, Ok, Err, option_map, refl, sym, ◌∙◌, subst}
use Rattle.std.specs.Io.KnownBytes.{Appends, IsAtEnd}
use Rattle.gz_model.specs.Faults.{HasRisen}
use Rattle.gz_model.specs.Lines.{lines_of}
use Rattle.gz_model.specs.Told.{AppendsPrefix}
use Rattle.gz_base.specs.declared.exit.Exit.{Exit}
use Rattle.gz_base.specs.declared.exit.Exit.TheVariants.{Done, Usage, BadInput, ReadFault, WriteFault, FileFault, PeerFault, Refused, Lost, NoMemory, Mismatch, HistoryFull, SpawnFault, BadPeer}
use Rattle.gz_scenario.specs.declared.error.ScenarioError.{ScenarioError}
use Rattle.gz_world.specs.Kept.{KeepsPromise}
use Rattle.gz_converge.specs.declared.answer.Converged.{Converged}
use Rattle.gz_world.specs.Worlds.{World, IsRun, converged_if, settled}
use Rattle.gz_world.specs.Report.{report_of, report_if}
use Rattle.gz_world.specs.Run.{Scenario, outcome_of, outcome_from, IsSaid, refusal_line, scenario_of, IsRunIf, IsRunOf}
use Rattle.gz_world.specs.Told.{HasOutcome}
use Rattle.gz_plain.specs.Promise.{AllCommitLines, AllExactlyOnce, AllServe}
use Rattle.gz_plain.specs.Rests.{AllRest}
use Rattle.gz_plain.specs.Reports.{AllTellCaught, AllUpToDate}
use Rattle.gz_ctl.specs.Commands.{usage_text, read_fault_text}
use Rattle.gz_ctl.specs.Answers.{IsVerdict, IsReport, IsRefusal, IsReplayText, WritesReport, WritesRefusal, WritesPrefix, IsAnswer, HasReport, KeepsIf, KeepsAlong}

-- ---- what is written

-- what is promised of each run
pub record Laws : Type 0 where
  pub said : (lines : List (List ℕ)) (s : Scenario) → outcome_from lines ≡ Ok (Some s) → IsSaid lines s
  pub once : (w : World) → IsRun w → AllExactlyOnce w.cluster.journals w.cluster.shards
  pub users : (w : World) → IsRun w → AllServe w.cluster.journals w.cluster.shards
  pub lines : (w : World) → IsRun w → AllCommitLines w.cluster.journals w.cluster.shards
  pub rests : (w : World) (answer : Option Converged) → IsRun w → AllRest (settled (converged_if answer w)).cluster.journals (settled (converged_if answer w)).cluster.shards
  pub told : (w : World) → IsRun w → AllTellCaught w.cluster.journals w.cluster.shards
  pub settled_told : (w : World) (answer : Option Converged) → IsRun w → AllUpToDate (settled (converged_if answer w)).cluster.journals (settled (converged_if answer w)).cluster.shards

keeps : Laws → (w : World) → IsRun w → KeepsPromise w
keeps l w r = record { run = r; once = l.once w r; users = l.users w r; lines = l.lines w r; rests = λ answer. l.rests w answer r; told = l.told w r; settled_told = λ answer. l.settled_told w answer r }

keeps_if : Laws → (w : Option World) → IsRunIf w → KeepsIf w
keeps_if l None r = tt
keeps_if l (Some w) r = keeps l w r

report_written : Laws → (input old new : Option (List ℕ)) (text : List ℕ) → IsReport input text → Appends old new text → WritesReport input old new
report_written l None old new text is put = tt
report_written l (Some input) old new text is put = (is.0, is.1, keeps_if l is.0 is.1.run, rw (← is.2) put)

refusal_written : (input old new : Option (List ℕ)) (text : List ℕ) → IsRefusal input text → Appends old new text → WritesRefusal input old new
refusal_written None old new text is put = tt
refusal_written (Some input) old new text is put = (is.0, is.1, rw (← is.2) put)

report_text : (input : Option (List ℕ)) (risen : Type 0) (text : List ℕ) → IsReport input text → IsReplayText input risen text
report_text None risen text is = tt
report_text (Some input) risen text is = inl is

refused_text : (input : Option (List ℕ)) (risen : Type 0) (text : List ℕ) → IsRefusal input text → IsReplayText input risen text
refused_text None risen text is = tt
refused_text (Some input) risen text is = inr (inl is)

fault_text : (input : Option (List ℕ)) (risen : Type 0) (text : List ℕ) → risen → text ≡ read_fault_text → IsReplayText input risen text
fault_text None risen text rose is = tt
fault_text (Some input) risen text rose is = inr (inr (rose, is))

pub usage_prefix : (command : Bool) (input old new : Option (List ℕ)) (risen : Type 0) → command ≡ false → AppendsPrefix old new usage_text → WritesPrefix command input risen old new
usage_prefix true input old new risen no_command prefix = cc
usage_prefix false input old new risen no_command prefix = (usage_text, refl, prefix)

-- ---- a verdict

text_of : (exit : Exit) (text : List ℕ) (left rest : Option (List ℕ)) (faults risen : ℕ) → IsVerdict exit text left rest faults risen → IsReplayText left (HasRisen faults risen) text
text_of Done text left rest faults risen v = report_text left (HasRisen faults risen) text v.0
text_of BadInput text left rest faults risen v = refused_text left (HasRisen faults risen) text v
text_of ReadFault text left rest faults risen v = fault_text left (HasRisen faults risen) text v.0 v.1
text_of Usage text left rest faults risen v = absurd v
text_of WriteFault text left rest faults risen v = absurd v
text_of FileFault text left rest faults risen v = absurd v
text_of PeerFault text left rest faults risen v = absurd v
text_of Refused text left rest faults risen v = absurd v
text_of Lost text left rest faults risen v = absurd v
text_of NoMemory text left rest faults risen v = absurd v
text_of Mismatch text left rest faults risen v = absurd v
text_of HistoryFull text left rest faults risen v = absurd v
text_of SpawnFault text left rest faults risen v = absurd v
text_of BadPeer text left rest faults risen v = absurd v

prefix_of : (command : Bool) (text : List ℕ) (left old new : Option (List ℕ)) (risen : Type 0) → command ≡ true → IsReplayText left risen text → AppendsPrefix old new text → WritesPrefix command left risen old new
prefix_of true text left old new risen is_one is prefix = (text, is, prefix)
prefix_of false text left old new risen is_one is prefix = cc

-- the text of the verdict was written in part
pub verdict_prefix : (command : Bool) (exit : Exit) (text : List ℕ) (left rest old new : Option (List ℕ)) (faults risen : ℕ) → command ≡ true → IsVerdict exit text left rest faults risen → AppendsPrefix old new text → WritesPrefix command left (HasRisen faults risen) old new
verdict_prefix command exit text left rest old new faults risen is_one v prefix = prefix_of command text left old new (HasRisen faults risen) is_one (text_of exit text left rest faults risen v) prefix

-- an answer that isn't the write fault is the verdict's
same_exit : (result exit answer : Exit) → (result ≡ exit) ⊎ (result ≡ WriteFault) → result ≡ answer → (answer ≡ WriteFault → ⊥) → exit ≡ answer
same_exit result exit answer (inl is) said other = sym is ∙ said
same_exit result exit answer (inr is) said other = absurd (other (sym said ∙ is))

same_result : (result exit answer : Exit) → (result ≡ exit) ⊎ (result ≡ WriteFault) → result ≡ answer → (answer ≡ WriteFault → ⊥) → result ≡ exit
same_result result exit answer says said other = said ∙ sym (same_exit result exit answer says said other)

pub verdict_done : Laws → (result exit : Exit) (text : List ℕ) (left rest old new : Option (List ℕ)) (faults risen : ℕ) → IsVerdict exit text left rest faults risen → (result ≡ exit) ⊎ (result ≡ WriteFault) → (result ≡ exit → Appends old new text)
    → result ≡ Done → WritesReport left old new × IsAtEnd rest
verdict_done l result exit text left rest old new faults risen v says put is =
    let other : Done ≡ WriteFault → ⊥ = λ e. cc in
    let done = subst (λ (e : Exit). IsVerdict e text left rest faults risen) (same_exit result exit Done says is other) v in
    (report_written l left old new text done.0 (put (same_result result exit Done says is other)), done.1)

pub verdict_refused : (result exit : Exit) (text : List ℕ) (left rest old new : Option (List ℕ)) (faults risen : ℕ) → IsVerdict exit text left rest faults risen → (result ≡ exit) ⊎ (result ≡ WriteFault) → (result ≡ exit → Appends old new text)
    → result ≡ BadInput → WritesRefusal left old new
verdict_refused result exit text left rest old new faults risen v says put is =
    let other : BadInput ≡ WriteFault → ⊥ = λ e. cc in
    let refused = subst (λ (e : Exit). IsVerdict e text left rest faults risen) (same_exit result exit BadInput says is other) v in
    refusal_written left old new text refused (put (same_result result exit BadInput says is other))

pub verdict_fault : (result exit : Exit) (text : List ℕ) (left rest old new : Option (List ℕ)) (faults risen : ℕ) → IsVerdict exit text left rest faults risen → (result ≡ exit) ⊎ (result ≡ WriteFault) → (result ≡ exit → Appends old new text)
    → result ≡ ReadFault → HasRisen faults risen × Appends old new read_fault_text
verdict_fault result exit text left rest old new faults risen v says put is =
    let other : ReadFault ≡ WriteFault → ⊥ = λ e. cc in
    let fault = subst (λ (e : Exit). IsVerdict e text left rest faults risen) (same_exit result exit ReadFault says is other) v in
    (fault.0, rw (← fault.1) (put (same_result result exit ReadFault says is other)))

-- a verdict has no other answer
verdict_other : (result exit answer : Exit) (text : List ℕ) (left rest : Option (List ℕ)) (faults risen : ℕ) → IsVerdict exit text left rest faults risen → (result ≡ exit) ⊎ (result ≡ WriteFault) → result ≡ answer → (answer ≡ WriteFault → ⊥)
    → IsVerdict answer text left rest faults risen
verdict_other result exit answer text left rest faults risen v says is other =
    subst (λ (e : Exit). IsVerdict e text left rest faults risen) (same_exit result exit answer says is other) v

exit_answer : (exit : Exit) (text : List ℕ) (left rest : Option (List ℕ)) (faults risen : ℕ) → IsVerdict exit text left rest faults risen → IsAnswer exit
exit_answer Done text left rest faults risen v = tt
exit_answer Usage text left rest faults risen v = tt
exit_answer BadInput text left rest faults risen v = tt
exit_answer ReadFault text left rest faults risen v = tt
exit_answer WriteFault text left rest faults risen v = tt
exit_answer FileFault text left rest faults risen v = v
exit_answer PeerFault text left rest faults risen v = v
exit_answer Refused text left rest faults risen v = v
exit_answer Lost text left rest faults risen v = v
exit_answer NoMemory text left rest faults risen v = tt
exit_answer Mismatch text left rest faults risen v = v
exit_answer HistoryFull text left rest faults risen v = v
exit_answer SpawnFault text left rest faults risen v = v
exit_answer BadPeer text left rest faults risen v = v

-- the verdict's answer, or the write fault, is one that a replay has
pub verdict_answer : (result exit : Exit) (text : List ℕ) (left rest : Option (List ℕ)) (faults risen : ℕ) → IsVerdict exit text left rest faults risen → (result ≡ exit) ⊎ (result ≡ WriteFault) → IsAnswer result
verdict_answer result exit text left rest faults risen v (inl is) = rw is (exit_answer exit text left rest faults risen v)
verdict_answer result exit text left rest faults risen v (inr is) = rw is tt

-- ---- completeness

report_no_refusal : (left : Option (List ℕ)) (text : List ℕ) → HasReport left → IsRefusal left text → ⊥
report_no_refusal None text has refused = has
report_no_refusal (Some input) text has refused = let wrong : Ok has.0 ≡ Err refused.0 = sym has.1 ∙ refused.1 in cc

exit_complete : (result exit : Exit) (text : List ℕ) (left rest : Option (List ℕ)) (faults risen : ℕ) (wrote : Type 0) → HasReport left → IsVerdict exit text left rest faults risen → result ≡ exit → (result ≡ Done) ⊎ ((result ≡ NoMemory) ⊎ (HasRisen faults risen ⊎ wrote))
exit_complete result Done text left rest faults risen wrote has v is = inl is
exit_complete result Usage text left rest faults risen wrote has v is = absurd v
exit_complete result BadInput text left rest faults risen wrote has v is = absurd (report_no_refusal left text has v)
exit_complete result ReadFault text left rest faults risen wrote has v is = inr (inr (inl v.0))
exit_complete result WriteFault text left rest faults risen wrote has v is = absurd v
exit_complete result FileFault text left rest faults risen wrote has v is = absurd v
exit_complete result PeerFault text left rest faults risen wrote has v is = absurd v
exit_complete result Refused text left rest faults risen wrote has v is = absurd v
exit_complete result Lost text left rest faults risen wrote has v is = absurd v
exit_complete result NoMemory text left rest faults risen wrote has v is = absurd v
exit_complete result Mismatch text left rest faults risen wrote has v is = absurd v
exit_complete result HistoryFull text left rest faults risen wrote has v is = absurd v
exit_complete result SpawnFault text left rest faults risen wrote has v is = absurd v
exit_complete result BadPeer text left rest faults risen wrote has v is = absurd v

pub verdict_complete : (result exit : Exit) (text : List ℕ) (left rest : Option (List ℕ)) (faults risen : ℕ) (wrote : Type 0) → HasReport left → IsVerdict exit text left rest faults risen → (result ≡ exit) ⊎ (result ≡ WriteFault) → (result ≡ WriteFault → wrote)
    → (result ≡ Done) ⊎ ((result ≡ NoMemory) ⊎ (HasRisen faults risen ⊎ wrote))
verdict_complete result exit text left rest faults risen wrote has v (inl is) fault = exit_complete result exit text left rest faults risen wrote has v is
verdict_complete result exit text left rest faults risen wrote has v (inr is) fault = inr (inr (inr (fault is)))

-- ---- what a replay comes to

pub report_is : (left : Option (List ℕ)) (w : Option World) (text : List ℕ) → HasOutcome left (Ok (option_map scenario_of w)) → IsRunIf w → text ≡ report_if w → IsReport left text
report_is None w text has run is = tt
report_is (Some input) w text has run is = (w, record { outcome = has; run = run }, is)

pub refusal_is : (left : Option (List ℕ)) (refusal : ScenarioError) (text : List ℕ) → HasOutcome left (Err refusal) → text ≡ refusal_line refusal → IsRefusal left text
refusal_is None refusal text outcome is = tt
refusal_is (Some input) refusal text outcome is = (refusal, outcome, is)

-- the promise of every run is that of this input's
pub promise_kept : Laws → (left : Option (List ℕ)) → KeepsAlong left
promise_kept l None = tt
promise_kept l (Some input) = λ prefix w begins gives run. (l.said prefix (scenario_of w) gives, keeps l w run)

-- a verdict is neither of these
pub verdict_no_usage : (result exit : Exit) (text : List ℕ) (left rest : Option (List ℕ)) (faults risen : ℕ) → IsVerdict exit text left rest faults risen → (result ≡ exit) ⊎ (result ≡ WriteFault) → result ≡ Usage → ⊥
verdict_no_usage result exit text left rest faults risen v says is =
    let other : Usage ≡ WriteFault → ⊥ = λ e. cc in
    verdict_other result exit Usage text left rest faults risen v says is other

pub verdict_no_want : (result exit : Exit) (text : List ℕ) (left rest : Option (List ℕ)) (faults risen : ℕ) → IsVerdict exit text left rest faults risen → (result ≡ exit) ⊎ (result ≡ WriteFault) → result ≡ NoMemory → ⊥
verdict_no_want result exit text left rest faults risen v says is =
    let other : NoMemory ≡ WriteFault → ⊥ = λ e. cc in
    verdict_other result exit NoMemory text left rest faults risen v says is other
