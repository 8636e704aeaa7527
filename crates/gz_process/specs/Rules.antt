-- All rules of one process: what a poll, an answer and a give-up make of it, phase by phase.
use Rattle.std.specs.Prelude.{ℕ, List, [], true, false, Bool, Option, Some, None, if◌then◌else◌, nat_le}
use Rattle.gz_keyspace.specs.Mirrors.{Mirrored}
use Rattle.gz_process.specs.Processes.{Phase, Playing, Handing, Acking, Drawing, Reading, Publishing, Committing, Stopped, Question, ReadsLog, Draws, HandsOver, Puts, ReadsSource, Commits, Process, in_phase, plays_again, authored, redrawn}
use Rattle.gz_process.specs.Views.{is_primary}
use Rattle.gz_process.specs.Asking.{Polled, quiet, draws, is_idle, settled}
use Rattle.gz_process.specs.Answers.{Fate, Found, Answer, Made, Refused, Appended, Given, fate_of, found_at, max_draw}
use Rattle.gz_process.specs.Playing.{polls_playing, polls_handing, on_log}
use Rattle.gz_process.specs.TakingUp.{on_handoff}
use Rattle.gz_process.specs.Reading.{polls_reading, on_source}
use Rattle.gz_process.specs.Writing.{polls_blocks, polls_committing, on_ack, on_lines, on_commit}

-- ---- polls

abbrev pub polls_in : List ℕ → Mirrored → ℕ → ℕ → Process → Phase → Polled
polls_in name m base now p Playing = polls_playing name (is_primary name p.definition.id m) m base p
polls_in name m base now p Handing = polls_handing name m base p p.author
polls_in name m base now p (Acking blocks) = polls_blocks m base p blocks
polls_in name m base now p Drawing = draws name base p
polls_in name m base now p (Reading before got) = polls_reading m base now p
polls_in name m base now p (Publishing blocks store) = polls_blocks m base p blocks
polls_in name m base now p (Committing store) = polls_committing m base p store p.author
polls_in name m base now p (Stopped reason) = quiet p

-- A poll of a process of the consumer of this name, which has numbered so many requests. While one isn't answered a poll
-- does nothing.
abbrev pub polls : List ℕ → Mirrored → ℕ → ℕ → Process → Polled
polls name m base now p = if is_idle p then polls_in name m base now p p.phase else quiet p

-- ---- answers; None where nothing is taken

abbrev pub on_draw : Process → ℕ → Phase → Option Process
on_draw p draw Playing = Some (authored draw p)
on_draw p draw Drawing = Some (redrawn draw p)
on_draw p draw phase = None

abbrev pub on_log_in : Process → Found → Phase → Option Process
on_log_in p found Playing = on_log p found
on_log_in p found phase = None

abbrev pub on_handoff_in : Process → Fate → Phase → Option Process
on_handoff_in p fate Handing = on_handoff p fate
on_handoff_in p fate phase = None

-- a process that has stopped takes what still comes without effect
abbrev pub on_put : Process → List ℕ → Fate → Phase → Option Process
on_put p journal fate (Acking blocks) = on_ack p blocks journal fate
on_put p journal fate (Publishing blocks store) = on_lines p blocks store journal fate
on_put p journal fate (Stopped reason) = Some p
on_put p journal fate phase = None

abbrev pub on_commit_in : Process → Fate → Phase → Option Process
on_commit_in p fate (Committing store) = on_commit p store fate
on_commit_in p fate phase = None

abbrev pub on_source_in : Process → List ℕ → Found → Phase → Option Process
on_source_in p journal found (Reading now got) = on_source p now got journal found
on_source_in p journal found phase = None

-- the answer to a question, where the question waits no more
abbrev pub takes : Process → Question → Answer → Option Process
takes p (ReadsLog offset) (Given r) = on_log_in p (found_at offset r) p.phase
takes p Draws (Made revision) = if nat_le revision max_draw then on_draw p revision p.phase else None
takes p Draws Refused = Some p
takes p (HandsOver len) (Appended d) = on_handoff_in p (fate_of len d) p.phase
takes p (Puts journal len) (Appended d) = on_put p journal (fate_of len d) p.phase
takes p (ReadsSource journal offset) (Given r) = on_source_in p journal (found_at offset r) p.phase
takes p (Commits len) (Appended d) = on_commit_in p (fate_of len d) p.phase
takes p question answer = None

abbrev pub or_stays : Process → Option Process → Process
or_stays p None = p
or_stays p (Some q) = q

-- What isn't taken leaves the process as it is, and the request unanswered.
abbrev pub answered : ℕ → Question → Answer → Process → Process
answered req question answer p = or_stays p (takes (settled req p) question answer)

-- ---- what is given up: it lands or not

abbrev pub given_up_in : Process → Phase → Process
given_up_in p Playing = p
given_up_in p Handing = plays_again None p
given_up_in p (Acking blocks) = record p { is_in_doubt = true }
given_up_in p Drawing = p
given_up_in p (Reading now got) = in_phase (Reading now []) p
given_up_in p (Publishing blocks store) = p
given_up_in p (Committing store) = plays_again None p
given_up_in p (Stopped reason) = p

abbrev pub gives_up : Process → Process
gives_up p = if is_idle p then p else given_up_in (record p { asked = [] }) p.phase

-- ---- restarts

abbrev pub is_stopped : Phase → Bool
is_stopped (Stopped reason) = true
is_stopped phase = false
