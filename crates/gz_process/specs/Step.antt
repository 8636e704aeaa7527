-- A consumer's step: state and item in, state and sends out. Nothing is left free.
use Rattle.std.specs.Prelude.{ℕ, ◌+◌, List, [], ◌∷◌, map, Bool, true, false, Option, Some, None, is_some, if◌then◌else◌}
use Rattle.gz_wire.specs.declared.msg.Msg.{Msg}
use Rattle.gz_wire.specs.declared.msg.Msg.TheVariants.{KsTxnOk, KsTxnNo, KsSince, KsSinceDone, KsChange, AppendDone, ReadDone}
use Rattle.gz_replica.specs.Member.{send}
use Rattle.gz_replica.specs.Opening.{keys}
use Rattle.gz_process.specs.Processes.{Question, Process, begins}
use Rattle.gz_process.specs.Asking.{Polled, question_of}
use Rattle.gz_process.specs.Answers.{Answer, Made, Refused, Appended, Given}
use Rattle.gz_process.specs.Rules.{polls, answered, gives_up, is_stopped}
use Rattle.gz_process.specs.Consumers.{Processes, Consumer, Item, Deliver, Watch, Poll, GiveUp, Restart, Outcome, idle, process_of, with_process}
use Rattle.gz_process.specs.Changing.{on_change, on_changes}

-- ---- commands

abbrev pub after_poll : Consumer → List ℕ → Polled → Outcome
after_poll c shard out = record { consumer = record c { processes = with_process shard out.process c.processes; requests = c.requests + out.numbered }; sends = out.sends }

abbrev pub polls_if : Consumer → List ℕ → ℕ → Option Process → Outcome
polls_if c shard now None = idle c
polls_if c shard now (Some p) = after_poll c shard (polls c.name c.mirror c.requests now p)

abbrev pub restarts_if : Consumer → List ℕ → Option Process → Outcome
restarts_if c shard None = idle c
restarts_if c shard (Some p) = if is_stopped p.phase then idle (record c { processes = with_process shard (begins p.definition) c.processes }) else idle c

abbrev pub gives_up_all : Consumer → Outcome
gives_up_all c = idle (record c { processes = map (λ e. (e.0, gives_up e.1)) c.processes })

abbrev pub watches : Consumer → Outcome
watches c = record { consumer = record c { requests = c.requests + 1 }; sends = send keys (KsSince (c.requests + 1) c.mirror.revision) ∷ [] }

-- ---- answers

-- the process that asked under this number takes the answer
abbrev pub takes_if : ℕ → Answer → Option Question → Process → Process
takes_if req answer None p = p
takes_if req answer (Some question) p = answered req question answer p

abbrev pub answer_in : ℕ → Answer → Processes → Processes
answer_in req answer [] = []
answer_in req answer (e ∷ es) =
    if is_some (question_of req e.1.asked)
    then (e.0, takes_if req answer (question_of req e.1.asked) e.1) ∷ es
    else e ∷ answer_in req answer es

abbrev pub on_answer : ℕ → Answer → Consumer → Outcome
on_answer req answer c = idle (record c { processes = answer_in req answer c.processes })

-- ---- messages

abbrev pub from_node : Msg → Consumer → Outcome
from_node (KsTxnOk req revision) c = on_answer req (Made revision) c
from_node (KsTxnNo req status key revision) c = on_answer req Refused c
from_node (KsSinceDone req head changes) c = idle (on_changes changes c)
from_node (KsChange revision writes) c = idle (on_change (record { revision = revision; writes = writes }) c)
from_node (AppendDone req journal status begin end value labels route) c = on_answer req (Appended (record { status = status; begin = begin; end = end; registers = labels })) c
from_node (ReadDone req journal status offset content head route) c = on_answer req (Given (record { status = status; offset = offset; content = content; head = head })) c
from_node msg c = idle c

-- what another node may send to a consumer
abbrev pub is_of_nodes : Msg → Bool
is_of_nodes (KsTxnOk req revision) = true
is_of_nodes (KsTxnNo req status key revision) = true
is_of_nodes (KsSinceDone req head changes) = true
is_of_nodes (KsChange revision writes) = true
is_of_nodes (AppendDone req journal status begin end value labels route) = true
is_of_nodes (ReadDone req journal status offset content head route) = true
is_of_nodes msg = false

-- a client's messages do nothing
abbrev pub step : Consumer → Item → Outcome
step c (Deliver from client msg) = if client then idle c else from_node msg c
step c Watch = watches c
step c (Poll shard now) = polls_if c shard now (process_of shard c.processes)
step c GiveUp = gives_up_all c
step c (Restart shard) = restarts_if c shard (process_of shard c.processes)
