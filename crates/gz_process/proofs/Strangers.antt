-- What a consumer and a process don't take.
use Rattle.std.proofs.Common.{arith, ◌≡◌, ℕ, List, [], ◌∷◌, refl, ap, subst, sym, Bool, true, false, cond, Option, None, is_some, length, ◌==◌}
use Rattle.std.proofs.lemmas.Bool.{true≢false, cond_both}
use Rattle.gz_wire.specs.declared.msg.Msg.{Msg}
use Rattle.gz_wire.specs.declared.msg.Msg.TheVariants.{KsTxnOk, KsTxnNo, KsSinceDone, KsChange, AppendDone, ReadDone}
use Rattle.gz_keyspace.specs.Mirrors.{Mirrored}
use Rattle.gz_process.specs.Processes.{Process, Phase, Stopped, Reason, Question, Asked}
use Rattle.gz_process.specs.Asking.{Polled, quiet, question_of, settled}
use Rattle.gz_process.specs.Answers.{Answer}
use Rattle.gz_process.specs.Consumers.{Processes, Consumer, Deliver, Poll, Restart, idle, process_of}
use Rattle.gz_process.specs.Rules.{polls_in, polls, takes, or_stays, answered}
use Rattle.gz_process.specs.Step.{is_of_nodes, from_node, step, takes_if, answer_in, on_answer, polls_if, restarts_if}
use Rattle.gz_process.specs.Laws.{is_asked}

pub client_idle : (from : List ℕ) (msg : Msg) (c : Consumer) → step c (Deliver from true msg) ≡ idle c
client_idle from msg c = refl

nodes_idle : (msg : Msg) (c : Consumer) → is_of_nodes msg ≡ false → from_node msg c ≡ idle c
nodes_idle (KsTxnOk req revision) c e = absurd (true≢false e)
nodes_idle (KsTxnNo req status key revision) c e = absurd (true≢false e)
nodes_idle (KsSinceDone req head changes) c e = absurd (true≢false e)
nodes_idle (KsChange revision writes) c e = absurd (true≢false e)
nodes_idle (AppendDone req j status begin end value labels route) c e = absurd (true≢false e)
nodes_idle (ReadDone req j status offset content head route) c e = absurd (true≢false e)
nodes_idle msg c e = refl

pub node_idle : (from : List ℕ) (msg : Msg) (c : Consumer) → is_of_nodes msg ≡ false → step c (Deliver from false msg) ≡ idle c
node_idle from msg c e = nodes_idle msg c e

-- processes of which none has asked
passed_over : (req : ℕ) (answer : Answer) (ps : Processes) → is_asked req ps ≡ false → answer_in req answer ps ≡ ps
passed_over req answer [] e = refl
passed_over req answer (x ∷ xs) e = at (λ h. passed_over req answer xs h) (is_some (question_of req x.1.asked)) e
  where
    at : (is_asked req xs ≡ false → answer_in req answer xs ≡ xs) → (b : Bool) → cond b true (is_asked req xs) ≡ false →
        cond b ((x.0, takes_if req answer (question_of req x.1.asked) x.1) ∷ xs) (x ∷ answer_in req answer xs) ≡ x ∷ xs
    at f true h = absurd (true≢false h)
    at f false h = ap (λ (ys : Processes). x ∷ ys) (f h)

pub nobody_asked : (req : ℕ) (answer : Answer) (c : Consumer) → is_asked req c.processes ≡ false → on_answer req answer c ≡ idle c
nobody_asked req answer c e = ap (λ (ps : Processes). idle (record c { processes = ps })) (passed_over req answer c.processes e)

pub no_poll : (shard : List ℕ) (now : ℕ) (c : Consumer) → process_of shard c.processes ≡ None → step c (Poll shard now) ≡ idle c
no_poll shard now c e = ap (λ (o : Option Process). polls_if c shard now o) e

pub no_restart : (shard : List ℕ) (c : Consumer) → process_of shard c.processes ≡ None → step c (Restart shard) ≡ idle c
no_restart shard c e = ap (λ (o : Option Process). restarts_if c shard o) e

pub not_taken : (req : ℕ) (question : Question) (answer : Answer) (p : Process) → takes (settled req p) question answer ≡ None → answered req question answer p ≡ p
not_taken req question answer p e = ap (λ (o : Option Process). or_stays p o) e

pub stopped_polls : (name : List ℕ) (m : Mirrored) (base now : ℕ) (p : Process) (reason : Reason) → p.phase ≡ Stopped reason → polls name m base now p ≡ quiet p
stopped_polls name m base now p reason e =
    cond_both (length p.asked == 0) _ _ (λ (o : Polled). o ≡ quiet p) (λ _. ap (λ (f : Phase). polls_in name m base now p f) e) (λ _. refl)

some_waits : (a : Asked) (rest : List Asked) → (length (a ∷ rest) == 0) ≡ false
some_waits a rest = grind arith

pub waits_on : (name : List ℕ) (m : Mirrored) (base now : ℕ) (p : Process) (a : Asked) (rest : List Asked) → p.asked ≡ a ∷ rest → polls name m base now p ≡ quiet p
waits_on name m base now p a rest e =
    ap (λ (b : Bool). cond b (polls_in name m base now p p.phase) (quiet p)) (subst (λ (xs : List Asked). (length xs == 0) ≡ false) (sym e) (some_waits a rest))
