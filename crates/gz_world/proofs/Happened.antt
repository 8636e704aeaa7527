-- Worlds of runs: what their events made of the specifications that they began with.
use Rattle.std.proofs.Common.{◌≡◌, ℕ, ◌&&◌, List, [], ◌∷◌, ◌++◌, refl, sym, ap, ◌∙◌, subst, Bool, true, false, Option, Some, None, Result, Ok, Err}
use Rattle.std.specs.List.{list_all}
use Rattle.std.proofs.lemmas.List.{map-append}
use Rattle.gz_spec.specs.Records.{Specs}
use Rattle.gz_scenario.specs.Lawful.{is_start, is_event}
use Rattle.gz_scenario.specs.declared.event.Publish.{Publish as Published}
use Rattle.gz_scenario.specs.declared.event.Event.{Event}
use Rattle.gz_scenario.specs.declared.event.Event.TheVariants.{Specs as Begins, Publish, Settle, Converge, Apply, Join as Joins, Expire}
use Rattle.gz_registry.specs.Registered.{Registered}
use Rattle.gz_converge.specs.declared.answer.Converged.{Converged}
use Rattle.gz_client.specs.Requests.{request_of}
use Rattle.gz_client.specs.declared.answer.Answer.{Answer}
use Rattle.gz_world.specs.declared.reply.Reason.{Reason}
use Rattle.gz_world.specs.Starts.{IsSpecified}
use Rattle.gz_world.specs.Worlds.{World, world_start, answer_to, with_landed, reason_of, told_of, published, judged_apply, with_specs, judged_join, judged_expire, with_registry, converged_if, settled, done, after, after_all, are_events, Step, IsAnswered, AreAnswered, IsRun}
use Rattle.gz_world.specs.Run.{on_its_line, scenario_of, with_event}
use Rattle.gz_world.proofs.Events.{IsRunning, event_tied}
use Rattle.gz_world.proofs.Good.{and_parts}
use Rattle.gz_world.proofs.Tied.{start_tied}

-- ---- what happened before stays

record Keeps (w v : World) : Type 0 where
  begun : v.begun ≡ w.begun
  events : v.events ≡ w.events

told_keeps : (o : Option Reason) (line : ℕ) (name : List ℕ) (answer : Answer) (w v : World) → Keeps w v → Keeps w (told_of o line name answer v)
told_keeps None line name answer w v k = record { begun = k.begun; events = k.events }
told_keeps (Some reason) line name answer w v k = record { begun = k.begun; events = k.events }

published_keeps : (line : ℕ) (p : Published) (w : World) → Keeps w (published line p w)
published_keeps line p w =
    let r = request_of line p in
    let answer = answer_to r p w in
    told_keeps (reason_of answer) line p.client answer w (with_landed answer r p w) (record { begun = refl; events = refl })

specs_keep : (line : ℕ) (more : Specs) (w : World) (r : Result Specs Reason) → Keeps w (with_specs line more w r)
specs_keep line more w (Ok all) = record { begun = refl; events = refl }
specs_keep line more w (Err reason) = record { begun = refl; events = refl }

registry_keeps : (line : ℕ) (w : World) (r : Result Registered Reason) → Keeps w (with_registry line w r)
registry_keeps line w (Ok registry) = record { begun = refl; events = refl }
registry_keeps line w (Err reason) = record { begun = refl; events = refl }

converge_keeps : (answer : Option Converged) (w : World) → Keeps w (converged_if answer w)
converge_keeps None w = record { begun = refl; events = refl }
converge_keeps (Some answer) w = record { begun = refl; events = refl }

settle_keeps : (w v : World) → Keeps w v → Keeps w (settled v)
settle_keeps w v k = record { begun = k.begun; events = k.events }

done_keeps : (line : ℕ) (answer : Option Converged) (e : Event) (w : World) → Keeps w (done line answer e w)
done_keeps line answer (Begins specs) w = record { begun = refl; events = refl }
done_keeps line answer (Publish p) w = published_keeps line p w
done_keeps line answer Settle w = settle_keeps w (converged_if answer w) (converge_keeps answer w)
done_keeps line answer Converge w = converge_keeps answer w
done_keeps line answer (Apply more) w = specs_keep line more w (judged_apply w more)
done_keeps line answer (Joins j) w = registry_keeps line w (judged_join w j)
done_keeps line answer (Expire name) w = registry_keeps line w (judged_expire w name)

abbrev pub step_of : ℕ → Option Converged → Step
step_of line answer = record { line = line; answer = answer }

begun_stays : (s : Step) (e : Event) (w : World) → (after s e w).begun ≡ w.begun
begun_stays s e w = (done_keeps s.line s.answer e w).begun

-- what was done, with the event behind those before, is the world after it
happened : (line : ℕ) (answer : Option Converged) (e : Event) (w v : World) → v ≡ done line answer e w → record v { events = v.events ++ (step_of line answer, e) ∷ [] } ≡ after (step_of line answer) e w
happened line answer e w v is = rw (is, (done_keeps line answer e w).events) refl

pub with_happened : (line : ℕ) (answer : Option Converged) (e : Event) (w v x : World) (s : Step) (events : List (Step × Event)) → x ≡ v → v ≡ done line answer e w → s ≡ step_of line answer → events ≡ x.events ++ (s, e) ∷ []
    → record x { events = events } ≡ after (step_of line answer) e w
with_happened line answer e w v x s events same is step_is events_are = rw (events_are, step_is, same) (happened line answer e w v is)

-- and it has one event more
pub scenario_after : (line : ℕ) (answer : Option Converged) (e : Event) (w v : World) → v ≡ after (step_of line answer) e w → scenario_of v ≡ with_event line e (scenario_of w)
scenario_after line answer e w v is =
    rw (is, begun_stays (step_of line answer) e w, map-append on_its_line w.events ((step_of line answer, e) ∷ [])) refl

-- ---- worlds of runs

pub start_run : (specs : Specs) (w : World) → is_start specs ≡ true → w ≡ world_start specs → IsRun w
start_run specs w good is = rw is (record { start = good; lawful = refl; answered = tt; reached = refl })

more_events : (hs : List (Step × Event)) (h : Step × Event) → are_events hs ≡ true → is_event h.1 ≡ true → are_events (hs ++ h ∷ []) ≡ true
more_events [] h all one = rw one refl
more_events (x ∷ hs) h all one = let p = and_parts (is_event x.1) (are_events hs) all in rw (p.0, more_events hs h p.1 one) refl

after_more : (hs : List (Step × Event)) (h : Step × Event) (w : World) → after_all (hs ++ h ∷ []) w ≡ after h.0 h.1 (after_all hs w)
after_more [] h w = refl
after_more (x ∷ hs) h w = after_more hs h (after x.0 x.1 w)

more_answered : (hs : List (Step × Event)) (h : Step × Event) (w : World) → AreAnswered hs w → IsAnswered h.0.answer h.1 (after_all hs w) → AreAnswered (hs ++ h ∷ []) w
more_answered [] h w all one = (one, tt)
more_answered (x ∷ hs) h w all one = (all.0, more_answered hs h (after x.0 x.1 w) all.1 one)

run_more : (s : Step) (e : Event) (w : World) → is_event e ≡ true → IsAnswered s.answer e w → IsRun w → IsRun (after s e w)
run_more s e w lawful answered r =
    let begun : (after s e w).begun ≡ w.begun = begun_stays s e w in
    let all : AreAnswered (w.events ++ (s, e) ∷ []) (world_start w.begun) =
    more_answered w.events (s, e) (world_start w.begun) r.answered (subst (λ (x : World). IsAnswered s.answer e x) r.reached answered) in
    record {
      start = subst (λ (specs : Specs). is_start specs ≡ true) (sym begun) r.start;
      lawful = more_events w.events (s, e) r.lawful lawful;
      answered = subst (λ (specs : Specs). AreAnswered (w.events ++ (s, e) ∷ []) (world_start specs)) (sym begun) all;
      reached =
          ap (λ (x : World). after s e x) r.reached
          ∙ sym (after_more w.events (s, e) (world_start w.begun))
          ∙ ap (λ (specs : Specs). after_all (w.events ++ (s, e) ∷ []) (world_start specs)) (sym begun);
    }

pub run_after : (line : ℕ) (answer : Option Converged) (e : Event) (w v : World) → is_event e ≡ true → IsAnswered answer e w → v ≡ after (step_of line answer) e w → IsRun w → IsRun v
run_after line answer e w v lawful answered is r = rw is (run_more (step_of line answer) e w lawful answered r)

-- ---- their journals and shards

all_tied : (hs : List (Step × Event)) (w : World) → are_events hs ≡ true → IsRunning w → IsRunning (after_all hs w)
all_tied [] w all t = t
all_tied (h ∷ hs) w all t =
    let p = and_parts (is_event h.1) (are_events hs) all in
    all_tied hs (after h.0 h.1 w) p.1 (event_tied h.0 h.1 w p.0 t)

pub run_is_tied : (w : World) → IsRun w → IsRunning w
run_is_tied w r = subst (λ (x : World). IsRunning x) (sym r.reached) (all_tied w.events (world_start w.begun) r.lawful (start_tied w.begun r.start))

pub run_specified : (w : World) → IsRun w → IsSpecified w.specs w.cluster
run_specified w r = (run_is_tied w r).specified
