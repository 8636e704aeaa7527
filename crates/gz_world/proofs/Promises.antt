-- What every run keeps of its shards.
use Rattle.std.proofs.Common.{◌≡◌, ℕ, ◌+◌, List, [], ◌∷◌, ◌++◌, length, nat_le, append_assoc, append-nil, refl, sym, ap, ◌∙◌, subst, cond, Option, Some, None, Bool, true, false, Result, Ok, Err}
use Rattle.std.specs.Prelude.{⊤}
use Rattle.gz_model.specs.Steps.{◌>>=◌}
use Rattle.gz_spec.specs.Records.{Specs as SpecLists}
use Rattle.std.specs.List.{list_all}
use Rattle.gz_converge.specs.declared.answer.Converged.{Converged}
use Rattle.gz_scenario.specs.Events.{event_of}
use Rattle.gz_scenario.specs.Lawful.{is_start, is_event}
use Rattle.gz_scenario.proofs.Accepted.{event_good}
use Rattle.gz_scenario.specs.declared.error.ScenarioError.{ScenarioError}
use Rattle.gz_scenario.specs.declared.error.ScenarioError.TheVariants.{Limit}
use Rattle.gz_scenario.specs.declared.event.Event.{Event}
use Rattle.gz_scenario.specs.declared.event.Event.TheVariants.{Specs as Begins, Publish, Settle, Converge, Apply, Join, Expire}
use Rattle.gz_promise.specs.Order.{AreInOrder}
use Rattle.gz_plain.specs.Rests.{AllRest, wirings_of}
use Rattle.gz_plain.specs.Promise.{AllCommitLines, AllExactlyOnce, AllServe}
use Rattle.gz_plain.specs.Reports.{AllTellCaught, AllUpToDate}
use Rattle.gz_plain.specs.Shards as shards
use Rattle.gz_plain.proofs.Promises.{all_exactly_once_after, all_lines_after, all_serve, all_rest_after, all_tell_after, all_up_to_date_after}
use Rattle.gz_world.specs.Worlds.{World, converged_if, settled, IsRun}
use Rattle.gz_world.specs.Run.{Scenario, max_input, started, judged, judged_first, with_event, read_on, outcome_from, AreSaid, IsSaid, IsLawful}
use Rattle.gz_world.proofs.Events.{step, same_ok, passed}
use Rattle.gz_world.proofs.Good.{are_good}
use Rattle.gz_world.proofs.Happened.{run_is_tied}
use Rattle.gz_world.proofs.Wired.{in_order}

-- ---- what lines say

-- further lines say further events of a scenario
record GoesOn (number : ℕ) (lines : List (List ℕ)) (s t : Scenario) : Type 0 where
  begun : t.begun ≡ s.begun
  more : List (ℕ × Event)
  events : t.events ≡ s.events ++ more
  lawful : list_all (λ h. is_event h.1) more ≡ true
  said : AreSaid number lines more

-- what one line says
record Takes (number : ℕ) (line : List ℕ) (s u : Scenario) : Type 0 where
  event : Event
  said : event_of number line ≡ Ok event
  is : u ≡ with_event number event s

line_taken : (number before : ℕ) (line : List ℕ) (s u : Scenario) → judged number before line s ≡ Ok u → Takes number line s u
line_taken number before line s u is =
    let said = passed (nat_le (before + length line) max_input) (event_of number line >>= λ e. Ok (with_event number e s)) (Limit number) u is in
    let t = step (event_of number line) (λ e. Ok (with_event number e s)) u said in
    record { event = t.0; said = t.1; is = sym (same_ok (with_event number t.0 s) u t.2) }

goes_further : (number : ℕ) (line : List ℕ) (lines : List (List ℕ)) (s u v : Scenario) → Takes number line s u → GoesOn (number + 1) lines u v → GoesOn number (line ∷ lines) s v
goes_further number line lines s u v t g = record {
  begun = g.begun ∙ ap (λ (x : Scenario). x.begun) t.is;
  more = (number, t.event) ∷ g.more;
  events = g.events ∙ ap (λ (x : Scenario). x.events ++ g.more) t.is ∙ append_assoc s.events ((number, t.event) ∷ []) g.more;
  lawful = rw (event_good number line t.event t.said, g.lawful) refl;
  said = (refl, t.said, g.said);
}

goes_on : (lines : List (List ℕ)) (number before : ℕ) (s v : Scenario) → read_on lines number before s ≡ Ok v → GoesOn number lines s v
goes_on [] number before s v is =
    subst (λ (x : Scenario). GoesOn number [] s x) (same_ok s v is) (record { begun = refl; more = []; events = sym (append-nil s.events); lawful = refl; said = tt })
goes_on (line ∷ lines) number before s v is =
    let t = step (judged number before line s) (λ next. read_on lines (number + 1) (before + length line) next) v is in
    goes_further number line lines s t.0 v (line_taken number before line s t.0 t.1) (goes_on lines (number + 1) (before + length line) t.0 v t.2)

-- the first line starts a scenario
record Starts (line : List ℕ) (s : Scenario) : Type 0 where
  start : is_start s.begun ≡ true
  said : event_of 1 line ≡ Ok (Begins s.begun)
  events : s.events ≡ []

begun_by : (line : List ℕ) (e : Event) (s : Scenario) → event_of 1 line ≡ Ok e → started e ≡ Ok s → Starts line s
begun_by line (Begins specs) s said is =
    subst (λ (x : Scenario). Starts line x) (same_ok (record { begun = specs; events = [] }) s is) (record {
      start = event_good 1 line (Begins specs) said;
      said = said;
      events = refl;
    })
begun_by line (Publish p) s said is = absurd (cc)
begun_by line Settle s said is = absurd (cc)
begun_by line Converge s said is = absurd (cc)
begun_by line (Apply more) s said is = absurd (cc)
begun_by line (Join j) s said is = absurd (cc)
begun_by line (Expire name) s said is = absurd (cc)

some_of : (r : Result Scenario ScenarioError) (v : Scenario) → (r >>= λ s. Ok (Some s)) ≡ Ok (Some v) → r ≡ Ok v
some_of (Ok s) v is = cc
some_of (Err e) v is = cc

both_said : (line : List ℕ) (lines : List (List ℕ)) (s v : Scenario) → Starts line s → GoesOn 2 lines s v → IsLawful v × IsSaid (line ∷ lines) v
both_said line lines s v first g =
    let events : v.events ≡ g.more = g.events ∙ ap (λ (es : List (ℕ × Event)). es ++ g.more) first.events in (
      record {
        start = subst (λ (specs : SpecLists). is_start specs ≡ true) (sym g.begun) first.start;
        events = subst (λ (es : List (ℕ × Event)). list_all (λ h. is_event h.1) es ≡ true) (sym events) g.lawful;
      },
      (
        subst (λ (specs : SpecLists). event_of 1 line ≡ Ok (Begins specs)) (sym g.begun) first.said,
        subst (λ (es : List (ℕ × Event)). AreSaid 2 lines es) (sym events) g.said,
      ),
    )

is_said : (lines : List (List ℕ)) (v : Scenario) → outcome_from lines ≡ Ok (Some v) → IsLawful v × IsSaid lines v
is_said [] v is = absurd (cc)
is_said (line ∷ lines) v is =
    let first = step (judged_first line) (λ s. read_on lines 2 (length line) s >>= λ x. Ok (Some x)) (Some v) is in
    let rest = some_of (read_on lines 2 (length line) first.0) v first.2 in
    let said = step (event_of 1 line) (λ e. started e) first.0 first.1 in
    both_said line lines first.0 v (begun_by line said.0 first.0 said.1 said.2) (goes_on lines 2 (length line) first.0 v rest)

-- lines that give a scenario say its events, and these are such as reading accepts
pub outcome_is_lawful : (lines : List (List ℕ)) (v : Scenario) → outcome_from lines ≡ Ok (Some v) → IsLawful v
outcome_is_lawful lines v is = (is_said lines v is).0

pub outcome_is_said : (lines : List (List ℕ)) (v : Scenario) → outcome_from lines ≡ Ok (Some v) → IsSaid lines v
outcome_is_said lines v is = (is_said lines v is).1

-- ---- the laws

pub run_once : (v : World) → IsRun v → AllExactlyOnce v.cluster.journals v.cluster.shards
run_once v r =
    let t = run_is_tied v r in
    subst (λ (c : shards.World). AllExactlyOnce c.journals c.shards) (sym t.reached) (all_exactly_once_after t.happened t.may)

pub run_serves : (v : World) → IsRun v → AllServe v.cluster.journals v.cluster.shards
run_serves v r = all_serve v.cluster.journals v.cluster.shards (run_once v r)

pub run_lines : (v : World) → IsRun v → AllCommitLines v.cluster.journals v.cluster.shards
run_lines v r =
    let t = run_is_tied v r in
    subst (λ (c : shards.World). AllCommitLines c.journals c.shards) (sym t.reached) (all_lines_after t.happened t.may)

-- writers come before readers
ordered : (v : World) (r : IsRun v) → AreInOrder (run_is_tied v r).ranked.0 (wirings_of v.cluster.shards)
ordered v r =
    let t = run_is_tied v r in
    let good = are_good v.specs t.specified.valid in
    in_order t.ranked.0 v.specs.shards v.cluster.shards good.fresh t.ranked.1 t.specified.said

rests : (v : World) → IsRun v → AllRest (settled v).cluster.journals (settled v).cluster.shards
rests v r =
    let t = run_is_tied v r in
    subst (λ (c : shards.World). AllRest (shards.settled c).journals (shards.settled c).shards) (sym t.reached)
    (all_rest_after t.happened t.ranked.0 t.may (subst (λ (c : shards.World). AreInOrder t.ranked.0 (wirings_of c.shards)) t.reached (ordered v r)))

-- a converge changes neither journals nor shards
pub run_rests : (v : World) (answer : Option Converged) → IsRun v → AllRest (settled (converged_if answer v)).cluster.journals (settled (converged_if answer v)).cluster.shards
run_rests v None r = rests v r
run_rests v (Some answer) r = rests v r

pub run_tells : (v : World) → IsRun v → AllTellCaught v.cluster.journals v.cluster.shards
run_tells v r =
    let t = run_is_tied v r in
    subst (λ (c : shards.World). AllTellCaught c.journals c.shards) (sym t.reached) (all_tell_after t.happened t.may)

settled_tells : (v : World) → IsRun v → AllUpToDate (settled v).cluster.journals (settled v).cluster.shards
settled_tells v r = all_up_to_date_after (run_is_tied v r).ranked.0 v.cluster (ordered v r)

pub run_settled_tells : (v : World) (answer : Option Converged) → IsRun v → AllUpToDate (settled (converged_if answer v)).cluster.journals (settled (converged_if answer v)).cluster.shards
run_settled_tells v None r = settled_tells v r
run_settled_tells v (Some answer) r = settled_tells v r
