-- Scenarios of bytes that are told.
use Rattle.std.proofs.Common.{◌≡◌, ℕ, List, [], length, refl, Option, Some, None, Result, Ok, Err, IsErrAnd, sym, subst}
use Rattle.gz_model.specs.Told.{ahead, TakesLine}
use Rattle.gz_scenario.specs.declared.error.ScenarioError.{ScenarioError}
use Rattle.gz_world.specs.declared.replays.ReplayError.{ReplayError}
use Rattle.gz_world.specs.declared.replays.ReplayError.TheVariants.{Refused}
use Rattle.gz_world.specs.Run.{Scenario, judged, judged_first}
use Rattle.gz_world.specs.Told.{HasOutcome, ReadsOn, GoesOn, IsLong, TakesNext}
use Rattle.gz_world.proofs.Lines.{long_judged, long_first}

-- the first line starts a scenario, and the others are refused
pub goes_refused : (all now : Option (List ℕ)) (line : List ℕ) (w : Scenario) (refusal : ScenarioError) → TakesLine all now line → judged_first line ≡ Ok w → ReadsOn now (length line) w (Err refusal) → HasOutcome all (Err refusal)
goes_refused None now line w refusal takes judged runs = tt
goes_refused (Some all) None line w refusal takes judged runs = elim takes [ ]
goes_refused (Some all) (Some now) line w refusal takes judged runs = rw (takes, judged, runs) refl

-- the first line starts a scenario, and the others make another of it
pub goes_done : (all now : Option (List ℕ)) (line : List ℕ) (w v : Scenario) → TakesLine all now line → judged_first line ≡ Ok w → ReadsOn now (length line) w (Ok v) → HasOutcome all (Ok (Some v))
goes_done None now line w v takes judged runs = tt
goes_done (Some all) None line w v takes judged runs = elim takes [ ]
goes_done (Some all) (Some now) line w v takes judged runs = rw (takes, judged, runs) refl

-- nothing is read before the first line
pub nothing_read : (left : Option (List ℕ)) (outcome : Result (Option Scenario) ScenarioError) → HasOutcome (ahead [] left) outcome → HasOutcome left outcome
nothing_read None outcome has = tt
nothing_read (Some left) outcome has = has

-- the error that a `?` hands on
pub handed_on : {A : Type 0} (result : Result A ReplayError) (P : ReplayError → Type 0) (refusal : ScenarioError) → IsErrAnd result P → result ≡ Err (Refused refusal) → P (Refused refusal)
handed_on (Ok a) P refusal holds is = cc
handed_on (Err e) P refusal holds is = let same : e ≡ Refused refusal = cc in subst P same holds

-- ---- a line that is too long

goes_long : (all now : Option (List ℕ)) (first : ℕ) (start : Scenario) (number bytes : ℕ) (w : Scenario) (refusal : ScenarioError) → GoesOn all now first start number bytes w → IsLong refusal number now
    → ReadsOn all first start (Err refusal)
goes_long None now first start number bytes w refusal goes long = tt
goes_long (Some all) None first start number bytes w refusal goes long = elim goes [ ]
goes_long (Some all) (Some now) first start number bytes w refusal goes long = rw (goes, long.1.2, long_judged number bytes long.1.0 w long.1.3, long.0) refl

pub next_long : (e : ReplayError) (all now new left : Option (List ℕ)) (first : ℕ) (start : Scenario) (number bytes : ℕ) (w : Scenario) (refusal : ScenarioError) → Refused refusal ≡ e
    → TakesNext (Err e) number now new left → GoesOn all now first start number bytes w → ReadsOn all first start (Err refusal)
next_long e all now new left first start number bytes w refusal is takes goes =
    goes_long all now first start number bytes w refusal goes (subst (λ (x : ReplayError). TakesNext (Err x) number now new left) (sym is) takes)

starts_long : (all : Option (List ℕ)) (refusal : ScenarioError) → IsLong refusal 1 all → HasOutcome all (Err refusal)
starts_long None refusal long = tt
starts_long (Some all) refusal long = rw (long.1.2, long_first long.1.0 long.1.3, long.0) refl

pub first_too_long : (e : ReplayError) (all new left : Option (List ℕ)) (refusal : ScenarioError) → Refused refusal ≡ e → TakesNext (Err e) 1 all new left → HasOutcome all (Err refusal)
first_too_long e all new left refusal is takes = starts_long all refusal (subst (λ (x : ReplayError). TakesNext (Err x) 1 all new left) (sym is) takes)
