-- What a run of the command answers and writes.
use Rattle.std.specs.Prelude.{◌≡◌, ℕ, List, ◌⊎◌, Bool, true, false, Option, Some, None, Ok, Err, ⊤}
use Rattle.std.specs.Io.KnownBytes.{Appends, IsAtEnd}
use Rattle.gz_model.specs.Faults.{HasRisen}
use Rattle.gz_model.specs.Lines.{lines_of}
use Rattle.gz_model.specs.Prefix.{IsPrefix}
use Rattle.gz_model.specs.Told.{AppendsPrefix}
use Rattle.gz_scenario.specs.declared.error.ScenarioError.{ScenarioError}
use Rattle.gz_base.specs.declared.exit.Exit.{Exit}
use Rattle.gz_base.specs.declared.exit.Exit.TheVariants.{Done, Usage, BadInput, ReadFault, WriteFault, FileFault, PeerFault, Refused, Lost, NoMemory, Mismatch, HistoryFull, SpawnFault, BadPeer}
use Rattle.gz_world.specs.Kept.{KeepsPromise}
use Rattle.gz_world.specs.Worlds.{World, IsRun}
use Rattle.gz_world.specs.Report.{report_if}
use Rattle.gz_world.specs.Run.{Scenario, outcome_of, outcome_from, IsSaid, refusal_line, scenario_of, IsRunOf}
use Rattle.gz_ctl.specs.Commands.{usage_text, read_fault_text}

-- the promise is kept of the world, where there is one: an empty input starts none
abbrev pub KeepsIf : Option World → Type 0
KeepsIf None = ⊤
KeepsIf (Some w) = KeepsPromise w

-- The report was written of a world of a run of what the bytes say, of which the promise is kept.
abbrev pub WritesReport : Option (List ℕ) → Option (List ℕ) → Option (List ℕ) → Type 0
WritesReport None old new = ⊤
WritesReport (Some input) old new = (w : Option World) × IsRunOf input w × KeepsIf w × Appends old new (report_if w)

-- a line of the bytes is refused, and that was written
abbrev pub WritesRefusal : Option (List ℕ) → Option (List ℕ) → Option (List ℕ) → Type 0
WritesRefusal None old new = ⊤
WritesRefusal (Some input) old new = (refusal : ScenarioError) × (outcome_of input ≡ Err refusal) × Appends old new (refusal_line refusal)

-- the texts of which a prefix was written when the writing failed: the usage, where the words are no command; else a
-- report, a refusal, or the read fault, where the source's count rose
abbrev pub IsReplayText : Option (List ℕ) → Type 0 → List ℕ → Type 0
IsReplayText None risen text = ⊤
IsReplayText (Some input) risen text =
    ((w : Option World) × IsRunOf input w × (text ≡ report_if w)) ⊎ (((refusal : ScenarioError) × (outcome_of input ≡ Err refusal) × (text ≡ refusal_line refusal)) ⊎ (risen × (text ≡ read_fault_text)))

abbrev pub IsText : Bool → Option (List ℕ) → Type 0 → List ℕ → Type 0
IsText false input risen text = text ≡ usage_text
IsText true input risen text = IsReplayText input risen text

abbrev pub WritesPrefix : Bool → Option (List ℕ) → Type 0 → Option (List ℕ) → Option (List ℕ) → Type 0
WritesPrefix command input risen old new = (text : List ℕ) × IsText command input risen text × AppendsPrefix old new text

-- The promise, after each prefix of the lines that gives a scenario: of each world of a run of it, whatever its converges
-- answered.
abbrev pub KeepsAlong : Option (List ℕ) → Type 0
KeepsAlong None = ⊤
KeepsAlong (Some input) =
    (prefix : List (List ℕ)) (w : World) → IsPrefix prefix (lines_of input) → outcome_from prefix ≡ Ok (Some (scenario_of w)) → IsRun w
    → IsSaid prefix (scenario_of w) × KeepsPromise w

-- the answers that a replay has
abbrev pub IsAnswer : Exit → Type 0
IsAnswer Done = ⊤
IsAnswer Usage = ⊤
IsAnswer BadInput = ⊤
IsAnswer ReadFault = ⊤
IsAnswer WriteFault = ⊤
IsAnswer FileFault = ⊥
IsAnswer PeerFault = ⊥
IsAnswer Refused = ⊥
IsAnswer Lost = ⊥
IsAnswer NoMemory = ⊤
IsAnswer Mismatch = ⊥
IsAnswer HistoryFull = ⊥
IsAnswer SpawnFault = ⊥
IsAnswer BadPeer = ⊥

-- the bytes, which are told, give a scenario, or are empty
abbrev pub HasReport : Option (List ℕ) → Type 0
HasReport None = ⊥
HasReport (Some input) = (s : Option Scenario) × (outcome_of input ≡ Ok s)

-- ---- what a replay comes to before anything is written

abbrev pub IsReport : Option (List ℕ) → List ℕ → Type 0
IsReport None text = ⊤
IsReport (Some input) text = (w : Option World) × IsRunOf input w × (text ≡ report_if w)

abbrev pub IsRefusal : Option (List ℕ) → List ℕ → Type 0
IsRefusal None text = ⊤
IsRefusal (Some input) text = (refusal : ScenarioError) × (outcome_of input ≡ Err refusal) × (text ≡ refusal_line refusal)

-- how a replay of what is left ends, and with what text
abbrev pub IsVerdict : Exit → List ℕ → Option (List ℕ) → Option (List ℕ) → ℕ → ℕ → Type 0
IsVerdict Done text left rest faults risen = IsReport left text × IsAtEnd rest
IsVerdict Usage text left rest faults risen = ⊥
IsVerdict BadInput text left rest faults risen = IsRefusal left text
IsVerdict ReadFault text left rest faults risen = HasRisen faults risen × (text ≡ read_fault_text)
IsVerdict WriteFault text left rest faults risen = ⊥
IsVerdict FileFault text left rest faults risen = ⊥
IsVerdict PeerFault text left rest faults risen = ⊥
IsVerdict Refused text left rest faults risen = ⊥
IsVerdict Lost text left rest faults risen = ⊥
IsVerdict NoMemory text left rest faults risen = ⊥
IsVerdict Mismatch text left rest faults risen = ⊥
IsVerdict HistoryFull text left rest faults risen = ⊥
IsVerdict SpawnFault text left rest faults risen = ⊥
IsVerdict BadPeer text left rest faults risen = ⊥
