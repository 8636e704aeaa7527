-- What is told of journals and shards.
use Rattle.std.specs.Prelude.{◌≡◌, ℕ, List, [], ◌∷◌, length, Bool, true, false, ⊤, ◌⊎◌}
use Rattle.serde_json.specs.Written.{compact_text}
use Rattle.gz_frame.specs.Messages.{Message}
use Rattle.gz_app.specs.States.{state_data}
use Rattle.gz_sequencer.specs.Committed.{committed, released_in}
use Rattle.gz_promise.specs.Journals.{Journal}
use Rattle.gz_promise.specs.Promise.{ReadsAll}
use Rattle.gz_plain.specs.Promise.{account_of, IfKept}
use Rattle.gz_plain.specs.Shards.{Shard, has_room, read_order, untaken}
use Rattle.gz_plain.specs.declared.report.ShardReport.{ShardReport}

-- how many messages of a text are committed
abbrev pub count_committed : List ℕ → ℕ
count_committed text = length (released_in (committed 0 text))

abbrev pub is_none : List Message → Bool
is_none [] = true
is_none (m ∷ ms) = false

-- A shard is caught up where it has read all that its sources have committed.
abbrev pub report_of : List Journal → Shard → ShardReport
report_of js s = record {
  id = s.id;
  commits = length s.commits;
  messages = length (read_order js s);
  is_caught = is_none (untaken js s);
  is_disabled = s.is_disabled;
  store = compact_text (state_data s.store);
}

-- ---- what is told is so

-- A shard is told to be caught up exactly where nothing that its sources have committed is left to read.
pub record TellsCaught (js : List Journal) (s : Shard) : Type 0 where
  pub so : (report_of js s).is_caught ≡ true → ReadsAll (account_of js s)
  pub told : ReadsAll (account_of js s) → (report_of js s).is_caught ≡ true

-- the same of every shard that kept its definition
abbrev pub AllTellCaught : List Journal → List Shard → Type 0
AllTellCaught js [] = ⊤
AllTellCaught js (s ∷ ss) = IfKept s.past (TellsCaught js s) × AllTellCaught js ss

-- a shard isn't behind: it is told to be caught up, or disabled, or it has no clocks left for what it would take
abbrev pub IsUpToDate : List Journal → Shard → Type 0
IsUpToDate js s = ((report_of js s).is_caught ≡ true) ⊎ (((report_of js s).is_disabled ≡ true) ⊎ (has_room (untaken js s) s ≡ false))

abbrev pub AllUpToDate : List Journal → List Shard → Type 0
AllUpToDate js [] = ⊤
AllUpToDate js (s ∷ ss) = IfKept s.past (IsUpToDate js s) × AllUpToDate js ss
