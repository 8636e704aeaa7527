-- What a judgement says of a journal.
use Rattle.std.specs.Prelude.{◌≡◌, ℕ, List}
use Rattle.gz_label.specs.declared.label.Label.{Label}
use Rattle.gz_label.specs.declared.entry.Entry.{Entry}
use Rattle.gz_journal.specs.declared.request.Request.{Request}
use Rattle.gz_journal.specs.JournalList.{end_of, registers_of, judgement, judged_of, appended}

-- What is known of a request to a journal of these entries.
pub record Lands (entries : List Entry) (r : Request) : Type 0 where
  -- a judgement by the same end and the same registers is the journal's own
  pub judged : (end : ℕ) (registers : List Label) → end ≡ end_of entries → registers ≡ registers_of entries → judgement end registers r ≡ judged_of entries r
  -- the registers behind the request are those that it says
  pub after : registers_of (appended (judged_of entries r) r entries) ≡ (judged_of entries r).after
