-- The request that a publish is.
use Rattle.std.specs.Prelude.{ℕ}
use Rattle.gz_label.specs.declared.entry.Attempt.{Attempt}
use Rattle.gz_journal.specs.JournalList.{plain}
use Rattle.gz_journal.specs.declared.request.Request.{Request}
use Rattle.gz_scenario.specs.declared.event.Publish.{Publish}
use Rattle.gz_client.specs.Contents.{content_of}

-- the attempt of the client with this number
abbrev pub attempt_of : ℕ → Publish → Attempt
attempt_of number p = record { node = p.client; req = number }

-- The lines of the messages, as that attempt. They land wherever the journal ends and whatever its registers are, which
-- stay.
abbrev pub request_of : ℕ → Publish → Request
request_of number p = plain (attempt_of number p) (content_of p)
