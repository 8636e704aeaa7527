-- How a process plays the log, draws an author, and hands the log over to itself. Each rule of an answer gives the process
-- after it, or None where the process takes nothing.
use Rattle.std.specs.Prelude.{ℕ, ◌+◌, ◌==◌, ◌&&◌, List, [], ◌∷◌, length, Bool, false, Option, Some, None, is_none, Result, Ok, Err, if◌then◌else◌}
use Rattle.gz_journal.specs.declared.request.Request.{Request}
use Rattle.gz_keyspace.specs.Mirrors.{Mirrored}
use Rattle.gz_recovery.specs.declared.error.RecordError.{RecordError}
use Rattle.gz_playback.specs.Playing.{Player, at, fed, is_at_head}
use Rattle.gz_playback.specs.Handing.{handoff}
use Rattle.gz_process.specs.Processes.{Handing, SeqEnd, Process, ReadsLog, HandsOver, in_phase, stops}
use Rattle.gz_process.specs.Asking.{Appending, From, Added, Want, Polled, quiet, asks, draws}
use Rattle.gz_process.specs.Answers.{Found, Bytes, NoReader, NotYet, NoSense}

-- ---- the log is played

abbrev pub log_read : Process → Want
log_read p = record { question = ReadsLog (at p.player); journal = p.definition.log; body = From (at p.player) }

abbrev pub reads_log : Mirrored → ℕ → Process → Polled
reads_log m base p = asks m base (log_read p ∷ []) (quiet p)

-- bytes that the player refuses aren't taken
abbrev pub fed_log : Process → Player → Option Process
fed_log p player = if is_none player.bad then Some (record p { player = player; at_head = false }) else None

-- a read of the log is answered
abbrev pub on_log : Process → Found → Option Process
on_log p (Bytes content) = fed_log p (fed p.player content)
on_log p NoReader = Some p
on_log p (NotYet head) = Some (record p { at_head = is_at_head head p.player })
on_log p NoSense = None

-- ---- the log is handed over

-- a request that names no selector, as an append
abbrev pub appending_of : Request → Appending
appending_of r = record { offset = r.offset; selector = []; take = r.take; add = r.add; content = r.content }

abbrev pub handing_over : Process → Request → Want
handing_over p r = record { question = HandsOver (length r.content); journal = p.definition.log; body = Added (appending_of r) }

-- once it is sent the process is Handing
abbrev pub once_sent : Polled → Polled
once_sent out = if out.numbered == 0 then out else record out { process = in_phase Handing out.process }

abbrev pub hands_with : Mirrored → ℕ → Process → Result Request RecordError → Polled
hands_with m base p (Err e) = quiet (stops SeqEnd p)
hands_with m base p (Ok r) = once_sent (asks m base (handing_over p r ∷ []) (quiet p))

-- the handoff to its author, behind what it has played
abbrev pub hands : List ℕ → Mirrored → ℕ → Process → ℕ → Polled
hands name m base p author = hands_with m base p (handoff author (record { node = name; req = base + 1 }) p.player)

abbrev pub hands_or_draws : List ℕ → Mirrored → ℕ → Process → Option ℕ → Polled
hands_or_draws name m base p None = draws name base p
hands_or_draws name m base p (Some author) = hands name m base p author

-- ---- polls

-- A primary that has played the whole log goes on; every other process plays.
abbrev pub polls_playing : List ℕ → Bool → Mirrored → ℕ → Process → Polled
polls_playing name primary m base p = if primary && p.at_head then hands_or_draws name m base p p.author else reads_log m base p

abbrev pub polls_handing : List ℕ → Mirrored → ℕ → Process → Option ℕ → Polled
polls_handing name m base p None = quiet p
polls_handing name m base p (Some author) = hands name m base p author
