-- How a process writes: a transaction's lines, its commit, and its acknowledgements.
use Rattle.std.specs.Prelude.{ℕ, not, List, [], ◌∷◌, ◌++◌, length, map, filter, true, Option, Some, None, unwrap_or, Result, Ok, Err, if◌then◌else◌, codes}
use Rattle.std.specs.Str.{bytes_eq}
use Rattle.gz_keyspace.specs.Mirrors.{Mirrored}
use Rattle.gz_recovery.specs.Operations.{Op, author_text}
use Rattle.gz_recovery.specs.Files.{Fsm, fsm_from}
use Rattle.gz_recovery.specs.declared.error.RecordError.{RecordError}
use Rattle.gz_store.specs.Stores.{Store}
use Rattle.gz_store.specs.Commits.{commit_ops, ops_bytes}
use Rattle.gz_process.specs.Processes.{Publishing, Committing, Fenced, JournalEnd, SeqEnd, Block, Process, Puts, Commits, in_phase, stops, plays_again}
use Rattle.gz_process.specs.Asking.{Appending, plain, Added, Want, Polled, quiet, asks}
use Rattle.gz_process.specs.Answers.{Fate, Landed, Again, NoRoom, Elsewhere, Mismatch, Closed, NoFate}
use Rattle.gz_process.specs.TakingUp.{blocks_of, are_in, acknowledges}

-- ---- lines and acknowledgements

abbrev pub put_of_block : Block → Want
put_of_block b = record { question = Puts b.journal (length b.content); journal = b.journal; body = Added (plain b.content) }

-- what isn't known to be in is appended, all at once
abbrev pub polls_blocks : Mirrored → ℕ → Process → List Block → Polled
polls_blocks m base p blocks = asks m base (map put_of_block (filter (λ b. not b.is_in) blocks)) (quiet p)

abbrev pub put_in : List ℕ → List Block → List Block
put_in journal blocks = map (λ (b : Block). if bytes_eq b.journal journal then record b { is_in = true } else b) blocks

-- An acknowledgement is answered. One that lands or not leaves the process in doubt.
abbrev pub on_ack : Process → List Block → List ℕ → Fate → Option Process
on_ack p blocks journal Landed = Some (acknowledges (put_in journal blocks) p)
on_ack p blocks journal Again = Some p
on_ack p blocks journal NoRoom = Some (stops (JournalEnd journal) p)
on_ack p blocks journal Elsewhere = None
on_ack p blocks journal (Mismatch registers) = None
on_ack p blocks journal Closed = Some (record p { is_in_doubt = true })
on_ack p blocks journal NoFate = None

-- when all lines are in it commits
abbrev pub commits_when_in : List Block → Store → Process → Process
commits_when_in blocks store p = in_phase (if are_in blocks then Committing store else Publishing blocks store) p

-- Lines are answered. Those that land or not are written again: their clocks stay, so a reader takes them once.
abbrev pub on_lines : Process → List Block → Store → List ℕ → Fate → Option Process
on_lines p blocks store journal Landed = Some (commits_when_in (put_in journal blocks) store p)
on_lines p blocks store journal Again = Some p
on_lines p blocks store journal NoRoom = Some (stops (JournalEnd journal) p)
on_lines p blocks store journal Elsewhere = None
on_lines p blocks store journal (Mismatch registers) = None
on_lines p blocks store journal Closed = Some p
on_lines p blocks store journal NoFate = None

-- ---- the commit

-- the operations of a commit of its author, numbered on from the log's files
abbrev pub ops_of : ℕ → Fsm → Store → Result (List Op) RecordError
ops_of author fsm store = commit_ops (record { author = author; next = fsm.next }) store

-- It lands only while its author is the one that the register names.
abbrev pub commit_of : ℕ → List Op → Appending
commit_of author ops = record (plain (ops_bytes ops)) { selector = codes "author=" ++ author_text author }

abbrev pub committing : Process → ℕ → List Op → Want
committing p author ops = record { question = Commits (length (ops_bytes ops)); journal = p.definition.log; body = Added (commit_of author ops) }

abbrev pub commits_with : Mirrored → ℕ → Process → ℕ → Result (List Op) RecordError → Polled
commits_with m base p author (Err e) = quiet (stops SeqEnd p)
commits_with m base p author (Ok ops) = asks m base (committing p author ops ∷ []) (quiet p)

abbrev pub polls_committing : Mirrored → ℕ → Process → Store → Option ℕ → Polled
polls_committing m base p store None = quiet p
polls_committing m base p store (Some author) = commits_with m base p author (ops_of author p.fsm store)

-- the files behind the operations
abbrev pub files_after : Fsm → Result (List Op) RecordError → Fsm
files_after fsm (Err e) = fsm
files_after fsm (Ok ops) = unwrap_or (fsm_from fsm ops) fsm

abbrev pub committed_by : Process → Store → Option ℕ → Option Process
committed_by p store None = None
committed_by p store (Some author) = Some (acknowledges (blocks_of store.checkpoint.intents)
    (record p { fsm = files_after p.fsm (ops_of author p.fsm store); state = store.state }))

-- The commit is answered. One that lands or not is left to whoever plays the log next.
abbrev pub on_commit : Process → Store → Fate → Option Process
on_commit p store Landed = committed_by p store p.author
on_commit p store Again = Some p
on_commit p store NoRoom = Some (stops (JournalEnd p.definition.log) p)
on_commit p store Elsewhere = None
on_commit p store (Mismatch registers) = Some (stops (Fenced registers) p)
on_commit p store Closed = Some (plays_again None p)
on_commit p store NoFate = None
