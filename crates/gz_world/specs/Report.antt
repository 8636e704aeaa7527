-- The report of a world.
use Rattle.std.specs.Prelude.{ℕ, List, [], ◌∷◌, ◌++◌, length, map, flat_map, Option, Some, None, if◌then◌else◌, codes}
use Rattle.std.specs.Fmt.{decimal}
use Rattle.std.specs.Ordering.{nat_cmp}
use Rattle.std.specs.Cmp.Lexicographic.{slice_cmp}
use Rattle.std.specs.BTreeMap.{insert_entry}
use Rattle.gz_spec.specs.Framings.{framing_in}
use Rattle.gz_spec.specs.declared.framing.Framing.{Framing}
use Rattle.gz_spec.specs.declared.framing.Framing.TheVariants.{Lines, FixedFrames, RecoveryLog, Bytes}
use Rattle.gz_spec.specs.Records.{JournalSpec}
use Rattle.gz_label.specs.declared.entry.Entry.{Entry}
use Rattle.gz_journal.specs.JournalList.{text_of, end_of, registers_of}
use Rattle.gz_client.specs.Answers.{answer_text, labels_text}
use Rattle.gz_promise.specs.Journals.{Journal, entries_of}
use Rattle.gz_plain.specs.Reports as plain
use Rattle.gz_plain.specs.Shards as shards
use Rattle.gz_plain.specs.declared.report.ShardReport.{ShardReport}
use Rattle.gz_world.specs.declared.reply.Reason.{Reason}
use Rattle.gz_world.specs.declared.reply.Reason.TheVariants.{NameUsed, NoRoute, BadSpecs, MembersFull, NoMember, KeysEnd}
use Rattle.gz_world.specs.declared.reply.Told.{Told}
use Rattle.gz_world.specs.declared.reply.Told.TheVariants.{Replied, Refused}
use Rattle.gz_world.specs.Worlds.{World}

-- ---- what was told

abbrev pub reason_text : Reason → List ℕ
reason_text NameUsed = codes "name used"
reason_text NoRoute = codes "no route"
reason_text BadSpecs = codes "bad specs"
reason_text MembersFull = codes "members full"
reason_text NoMember = codes "no member"
reason_text KeysEnd = codes "keys end"

-- `reply LINE CLIENT ANSWER`, or `refused LINE REASON`
abbrev pub told_line : Told → List ℕ
told_line (Replied line client answer) = codes "reply " ++ decimal line ++ codes " " ++ client ++ codes " " ++ answer_text answer ++ codes "\n"
told_line (Refused line reason) = codes "refused " ++ decimal line ++ codes " " ++ reason_text reason ++ codes "\n"

-- ---- journals

-- the journals in name order, each with what it holds
abbrev pub put_journals : List JournalSpec → List (List ℕ × Framing) → List (List ℕ × Framing)
put_journals [] entries = entries
put_journals (j ∷ js) entries = put_journals js (insert_entry (slice_cmp nat_cmp) entries j.name (framing_in j.labels))

abbrev pub in_name_order : List JournalSpec → List (List ℕ × Framing)
in_name_order journals = put_journals journals []

-- `journal NAME END COMMITTED REGISTERS`
abbrev pub journal_of : List ℕ → ℕ → ℕ → List ℕ → List ℕ
journal_of name end committed registers =
    codes "journal " ++ name ++ codes " " ++ decimal end ++ codes " " ++ decimal committed ++ codes " " ++ registers ++ codes "\n"

-- END is the end of the journal's text, COMMITTED the number of its committed messages, and REGISTERS its registers, or `-`
-- where there are none
abbrev pub journal_text : List ℕ → List Entry → List ℕ
journal_text name entries = journal_of name (end_of entries) (plain.count_committed (text_of entries)) (labels_text (registers_of entries))

-- a recovery log has no line
abbrev pub line_if : Framing → List ℕ → List ℕ
line_if Lines line = line
line_if FixedFrames line = line
line_if RecoveryLog line = []
line_if Bytes line = line

abbrev pub journal_line : List Journal → List ℕ × Framing → List ℕ
journal_line js e = line_if e.1 (journal_text e.0 (entries_of e.0 js))

-- ---- shards

-- Whether a shard has read all that its sources have committed. A disabled one may have, but it takes no steps.
abbrev pub status_of : ShardReport → List ℕ
status_of r = if r.is_caught then codes "caught" else (if r.is_disabled then codes "stalled disabled" else codes "behind")

-- `shard ID COMMITS MESSAGES STATUS STATE`, where MESSAGES is the length of the read order
abbrev pub shard_line : ShardReport → List ℕ
shard_line r =
    codes "shard " ++ r.id ++ codes " " ++ decimal r.commits ++ codes " " ++ decimal r.messages ++ codes " " ++ status_of r ++ codes " " ++ r.store ++ codes "\n"

-- a line for each, in the same order
abbrev pub shard_lines : List ShardReport → List ℕ
shard_lines reports = flat_map shard_line reports

-- ---- the whole

-- What was told in the order of the lines, journals in name order by the specifications of now, and shards in the order of
-- their ids, in which the cluster has them.
abbrev pub report_from : List Told → List JournalSpec → shards.World → List ℕ
report_from told journals cluster =
    flat_map told_line told
    ++ flat_map (journal_line cluster.journals) (in_name_order journals)
    ++ shard_lines (map (plain.report_of cluster.journals) cluster.shards)

abbrev pub report_of : World → List ℕ
report_of w = report_from w.told w.specs.journals w.cluster

-- an empty input starts no world, and its report is empty
abbrev pub report_if : Option World → List ℕ
report_if None = []
report_if (Some w) = report_of w
