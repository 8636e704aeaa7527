-- How a process is fenced, refused, closed, dropped and demoted, and that a standby only plays: runs, computed.
use Rattle.std.specs.Prelude.{◌≡◌, ℕ, List, [], ◌∷◌, ◌++◌, Option, Some, None, Ok, codes, refl}
use lib.Utf8.{encode}
use Rattle.hex.specs.Hex.{encode_with, decode_pairs}
use Rattle.std.specs.Fmt.{digits}
use Rattle.std.specs.Str.Lossy.{utf8_valid_len}
use Rattle.std.specs.Str.{is_utf8, chars}
use Rattle.std.specs.Float.Numeral.{scan_numeral}
use Rattle.json.specs.Print.{escape_byte}
use Rattle.json.specs.Json.{value}
use Rattle.json.specs.Lex.{punctuate, lex}
use Rattle.json.specs.Text.{content, short_escape}
use Rattle.json.specs.Word.{word, after_number}
use Rattle.serde_json.specs.Read.{number_of}
use Rattle.gz_wire.specs.declared.msg.Msg.TheVariants.{AppendDone, KsChange, Read}
use Rattle.gz_keyspace.specs.Space.{put_of}
use Rattle.gz_fields.specs.Names.{is_id}
use Rattle.gz_spec.specs.Shards.{shard_of}
use Rattle.gz_frame.specs.Line.{line_of}
use Rattle.gz_frame.specs.Text.{message_of}
use Rattle.gz_replica.specs.Member.{send}
use Rattle.gz_replica.specs.Opening.{keys}
use Rattle.gz_recovery.specs.Operations.{author_text, op_text}
use Rattle.gz_store.specs.Stores.{store_text}
use Rattle.uuid.specs.Text.{by_index}
use Rattle.gz_process.specs.Processes.{Process, Phase, Playing, Committing, Stopped, Fenced, begins}
use Rattle.gz_process.specs.Consumers.{Consumer, Item, GiveUp, Restart, process_of}
use Rattle.gz_process.proofs.Rows.{log, b2, held, spec, mirror, shard_s, tells, in_turn, begun, polled, not_yet, refused, author, handoff, to_commit, store_one}

-- the phase of the shard's process, behind items
abbrev pub phase_of : Option Process → Option Phase
phase_of None = None
phase_of (Some p) = Some p.phase

abbrev pub phase_after : List Item → Consumer → Option Phase
phase_after items c = phase_of (process_of (codes "s") (in_turn items c).consumer.processes)

-- its commit is sent, request 6, and waits
abbrev pub to_answer : List Item
to_answer = handoff ++ to_commit

-- ---- what the commit is answered

-- another author is in the register: it stops, and knows which registers there were
fenced : phase_after (to_answer ++ tells b2 (AppendDone 6 log 9 0 0 0 (author (codes "0000000000000013") ∷ []) []) ∷ []) begun ≡
    Some (Stopped (Fenced (author (codes "0000000000000013") ∷ [])))
unfolding author_text op_text store_text encode_with escape_byte digits is_id utf8_valid_len is_utf8 chars encode value punctuate lex content word after_number number_of scan_numeral short_escape decode_pairs message_of line_of by_index
fenced = refl

-- then it may begin anew
restarted : (in_turn (to_answer ++ tells b2 (AppendDone 6 log 9 0 0 0 [] []) ∷ Restart (codes "s") ∷ []) begun).consumer.processes ≡ (codes "s", begins shard_s) ∷ []
unfolding author_text op_text store_text encode_with escape_byte digits is_id utf8_valid_len is_utf8 chars encode value punctuate lex content word after_number number_of scan_numeral short_escape decode_pairs message_of line_of by_index
restarted = refl

-- closed: it lands or not, and the process plays the log again
closed : phase_after (to_answer ++ refused 6 log 10 ∷ []) begun ≡ Some Playing
unfolding author_text op_text store_text encode_with escape_byte digits is_id utf8_valid_len is_utf8 chars encode value punctuate lex content word after_number number_of scan_numeral short_escape decode_pairs message_of line_of by_index
closed = refl

given_up : phase_after (to_answer ++ GiveUp ∷ []) begun ≡ Some Playing
unfolding author_text op_text store_text encode_with escape_byte digits is_id utf8_valid_len is_utf8 chars encode value punctuate lex content word after_number number_of scan_numeral short_escape decode_pairs message_of line_of by_index
given_up = refl

-- the primary isn't open: the same commit is sent again
not_open : phase_after (to_answer ++ refused 6 log 4 ∷ []) begun ≡ Some (Committing store_one)
unfolding author_text op_text store_text encode_with escape_byte digits is_id utf8_valid_len is_utf8 chars encode value punctuate lex content word after_number number_of scan_numeral short_escape decode_pairs message_of line_of by_index
not_open = refl

-- ---- the shard's list is written

abbrev pub listed : List ℕ → Item
listed ids = tells keys (KsChange 10 (put_of (codes "assign/s") ids ∷ []))

-- the consumer isn't among them any more
dropped : (in_turn (handoff ++ listed (codes "c2") ∷ []) begun).consumer.processes ≡ []
unfolding author_text op_text encode_with escape_byte digits is_id
dropped = refl

-- it was first, and isn't any more
demoted : (text : List ℕ) → shard_of text ≡ Ok spec
    → (in_turn (listed (codes "c2,c1") ∷ []) (record begun { mirror = record begun.mirror { keys = (codes "assign/s", held (codes "c1") 9) ∷ (mirror text).keys } })).consumer.processes ≡ (codes "s", begins shard_s) ∷ []
unfolding is_id
demoted text e = rw e refl

-- it stays first: the process goes on
stays_first : phase_after (to_answer ++ listed (codes "c1,c2") ∷ []) begun ≡ Some (Committing store_one)
unfolding author_text op_text store_text encode_with escape_byte digits is_id utf8_valid_len is_utf8 chars encode value punctuate lex content word after_number number_of scan_numeral short_escape decode_pairs message_of line_of by_index
stays_first = refl

-- ---- a standby

-- at the head it goes on reading, and draws nothing
stands_by : (in_turn (polled ∷ not_yet 1 log 0 ∷ polled ∷ []) (record begun { name = codes "c2" })).sends ≡
    send b2 (Read 1 log 0) ∷ send b2 (Read 2 log 0) ∷ []
unfolding is_id
stands_by = refl
