-- Steps, worked out by hand and computed: an assignment, a handoff, and a whole cycle over an empty log and a source of one
-- message.
use Rattle.std.specs.Prelude.{◌≡◌, ℕ, ◌+◌, List, [], ◌∷◌, ◌++◌, length, Some, None, Ok, false, codes, refl}
use lib.Utf8.{encode}
use Rattle.hex.specs.Hex.{encode_with, decode_pairs}
use Rattle.std.specs.Fmt.{digits}
use Rattle.std.specs.Str.Lossy.{utf8_valid_len}
use Rattle.std.specs.Str.{is_utf8, chars}
use Rattle.std.specs.Float.Numeral.{scan_numeral}
use Rattle.json.specs.Print.{escape_byte}
use Rattle.json.specs.Json.{value}
use Rattle.json.specs.Lex.{punctuate, lex}
use Rattle.json.specs.Text.{content, short_escape}
use Rattle.json.specs.Word.{word, after_number}
use Rattle.serde_json.specs.Read.{number_of}
use Rattle.gz_label.specs.declared.label.Label.{Label}
use Rattle.gz_wire.specs.declared.msg.Msg.{Msg}
use Rattle.gz_wire.specs.declared.msg.Msg.TheVariants.{KsTxn, KsTxnOk, KsChange, Append, AppendDone, Read, ReadDone}
use Rattle.gz_wire.specs.declared.msg.Send.{Send}
use Rattle.gz_keyspace.specs.declared.table.Held.{Held}
use Rattle.gz_keyspace.specs.Mirrors.{Mirrored}
use Rattle.gz_keyspace.specs.Space.{put_of}
use Rattle.gz_fields.specs.Names.{is_id}
use Rattle.gz_spec.specs.Records.{ShardSpec}
use Rattle.gz_spec.specs.Shards.{shard_of}
use Rattle.gz_app.specs.declared.app.AppKind.TheVariants.{Count}
use Rattle.gz_app.specs.declared.state.Kept.TheVariants.{Number}
use Rattle.gz_frame.specs.Frame.{frame_of}
use Rattle.gz_frame.specs.Line.{line_of}
use Rattle.gz_frame.specs.Text.{message_of}
use Rattle.gz_replica.specs.Member.{send}
use Rattle.gz_replica.specs.Opening.{keys}
use Rattle.gz_recovery.specs.Operations.{author_text, op_text}
use Rattle.gz_store.specs.Stores.{Store, store_text}
use Rattle.gz_store.specs.Commits.{ops_bytes, numbered, commit_kinds}
use Rattle.uuid.specs.Text.{by_index}
use Rattle.gz_process.specs.Processes.{Definition, begins}
use Rattle.gz_process.specs.Consumers.{Consumer, Item, Deliver, Poll, Outcome, idle, new_consumer}
use Rattle.gz_process.specs.Step.{step}

-- ---- runs of one consumer: the consumer after items, and all that it sends

abbrev pub and_sends : List Send → Outcome → Outcome
and_sends sends out = record out { sends = sends ++ out.sends }

abbrev pub in_turn : List Item → Consumer → Outcome
in_turn [] c = idle c
in_turn (i ∷ is) c = and_sends (step c i).sends (in_turn is (step c i).consumer)

-- ---- the consumer c1, with a mirror of these routes and of the shard s: from `a` to `o`, its log at `l/s`

abbrev pub a : List ℕ
a = codes "a"

abbrev pub o : List ℕ
o = codes "o"

abbrev pub log : List ℕ
log = codes "l/s"

abbrev pub b1 : List ℕ
b1 = codes "b1"

abbrev pub b2 : List ℕ
b2 = codes "b2"

abbrev pub b3 : List ℕ
b3 = codes "b3"

abbrev pub held : List ℕ → ℕ → Held
held value revision = record { value = value; mod_revision = revision }

abbrev pub spec : ShardSpec
spec = record {
  id = codes "s";
  sources = record { journal = a; min_offset = 0 } ∷ [];
  recovery_log_prefix = codes "l";
  hint_prefix = codes "hint";
  hint_backups = 0;
  hot_standbys = 0;
  disable = false;
  labels = record { name = codes "app"; value = codes "count" } ∷ record { name = codes "output"; value = o } ∷ [];
}

-- where the shard's key has this text
abbrev pub mirror : List ℕ → Mirrored
mirror text = record {
  revision = 8;
  keys =
      (codes "route/a", held b1 5)
      ∷ (codes "route/l/s", held b2 6)
      ∷ (codes "route/o", held b3 7)
      ∷ (codes "shard/s", held text 3)
      ∷ [];
}

abbrev pub shard_s : Definition
shard_s = record { id = codes "s"; log = log; sources = record { journal = a; min_offset = 0 } ∷ []; outputs = o ∷ []; app = Count }

abbrev pub tells : List ℕ → Msg → Item
tells from msg = Deliver from false msg

-- ---- the shard is assigned, and a process begins

assigned : (text : List ℕ) → shard_of text ≡ Ok spec
    → (step (new_consumer (codes "c1") (mirror text)) (tells keys (KsChange 9 (put_of (codes "assign/s") (codes "c1") ∷ [])))).consumer.processes ≡ (codes "s", begins shard_s) ∷ []
unfolding is_id
assigned text e = rw e refl

-- ---- a process of it that has begun

abbrev pub begun : Consumer
begun = record {
  name = codes "c1";
  mirror = record (mirror []) { revision = 9; keys = (codes "assign/s", held (codes "c1") 9) ∷ (mirror []).keys };
  processes = (codes "s", begins shard_s) ∷ [];
  requests = 0;
}

abbrev pub polled : Item
polled = Poll (codes "s") 0

abbrev pub bytes : ℕ → List ℕ → ℕ → List ℕ → Item
bytes req journal offset content = tells b1 (ReadDone req journal 0 offset content (offset + length content) [])

abbrev pub not_yet : ℕ → List ℕ → ℕ → Item
not_yet req journal head = tells b1 (ReadDone req journal 3 0 [] head [])

abbrev pub landed : ℕ → List ℕ → ℕ → ℕ → Item
landed req journal begin len = tells b1 (AppendDone req journal 0 begin (begin + len) 0 [] [])

-- an answer of another status
abbrev pub refused : ℕ → List ℕ → ℕ → Item
refused req journal status = tells b1 (AppendDone req journal status 0 0 0 [] [])

-- ---- it plays an empty log, draws 18, and hands the log over to it

abbrev pub hand_frame : List ℕ
hand_frame = frame_of (codes "{\"author\":\"0000000000000012\",\"op\":\"handoff\",\"seq\":1}")

abbrev pub author : List ℕ → Label
author text = record { name = codes "author"; value = text }

abbrev pub handoff : List Item
handoff =
    polled ∷ not_yet 1 log 0
    ∷ polled ∷ tells keys (KsTxnOk 2 18)
    ∷ polled ∷ landed 3 log 0 (length hand_frame)
    ∷ []

handoff_sends : (in_turn handoff begun).sends ≡
    send b2 (Read 1 log 0)
    ∷ send keys (KsTxn 2 [] (put_of (codes "author/s") (codes "c1") ∷ []))
    ∷ send b2 (Append 3 log None (Some 0) [] (author [] ∷ []) (author (codes "0000000000000012") ∷ []) hand_frame)
    ∷ []
unfolding author_text op_text encode_with escape_byte digits is_id
handoff_sends = refl

-- ---- it reads a message, emits a line, commits, acknowledges, and reads on

abbrev pub source_line : List ℕ
source_line = codes "{\"key\":\"k\",\"uuid\":\"00000001-0000-1000-8001-030000000001\",\"value\":\"v\"}\n"

abbrev pub out_line : List ℕ
out_line = codes "{\"key\":\"k\",\"uuid\":\"00000000-0000-1000-8400-050000000012\",\"value\":\"1\"}\n"

abbrev pub out_ack : List ℕ
out_ack = codes "{\"key\":\"\",\"uuid\":\"00000000-0000-1000-8802-050000000012\",\"value\":\"\"}\n"

abbrev pub store_one : Store
store_one = record {
  checkpoint = record {
    intents = record { journal = o; line = out_ack } ∷ [];
    sources = record { journal = a; point = record { offset = length source_line; producers = (3 ∷ 0 ∷ 0 ∷ 0 ∷ 0 ∷ 1 ∷ [], record { ack = Some 16; pending = None }) ∷ [] } } ∷ [];
  };
  state = (codes "k", Number 1) ∷ [];
}

abbrev pub commit_bytes : List ℕ
commit_bytes = ops_bytes (numbered 18 2 (commit_kinds 2 (store_text store_one)))

abbrev pub to_commit : List Item
to_commit =
    polled ∷ bytes 4 a 0 source_line
    ∷ polled ∷ landed 5 o 0 (length out_line)
    ∷ polled
    ∷ []

abbrev pub from_commit : List Item
from_commit =
    landed 6 log (length hand_frame) (length commit_bytes)
    ∷ polled ∷ landed 7 o (length out_line) (length out_ack)
    ∷ polled
    ∷ []

cycle_sends : (in_turn (to_commit ++ from_commit) (in_turn handoff begun).consumer).sends ≡
    send b1 (Read 4 a 0)
    ∷ send b3 (Append 5 o None None [] [] [] out_line)
    ∷ send b2 (Append 6 log None None (codes "author=0000000000000012") [] [] commit_bytes)
    ∷ send b3 (Append 7 o None None [] [] [] out_ack)
    ∷ send b1 (Read 8 a (length source_line))
    ∷ []
unfolding author_text op_text store_text encode_with escape_byte digits is_id utf8_valid_len is_utf8 chars encode value punctuate lex content word after_number number_of scan_numeral short_escape decode_pairs message_of line_of by_index
cycle_sends = refl
