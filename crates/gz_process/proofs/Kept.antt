-- What stays when a process is gone: another one plays the log and takes the shard up from its last commit.
use Rattle.std.specs.Prelude.{◌≡◌, ℕ, List, [], ◌∷◌, ◌++◌, length, Some, None, codes, refl}
use lib.Utf8.{encode}
use Rattle.hex.specs.Hex.{encode_with, decode_pairs}
use Rattle.std.specs.Fmt.{digits}
use Rattle.std.specs.Str.Lossy.{utf8_valid_len}
use Rattle.std.specs.Str.{is_utf8, chars}
use Rattle.std.specs.Float.Numeral.{scan_numeral}
use Rattle.json.specs.Print.{escape_byte}
use Rattle.json.specs.Json.{value}
use Rattle.json.specs.Lex.{punctuate, lex}
use Rattle.json.specs.Text.{content, short_escape}
use Rattle.json.specs.Word.{word, after_number}
use Rattle.serde_json.specs.Read.{number_of}
use Rattle.gz_wire.specs.declared.msg.Msg.TheVariants.{KsTxn, KsTxnOk, Append, Read}
use Rattle.gz_keyspace.specs.Space.{put_of}
use Rattle.gz_fields.specs.Names.{is_id}
use Rattle.gz_frame.specs.Frame.{frame_of}
use Rattle.gz_replica.specs.Member.{send}
use Rattle.gz_replica.specs.Opening.{keys}
use Rattle.gz_recovery.specs.Operations.{author_text, op_text, op_of}
use Rattle.gz_store.specs.Stores.{store_text, store_read}
use Rattle.gz_process.specs.Consumers.{Item, GiveUp}
use Rattle.gz_process.proofs.Rows.{o, a, log, b1, b2, b3, tells, in_turn, begun, polled, bytes, not_yet, landed, hand_frame, author, source_line, out_ack, commit_bytes}

-- It plays the log up to its head, draws 19, hands over behind the commit, and writes the commit's acknowledgement again.
abbrev pub log_bytes : List ℕ
log_bytes = hand_frame ++ commit_bytes

abbrev pub hand_frame_19 : List ℕ
hand_frame_19 = frame_of (codes "{\"author\":\"0000000000000013\",\"op\":\"handoff\",\"seq\":6}")

abbrev pub to_acking : List Item
to_acking =
    polled ∷ bytes 1 log 0 log_bytes
    ∷ polled ∷ not_yet 2 log (length log_bytes)
    ∷ polled ∷ tells keys (KsTxnOk 3 19)
    ∷ polled ∷ landed 4 log (length log_bytes) (length hand_frame_19)
    ∷ polled
    ∷ []

another_takes_up : (in_turn to_acking begun).sends ≡
    send b2 (Read 1 log 0)
    ∷ send b2 (Read 2 log (length log_bytes))
    ∷ send keys (KsTxn 3 [] (put_of (codes "author/s") (codes "c1") ∷ []))
    ∷ send b2 (Append 4 log None (Some (length log_bytes)) [] (author [] ∷ []) (author (codes "0000000000000013") ∷ []) hand_frame_19)
    ∷ send b3 (Append 5 o None None [] [] [] out_ack)
    ∷ []
unfolding author_text op_text op_of store_text store_read encode_with escape_byte digits is_id utf8_valid_len is_utf8 chars encode value punctuate lex content word after_number number_of scan_numeral short_escape decode_pairs
another_takes_up = refl

-- Where that acknowledgement is given up, it is written once more, another producer is drawn, and the source is read on
-- from where the commit has read it.
abbrev pub in_doubt : List Item
in_doubt = GiveUp ∷ polled ∷ landed 6 o 0 (length out_ack) ∷ polled ∷ tells keys (KsTxnOk 7 20) ∷ polled ∷ []

another_producer : (in_turn in_doubt (in_turn to_acking begun).consumer).sends ≡
    send b3 (Append 6 o None None [] [] [] out_ack)
    ∷ send keys (KsTxn 7 [] (put_of (codes "author/s") (codes "c1") ∷ []))
    ∷ send b1 (Read 8 a (length source_line))
    ∷ []
unfolding author_text op_text op_of store_text store_read encode_with escape_byte digits is_id utf8_valid_len is_utf8 chars encode value punctuate lex content word after_number number_of scan_numeral short_escape decode_pairs
another_producer = refl
