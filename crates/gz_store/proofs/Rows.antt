-- Small logs, computed.
use Rattle.std.specs.Prelude.{◌≡◌, ℕ, List, [], ◌∷◌, Some, codes, refl, option_and_then}
use Rattle.gz_recovery.specs.Operations.{Op, op_text, op_of, author_text}
use Rattle.gz_recovery.specs.declared.op.OpKind.TheVariants.{Create, Handoff}
use Rattle.gz_recovery.specs.Files.{accepted, fsm_of, file_at}
use Rattle.gz_store.specs.Stores.{Store, store_text, store_read, Good}
use Rattle.gz_store.specs.Commits.{commit_kinds, ops_bytes, commits_of, numbered}
use Rattle.gz_app.specs.declared.state.Kept.TheVariants.{Number}
use Rattle.hex.specs.Hex.{encode_with, decode_pairs}
use lib.Utf8.{encode}
use Rattle.std.specs.Fmt.{digits}
use Rattle.std.specs.Str.Lossy.{utf8_valid_len}
use Rattle.std.specs.Str.{is_utf8, chars}
use Rattle.std.specs.Float.Numeral.{scan_numeral}
use Rattle.json.specs.Print.{escape_byte}
use Rattle.json.specs.Json.{value}
use Rattle.json.specs.Lex.{punctuate, lex}
use Rattle.json.specs.Text.{content, short_escape}
use Rattle.json.specs.Word.{word, after_number}
use Rattle.serde_json.specs.Read.{number_of}

abbrev hand : ℕ → ℕ → Op
hand author seq = record { author = author; seq = seq; kind = Handoff }

hand_text : op_text (hand 18 1) ≡ codes "{\"author\":\"0000000000000012\",\"op\":\"handoff\",\"seq\":1}"
unfolding op_text author_text encode_with escape_byte digits
hand_text = refl

-- an operation of another author is passed over, and so is one out of its number
passed_over : accepted (hand 7 1 ∷ record { author = 8; seq = 2; kind = Create (codes "a") } ∷ record { author = 7; seq = 3; kind = Create (codes "b") } ∷ record { author = 7; seq = 2; kind = Create (codes "c") } ∷ hand 9 3 ∷ [])
    ≡ hand 7 1 ∷ record { author = 7; seq = 2; kind = Create (codes "c") } ∷ hand 9 3 ∷ []
passed_over = refl

abbrev one_key : Store
one_key = record { checkpoint = record { intents = []; sources = [] }; state = (codes "k", Number 5) ∷ [] }

one_key_text : store_text one_key ≡ codes "{\"checkpoint\":{\"intents\":[],\"sources\":[]},\"state\":{\"k\":5}}"
unfolding store_text author_text encode_with escape_byte digits
one_key_text = refl

-- the file after a handoff and a commit
one_key_file : option_and_then (λ s. file_at (codes "state") s.files) (fsm_of (hand 7 1 ∷ numbered 7 2 (commit_kinds 2 (store_text one_key)))) ≡ Some (store_text one_key)
unfolding store_text author_text encode_with escape_byte digits
one_key_file = refl

-- a handoff and a commit as bytes, read back to the commit
abbrev one_key_log : List ℕ
one_key_log = ops_bytes (hand 7 1 ∷ numbered 7 2 (commit_kinds 2 (store_text one_key)))

one_key_recovered : commits_of one_key_log ≡ Good one_key ∷ []
unfolding op_text op_of store_text store_read author_text encode_with escape_byte digits utf8_valid_len is_utf8 chars encode value punctuate lex content word after_number number_of scan_numeral decode_pairs short_escape
one_key_recovered = refl
