-- Runs, worked out by hand and computed: a lone member that opens and takes an append, two members, and a primary whose
-- route is taken away before its answer.
use Rattle.std.specs.Prelude.{◌≡◌, ℕ, List, [], ◌∷◌, map, ◌++◌, suc, zero, Option, Some, None, false, codes, refl}
use lib.Utf8.{encode}
use Rattle.std.specs.Fmt.{digits}
use Rattle.std.specs.Str.Lossy.{utf8_valid_len}
use Rattle.std.specs.Str.{is_utf8, chars}
use Rattle.json.specs.Json.{value}
use Rattle.json.specs.Lex.{punctuate, lex}
use Rattle.json.specs.Text.{content}
use Rattle.json.specs.Print.{escape_byte}
use Rattle.json.specs.Word.{word, after_number}
use Rattle.serde_json.specs.Read.{number_of}
use Rattle.std.specs.Float.Numeral.{scan_numeral}
use Rattle.gz_fields.specs.Names.{is_id, is_journal_name}
use Rattle.gz_spec.specs.Records.{JournalSpec, MemberSpec, Specs}
use Rattle.gz_spec.specs.Journals.{journal_of, journal_at, journal_with, fragment_in}
use Rattle.gz_spec.specs.Labels.{labels_in}
use Rattle.gz_spec.specs.Reserved.{is_reserved, is_numbered}
use Rattle.gz_print.specs.Printed.{journal_text}
use Rattle.gz_wire.specs.declared.msg.Msg.{Msg}
use Rattle.gz_wire.specs.declared.msg.Msg.TheVariants.{KsTxn, KsTxnOk, KsChange, Promise, Replicate, Held, Head, Append, AppendDone, StoreList, StoreNames}
use Rattle.gz_lineage.specs.Marks.{Reset, Added}
use Rattle.gz_cluster.specs.Cluster.{Letter}
use Rattle.gz_cluster.specs.Events.{Event, Converge, Take, Lose, Expire, Appends, start, run, said_in}
use Rattle.gz_cluster.specs.Ledger.{ledger_of}

abbrev pub x : List ℕ
x = codes "x"

abbrev pub b1 : List ℕ
b1 = codes "b1"

abbrev pub b2 : List ℕ
b2 = codes "b2"

abbrev pub k1 : List ℕ
k1 = codes "k1"

-- a journal without labels, which asks for so many members
abbrev pub journal : ℕ → JournalSpec
journal replication = record { name = x; replication = replication; labels = []; fragment_length = 67108864 }

abbrev pub broker : List ℕ → List ℕ → MemberSpec
broker id zone = record { id = id; zone = zone; limit = 16 }

abbrev pub alone : Specs
alone = record { journals = journal 1 ∷ []; shards = []; brokers = broker b1 (codes "z1") ∷ []; consumers = [] }

abbrev pub two : Specs
two = record { journals = journal 2 ∷ []; shards = []; brokers = broker b1 (codes "z1") ∷ broker b2 (codes "z2") ∷ []; consumers = [] }

-- who sends whom what
pub record Line : Type 0 where
  pub from : List ℕ
  pub to : List ℕ
  pub msg : Msg

abbrev pub line : Letter → Line
line l = record { from = l.from; to = l.to; msg = l.msg }

abbrev pub says : List ℕ → List ℕ → Msg → Line
says from to msg = record { from = from; to = to; msg = msg }

-- the oldest message is taken, so many times
abbrev pub drains : ℕ → List Event
drains zero = []
drains (suc n) = Take 0 ∷ drains n

abbrev pub opens_alone : List Event
opens_alone = Converge ((x, b1) ∷ []) [] ∷ drains 5

-- a lone member opens: all that is said
pub alone_says : map line (said_in opens_alone (start alone)) ≡
    says (codes "keys") b1 (KsChange 3 (record { key = codes "route/x"; value = Some b1 } ∷ []))
    ∷ says b1 (codes "store") (StoreList 1 x)
    ∷ says (codes "store") b1 (StoreNames 1 x [])
    ∷ says b1 (codes "keys") (KsTxn 2 (record { key = codes "route/x"; mod_revision = 3 } ∷ []) (record { key = codes "sync/x"; value = Some (codes "3") } ∷ []))
    ∷ says (codes "keys") b1 (KsTxnOk 2 4)
    ∷ says (codes "keys") b1 (KsChange 4 (record { key = codes "sync/x"; value = Some (codes "3") } ∷ []))
    ∷ []
unfolding is_id digits journal_of journal_at journal_with is_journal_name utf8_valid_len is_utf8 chars value punctuate lex content encode journal_text escape_byte word after_number number_of scan_numeral labels_in fragment_in is_reserved is_numbered
alone_says = refl

-- its append is answered in the step that takes it
abbrev pub append_abc : Event
append_abc = Appends k1 b1 x None None [] [] [] (codes "abc")

pub alone_answers : map line (said_in (append_abc ∷ Take 1 ∷ []) (run opens_alone (start alone))) ≡
    says k1 b1 (Append 1 x None None [] [] [] (codes "abc"))
    ∷ says b1 k1 (AppendDone 1 x 0 0 3 0 [] [])
    ∷ []
unfolding is_id digits journal_of journal_at journal_with is_journal_name utf8_valid_len is_utf8 chars value punctuate lex content encode journal_text escape_byte word after_number number_of scan_numeral labels_in fragment_in is_reserved is_numbered
alone_answers = refl

pub alone_ledger : (ledger_of x (opens_alone ++ append_abc ∷ Take 1 ∷ []) (start alone)).marks ≡
    Reset ∷ Added (record { attempt = record { node = k1; req = 1 }; bytes = codes "abc"; registers = [] }) ∷ []
unfolding is_id digits journal_of journal_at journal_with is_journal_name utf8_valid_len is_utf8 chars value punctuate lex content encode journal_text escape_byte word after_number number_of scan_numeral labels_in fragment_in is_reserved is_numbered
alone_ledger = refl

abbrev pub opens_two : List Event
opens_two = Converge ((x, b1) ∷ (x, b2) ∷ []) [] ∷ Take 0 ∷ []

-- the primary of a route of two asks the store and the other member
pub two_says : map line (said_in opens_two (start two)) ≡
    says (codes "keys") b1 (KsChange 4 (record { key = codes "route/x"; value = Some (codes "b1,b2") } ∷ []))
    ∷ says (codes "keys") b2 (KsChange 4 (record { key = codes "route/x"; value = Some (codes "b1,b2") } ∷ []))
    ∷ says b1 (codes "store") (StoreList 1 x)
    ∷ says b1 b2 (Promise x 4)
    ∷ []
unfolding is_id digits journal_of journal_at journal_with is_journal_name utf8_valid_len is_utf8 chars value punctuate lex content encode journal_text escape_byte word after_number number_of scan_numeral labels_in fragment_in is_reserved is_numbered
two_says = refl

-- an append before it is open is refused, with the route's epoch
pub not_open_yet : map line (said_in (append_abc ∷ Take 3 ∷ []) (run opens_two (start two))) ≡
    says k1 b1 (Append 1 x None None [] [] [] (codes "abc"))
    ∷ says b1 k1 (AppendDone 1 x 4 0 0 4 [] [])
    ∷ []
unfolding is_id digits journal_of journal_at journal_with is_journal_name utf8_valid_len is_utf8 chars value punctuate lex content encode journal_text escape_byte word after_number number_of scan_numeral labels_in fragment_in is_reserved is_numbered
not_open_yet = refl

abbrev pub replicated : List Line
replicated =
    says k1 b1 (Append 1 x None None [] [] [] (codes "abc"))
    ∷ says b1 b2 (Replicate x 4 0 (record { attempt = record { node = k1; req = 1 }; bytes = codes "abc"; registers = [] }) 0)
    ∷ []

-- the append is answered once the other member holds it
pub two_answers : map line (said_in (append_abc ∷ drains 3) (run (opens_two ++ drains 12) (start two))) ≡
    replicated
    ++ says b2 b1 (Held x 4 3)
    ∷ says b1 k1 (AppendDone 1 x 0 0 3 0 [] [])
    ∷ says b1 b2 (Head x 4 3 0)
    ∷ []
unfolding is_id digits journal_of journal_at journal_with is_journal_name utf8_valid_len is_utf8 chars value punctuate lex content encode journal_text escape_byte word after_number number_of scan_numeral labels_in fragment_in is_reserved is_numbered
two_answers = refl

-- b2's lease ends, and b1 is told of its new route before b2 has answered
abbrev pub taken_away : List Event
taken_away = append_abc ∷ Take 0 ∷ Lose 0 ∷ Expire b2 ∷ Lose 1 ∷ Converge ((x, b1) ∷ []) [] ∷ drains 2

-- A greater epoch is promised before the answer: it goes out as closed, with that epoch.
pub two_closes : map line (said_in taken_away (run (opens_two ++ drains 12) (start two))) ≡
    replicated
    ++ says (codes "keys") b1 (KsChange 6 (record { key = codes "member/b2"; value = None } ∷ []))
    ∷ says (codes "keys") b2 (KsChange 6 (record { key = codes "member/b2"; value = None } ∷ []))
    ∷ says (codes "keys") b1 (KsChange 7 (record { key = codes "route/x"; value = Some b1 } ∷ []))
    ∷ says (codes "keys") b2 (KsChange 7 (record { key = codes "route/x"; value = Some b1 } ∷ []))
    ∷ says b1 k1 (AppendDone 1 x 10 0 0 7 [] [])
    ∷ says b1 (codes "store") (StoreList 3 x)
    ∷ []
unfolding is_id digits journal_of journal_at journal_with is_journal_name utf8_valid_len is_utf8 chars value punctuate lex content encode journal_text escape_byte word after_number number_of scan_numeral labels_in fragment_in is_reserved is_numbered
two_closes = refl
