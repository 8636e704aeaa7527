-- Handover, of runs worked out by hand: it holds while the lone member runs that opened and took an append, and ends when
-- that member crashes, since nothing of the journal is stored. So the premise of the statements is neither empty nor
-- always there.
use Rattle.std.proofs.Common.{◌≡◌, ◌++◌, List, [], ◌∷◌, ℕ, suc, zero, refl, subst, sym, inl, inr, arith, Bool, true, false}
use Rattle.std.proofs.lemmas.Bool.{false≢true}
use Rattle.std.specs.List.{IsAmong}
use Rattle.std.specs.Prelude.{codes}
use lib.Utf8.{encode}
use Rattle.std.specs.Fmt.{digits}
use Rattle.std.specs.Str.Lossy.{utf8_valid_len}
use Rattle.std.specs.Str.{is_utf8, chars}
use Rattle.json.specs.Json.{value}
use Rattle.json.specs.Lex.{punctuate, lex}
use Rattle.json.specs.Text.{content}
use Rattle.json.specs.Print.{escape_byte}
use Rattle.json.specs.Word.{word, after_number}
use Rattle.serde_json.specs.Read.{number_of}
use Rattle.std.specs.Float.Numeral.{scan_numeral}
use Rattle.gz_fields.specs.Names.{is_id, is_journal_name}
use Rattle.gz_spec.specs.Journals.{journal_of, journal_at, journal_with, fragment_in}
use Rattle.gz_spec.specs.Labels.{labels_in}
use Rattle.gz_spec.specs.Reserved.{is_reserved, is_numbered}
use Rattle.gz_print.specs.Printed.{journal_text}
use Rattle.gz_cluster.specs.Cluster.{Cluster, runs}
use Rattle.gz_cluster.specs.Events.{Event, Crash, Take, start, run}
use Rattle.gz_cluster.specs.Ledger.{Ledger, ledger_of}
use Rattle.gz_cluster.specs.Handover.{IsHandedOver}
use Rattle.gz_cluster.proofs.Rows.{x, b1, alone, opens_alone, append_abc}

abbrev pub opened : List Event
opened = opens_alone ++ append_abc ∷ Take 1 ∷ []

abbrev pub crashed : List Event
crashed = opened ++ Crash b1 ∷ []

-- the only one among one
only : (a m : List ℕ) → IsAmong (a ∷ []) m → m ≡ a
only a m (zero, both) = both.1
only a m (suc i, both) = absurd (omega (arith, both.0))

pub is_held : IsHandedOver x (run opened (start alone)) (ledger_of x opened (start alone))
unfolding is_id digits journal_of journal_at journal_with is_journal_name utf8_valid_len is_utf8 chars value punctuate lex content encode journal_text escape_byte word after_number number_of scan_numeral labels_in fragment_in is_reserved is_numbered
is_held = inr (inl (b1, (0, (omega arith, refl)), refl, omega arith))

pub is_lost : IsHandedOver x (run crashed (start alone)) (ledger_of x crashed (start alone)) → ⊥
unfolding is_id digits journal_of journal_at journal_with is_journal_name utf8_valid_len is_utf8 chars value punctuate lex content encode journal_text escape_byte word after_number number_of scan_numeral labels_in fragment_in is_reserved is_numbered
is_lost (inl none) = absurd (omega (arith, none))
is_lost (inr (inl held)) = absurd (false≢true (subst (λ m. runs (run crashed (start alone)) m ≡ true) (only b1 held.0 held.1) held.2))
is_lost (inr (inr saved)) = absurd (false≢true (saved.stored 0 (omega arith)))
