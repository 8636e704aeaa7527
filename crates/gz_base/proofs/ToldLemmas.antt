-- Lines of bytes that are told.
use Rattle.std.proofs.Common.{◌≡◌, ℕ, ◌<◌, List, [], ◌∷◌, length, take, drop, Option, Some, None, arith}
use Rattle.std.proofs.lemmas.List.{append-nil}
use Rattle.std.proofs.Math.Seq.{take-length, drop-length}
use Rattle.std.specs.Io.KnownBytes as known
use Rattle.std.specs.Io.KnownBytes.{Keeps, Consumes}
use Rattle.gz_model.specs.Lines.{line_len}
use Rattle.gz_model.specs.Told.{ahead, TakesLine, HasLongLine}
use Rattle.gz_base.proofs.LineLemmas.{lines_of-whole, lines_of-begins, lines_of-last}

pub takes_whole : (old left : Option (List ℕ)) (unread line rest : List ℕ) (n : ℕ) → Keeps old (ahead unread left) → line_len unread ≡ Some n → line ≡ take n unread → rest ≡ drop n unread → TakesLine old (ahead rest left) line
takes_whole None left unread line rest n same found is more = tt
takes_whole (Some old) None unread line rest n same found is more = elim same [ ]
takes_whole (Some old) (Some left) unread line rest n same found is more = rw (← same, is, more) (lines_of-whole unread left n found)

pub long_line : (limit : ℕ) (old left : Option (List ℕ)) (unread : List ℕ) → Keeps old (ahead unread left) → line_len unread ≡ None → limit < length unread → HasLongLine limit old
long_line limit None left unread same missing long = tt
long_line limit (Some old) None unread same missing long = elim same [ ]
long_line limit (Some old) (Some left) [] same missing long = absurd (omega arith)
long_line limit (Some old) (Some left) (x ∷ unread) same missing long =
    let b = lines_of-begins x unread left missing in
    (b.0, b.1, rw (← same) b.2, omega (arith, b.3))

pub takes_last : (old before left : Option (List ℕ)) (unread line rest : List ℕ) → Keeps old (ahead unread before) → Consumes before left [] → known.IsAtEnd left → line_len unread ≡ None → 0 < length unread
    → line ≡ take (length unread) unread → rest ≡ drop (length unread) unread → TakesLine old (ahead rest left) line
takes_last None before left unread line rest same taken end missing some is more = tt
takes_last (Some old) None left unread line rest same taken end missing some is more = elim same [ ]
takes_last (Some old) (Some before) None unread line rest same taken end missing some is more = elim taken [ ]
takes_last (Some old) (Some before) (Some left) [] line rest same taken end missing some is more = absurd (omega arith)
takes_last (Some old) (Some before) (Some left) (x ∷ unread) line rest same taken end missing some is more =
    rw (← same, taken, end, is, more, take-length, drop-length, append-nil unread) (lines_of-last x unread missing)
