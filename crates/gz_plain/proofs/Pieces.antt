-- A text that a sequencer is fed piece by piece.
use Rattle.std.proofs.Common.{◌≡◌, ℕ, ◌+◌, ◌-◌, ◌<◌, ◌≤◌, List, ◌++◌, length, take, drop, min, refl, ap, sym, ◌∙◌, arith, length-take, take-add, drop-drop}
use Rattle.std.proofs.lemmas.List.{length-drop}
use Rattle.std.proofs.Math.Seq.{take-length}
use Rattle.gz_sequencer.specs.Machine.{Machine, at, fed, started}
use Rattle.gz_sequencer.proofs.Feeding.{at_fed, fed_append}

-- up to the end is all that is left
pub take_rest : (n : ℕ) (xs : List ℕ) → take (length xs - n) (drop n xs) ≡ drop n xs
take_rest n xs = ap (λ (k : ℕ). take k (drop n xs)) (sym (length-drop n xs)) ∙ take-length (drop n xs)

-- from the start up to the end is all
pub whole_text : (xs : List ℕ) → take (length xs - at (started 0)) (drop (at (started 0)) xs) ≡ xs
whole_text xs = take_rest 0 xs

-- how long a piece is
piece_len : (text piece : List ℕ) (from to most : ℕ) → from < to → to ≤ length text → 0 < most → piece ≡ take (min (to - from) most) (drop from text)
    → (length piece ≡ min (to - from) most) × (0 < length piece)
piece_len text piece from to most before end some is =
    let len : length piece ≡ min (min (to - from) most) (length text - from) =
    ap (λ (bs : List ℕ). length bs) is ∙ length-take (min (to - from) most) (drop from text) ∙ ap (λ (k : ℕ). min (min (to - from) most) k) (length-drop from text) in
    (omega (arith, len, before, end), omega (arith, len, before, end, some))

-- what is left behind a piece
piece_fed : (text : List ℕ) (s : Machine) (from left len : ℕ) → len ≤ left
    → fed (fed s (take len (drop from text))) (take (left - len) (drop (from + len) text)) ≡ fed s (take left (drop from text))
piece_fed text s from left len within =
    let sum : len + (left - len) ≡ left = omega (arith, within) in
    let split : take left (drop from text) ≡ take len (drop from text) ++ take (left - len) (drop (from + len) text) =
    ap (λ (k : ℕ). take k (drop from text)) (sym sum) ∙ take-add len (left - len) (drop from text)
    ∙ ap (λ (bs : List ℕ). take len (drop from text) ++ take (left - len) bs) (drop-drop len from text) in
    sym (ap (λ (bs : List ℕ). fed s bs) split ∙ fed_append (take len (drop from text)) (take (left - len) (drop (from + len) text)) s)

-- the sequencer stands further on behind a piece
pub piece_further : (text piece : List ℕ) (s t : Machine) (to most : ℕ) → at s < to → to ≤ length text → 0 < most → piece ≡ take (min (to - at s) most) (drop (at s) text) → t ≡ fed s piece → at s < at t
piece_further text piece s t to most before end some is turned =
    let lens = piece_len text piece (at s) to most before end some is in
    let stands : at t ≡ at s + length piece = ap (λ (m : Machine). at m) turned ∙ at_fed piece s in
    omega (arith, stands, lens.1)

-- it stands at or before the offset, and what is left goes on from there
pub record IsTurn (text : List ℕ) (s t all : Machine) (to : ℕ) : Type 0 where
  pub within : at t ≤ to
  pub same : fed t (take (to - at t) (drop (at t) text)) ≡ all

pub piece_turn : (text piece : List ℕ) (s t all : Machine) (to most : ℕ) → at s < to → to ≤ length text → 0 < most → piece ≡ take (min (to - at s) most) (drop (at s) text) → t ≡ fed s piece
    → fed s (take (to - at s) (drop (at s) text)) ≡ all → IsTurn text s t all to
piece_turn text piece s t all to most before end some is turned whole =
    let lens = piece_len text piece (at s) to most before end some is in
    let stands : at t ≡ at s + length piece = ap (λ (m : Machine). at m) turned ∙ at_fed piece s in
    let cut : piece ≡ take (length piece) (drop (at s) text) = is ∙ ap (λ (k : ℕ). take k (drop (at s) text)) (sym lens.0) in
    let left : to - at t ≡ (to - at s) - length piece = omega (arith, stands) in
    let fed_both : fed t (take (to - at t) (drop (at t) text)) ≡ fed (fed s (take (length piece) (drop (at s) text))) (take ((to - at s) - length piece) (drop (at s + length piece) text)) =
    ap (λ (m : Machine). fed m (take (to - at t) (drop (at t) text))) (turned ∙ ap (λ (bs : List ℕ). fed s bs) cut)
    ∙ rw (left, stands) refl in
    record {
      within = omega (arith, stands, lens.0, before);
      same = fed_both ∙ piece_fed text s (at s) (to - at s) (length piece) (omega (arith, lens.0)) ∙ whole;
    }
