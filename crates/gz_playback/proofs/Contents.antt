-- What stands behind a frame's head, and a player's way through bytes.
use Rattle.std.proofs.Common.{◌≡◌, ℕ, suc, ◌+◌, ◌≤◌, ◌<◌, ◌^◌, List, [], ◌∷◌, ◌++◌, length, drop, take, ap, sym, ◌∙◌, arith, Bool, true, false, cond, Option, Some, None, subst, get_or, refl, inl, inr}
use Rattle.std.specs.Prelude.{min, is_some}
use Rattle.std.proofs.Math.Nat.{min-eq_left, min-eq_right}
use Rattle.std.proofs.Math.ListN.{drop_of_length-le}
use Rattle.std.proofs.Math.Seq.{drop-length, drop-cons}
use Rattle.std.proofs.lemmas.Bool.{cases_lt}
use Rattle.std.proofs.lemmas.List.{length-append}
use Rattle.gz_recovery.specs.Operations.{Op, op_of}
use Rattle.gz_recovery.specs.Files.{Fsm, after_op}
use Rattle.gz_playback.specs.Playing.{Cut, Partial, Bad, Whole, cut_of, Player, at, spoiled, plays_fsm, plays_op, plays_cut, plays_next, plays_byte, plays}

pub drop_min : (n : ℕ) (xs : List ℕ) → drop (min n (length xs)) xs ≡ drop n xs
drop_min n xs = elim (cases_lt (length xs) n) [
  | inl high ↦ ap (λ (k : ℕ). drop k xs) (min-eq_right (omega (arith, high))) ∙ drop-length xs ∙ sym (drop_of_length-le xs (omega (arith, high)))
  | inr low ↦ ap (λ (k : ℕ). drop k xs) (min-eq_left low)
]

-- ---- an offset rises by at most one a byte

fsm_rises : (o : Option Fsm) (p : Player) → at (plays_fsm o p) ≤ at p
fsm_rises None p = omega arith
fsm_rises (Some fsm) p = omega arith

op_rises : (o : Option Op) (p : Player) → at (plays_op o p) ≤ at p
op_rises None p = omega arith
op_rises (Some op) p = fsm_rises (after_op op p.fsm) p

cut_rises : (c : Cut) (p : Player) → at (plays_cut c p) ≤ at p
cut_rises Partial p = omega arith
cut_rises Bad p = omega arith
cut_rises (Whole content) p = op_rises (op_of content) p

pub byte_rises : (p : Player) (b : ℕ) → at (plays_byte p b) ≤ at p + 1
byte_rises p b = by (is_some p.bad)
  where
    q : Player
    q = record p { left = p.left ++ b ∷ [] }

    by : (test : Bool) → at (cond test p (plays_next q)) ≤ at p + 1
    by true = omega arith
    by false = let up = cut_rises (cut_of q.left) q in omega (arith, up, length-append p.left (b ∷ []))

-- the first of the bytes that are left
split : (bytes : List ℕ) (i : ℕ) → i < length bytes → drop i bytes ≡ get_or bytes i 0 ∷ drop (i + 1) bytes
split bytes i low = let next : suc i ≡ i + 1 = omega arith in drop-cons bytes i 0 low ∙ ap (λ (k : ℕ). get_or bytes i 0 ∷ drop k bytes) next

-- what is left of the bytes, after one of them
pub turn : (bytes : List ℕ) (i : ℕ) (p q : Player) → i < length bytes → q ≡ plays_byte p (get_or bytes i 0) → plays q (drop (i + 1) bytes) ≡ plays p (drop i bytes)
turn bytes i p q low next =
    ap (λ (r : Player). plays r (drop (i + 1) bytes)) next ∙ ap (λ (bs : List ℕ). plays p bs) (sym (split bytes i low))

pub room : (bytes : List ℕ) (i : ℕ) (p q : Player) → i < length bytes → q ≡ plays_byte p (get_or bytes i 0) → at p + length (drop i bytes) ≤ 2 ^ 62 → at q + length (drop (i + 1) bytes) ≤ 2 ^ 62
room bytes i p q low next small =
    let up : at q ≤ at p + 1 = subst (λ (r : Player). at r ≤ at p + 1) (sym next) (byte_rises p (get_or bytes i 0)) in
    let len : length (drop i bytes) ≡ length (get_or bytes i 0 ∷ drop (i + 1) bytes) = ap (λ (bs : List ℕ). length bs) (split bytes i low) in
    omega (arith, up, len, small)
