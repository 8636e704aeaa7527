-- Numbers in decimal, digit by digit.
use Rattle.std.proofs.Common.{◌≡◌, ℕ, ◌+◌, ◌-◌, ◌*◌, ◌^◌, ◌<◌, ◌≤◌, ◌&&◌, List, [], ◌∷◌, Bool, true, false, cond, refl, ◌∙◌, Some, None, arith, nat_lt, drop, length, get_or, zero, suc}
use Rattle.std.proofs.lemmas.Bool.Decides.{nat_tests}
use Rattle.std.proofs.Math.ListN.{drop_of_length-le}
use Rattle.std.specs.Str.{all_ascii_digits}
use Rattle.std.specs.Char.{is_ascii_digit}
use Rattle.gz_keyspace.specs.Formats.{number_from, number_after}

-- further digits never make it less
grows : (bs : List ℕ) (n : ℕ) → n ≤ number_from n bs
grows [] n = omega arith
grows (b ∷ bs) n = let more = grows bs (n * 10 + (b - 48)) in omega (arith, more)

pub one_digit : (n b : ℕ) (bs : List ℕ) → is_ascii_digit b ≡ true → number_after n (b ∷ bs) ≡ number_after (n * 10 + (b - 48)) bs
one_digit n b bs digit = rw digit refl

too_large : (number : ℕ) (digits : Bool) → 2 ^ 64 ≤ number → cond (digits && nat_lt number (2 ^ 64)) (Some number) None ≡ None
too_large number true large =
    let no : nat_lt number (2 ^ 64) ≡ false = grind (arith, nat_tests) in
    rw no refl
too_large number false large = refl

-- at 2^64 it stays none
pub past_end : (n : ℕ) (bs : List ℕ) → 2 ^ 64 ≤ n → number_after n bs ≡ None
past_end n bs large = let more = grows bs n in too_large (number_from n bs) (all_ascii_digits bs) (omega (arith, more, large))

-- the digit at a place that makes the number too large
pub at_past_end : (n i : ℕ) (bs : List ℕ) → i < length bs → is_ascii_digit (get_or bs i 0) ≡ true → 2 ^ 64 ≤ n * 10 + (get_or bs i 0 - 48) → number_after n (drop i bs) ≡ None
at_past_end n i [] within digit large = absurd (omega (arith, within))
at_past_end n zero (b ∷ bs) within digit large = one_digit n b bs digit ∙ past_end (n * 10 + (b - 48)) bs large
at_past_end n (suc i) (b ∷ bs) within digit large = at_past_end n i bs (omega (arith, within)) digit large

-- the number, where the text ends
pub at_end : (n i : ℕ) (bs : List ℕ) → n < 2 ^ 64 → length bs ≤ i → number_after n (drop i bs) ≡ Some n
at_end n i bs fits past =
    let yes : nat_lt n (2 ^ 64) ≡ true = grind (arith, nat_tests) in
    rw (drop_of_length-le bs past, yes) refl
