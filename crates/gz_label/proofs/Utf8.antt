-- UTF-8, as a test.
use Rattle.std.proofs.Common.{◌≡◌, ℕ, ◌==◌, List, length, true, arith}
use Rattle.std.specs.Str.{IsUtf8}
use Rattle.std.proofs.lemmas.Grind.{common_steps}
use Rattle.std.proofs.lemmas.Str.{utf8_valid_len-IsUtf8}
use Rattle.gz_label.specs.Names.{is_utf8}

same_length : (n : ℕ) → (n == n) ≡ true
same_length n = grind (arith, common_steps)

-- what is UTF-8 passes the test
pub is_utf8_of_text : (text : List ℕ) → IsUtf8 text → is_utf8 text ≡ true
is_utf8_of_text text valid = rw (utf8_valid_len-IsUtf8 text valid) (same_length (length text))
