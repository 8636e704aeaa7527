-- Texts of at most so many bytes.
use Rattle.std.proofs.Common.{◌≡◌, ℕ, ◌≤◌, ◌<◌, List, length, refl, Bool, true, false, ◌&&◌, nat_le, arith, Option, Some, None}
use Rattle.std.specs.Str.{IsUtf8, is_utf8}
use Rattle.std.proofs.lemmas.Grind.{common_steps}
use Rattle.std.proofs.lemmas.Str.{IsUtf8-from_is_utf8, is_utf8-from_IsUtf8}
use Rattle.gz_frame.specs.Messages.{is_text_within, is_message}

at_most : (m n : ℕ) → m ≤ n → nat_le m n ≡ true
at_most m n h = grind (arith, common_steps)

pub is_text : (most : ℕ) (bytes : List ℕ) → IsUtf8 bytes → length bytes ≤ most → is_text_within most bytes ≡ true
is_text most bytes valid short = rw (is_utf8-from_IsUtf8 bytes valid, at_most (length bytes) most short) refl

no_text : (b c : Bool) → (b ≡ true → ⊥) → (b && c) ≡ false
no_text true c never = absurd (never refl)
no_text false c never = refl

pub is_no_text : (most : ℕ) (bytes : List ℕ) → ¬ (IsUtf8 bytes) → is_text_within most bytes ≡ false
is_no_text most bytes invalid = no_text (is_utf8 bytes) (nat_le (length bytes) most) (λ valid. invalid (IsUtf8-from_is_utf8 bytes valid))

long_text : (b c : Bool) → c ≡ false → (b && c) ≡ false
long_text true c long = long
long_text false c long = refl

above : (m n : ℕ) → n < m → nat_le m n ≡ false
above m n h = grind (arith, common_steps)

pub is_long_text : (most : ℕ) (bytes : List ℕ) → most < length bytes → is_text_within most bytes ≡ false
is_long_text most bytes long = long_text (is_utf8 bytes) (nat_le (length bytes) most) (above (length bytes) most long)

-- short texts and a known flag are a message
pub is_lawful : (producer : List ℕ) (clock flags : ℕ) (key value : List ℕ) → IsUtf8 key → length key ≤ 256 → IsUtf8 value → length value ≤ 4096 → flags ≤ 2
    → is_message (record { producer = producer; clock = clock; flags = flags; key = key; value = value }) ≡ true
is_lawful producer clock flags key value valid_key short_key valid_value short_value known =
    rw (is_text 256 key valid_key short_key, is_text 4096 value valid_value short_value, at_most flags 2 known) refl

-- what can't be a value is none
pub no_value : {A : Type 0} (o : Option A) → ((x : A) × (o ≡ Some x) → ⊥) → None ≡ o
no_value None never = refl
no_value (Some x) never = absurd (never (x, refl))
