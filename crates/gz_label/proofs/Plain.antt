-- The bytes of labels are plain, so that they are names.
use Rattle.std.proofs.Common.{◌≡◌, ℕ, zero, suc, ◌<◌, ◌≤◌, ◌&&◌, List, [], ◌∷◌, length, refl, Bool, true, nat_le, Ok, arith}
use Rattle.std.proofs.lemmas.Grind.{common_steps}
use Rattle.std.specs.List.{list_all}
use Rattle.std.specs.Str.{IsAscii}
use Rattle.std.proofs.lemmas.Str.{IsUtf8-from_ascii}
use Rattle.gz_label.specs.Names.{name_of}
use Rattle.gz_label.specs.Labels.{is_name_byte, is_value_byte, is_label_name, is_label_value}
use Rattle.gz_label.proofs.Sets.{both_left, both_right}
use Rattle.gz_label.proofs.Utf8.{is_utf8_of_text}

plain_name_byte : (b : ℕ) → is_name_byte b ≡ true → b < 128
plain_name_byte b is = grind (arith, common_steps)

plain_value_byte : (b : ℕ) → is_value_byte b ≡ true → b < 128
plain_value_byte b is = grind (arith, common_steps)

all_plain : (p : ℕ → Bool) → ((b : ℕ) → p b ≡ true → b < 128) → (bs : List ℕ) → list_all p bs ≡ true → IsAscii bs
all_plain p plain [] all i = omega arith
all_plain p plain (b ∷ bs) all zero = plain b (both_left (p b) (list_all p bs) all)
all_plain p plain (b ∷ bs) all (suc i) = all_plain p plain bs (both_right (p b) (list_all p bs) all) i

low : (n m : ℕ) → nat_le n m ≡ true → n ≤ m
low n m is = grind (arith, common_steps)

short : (n : ℕ) → n ≤ 255 → nat_le n 1024 ≡ true
short n few = grind (arith, common_steps)

name_of_plain : (p : ℕ → Bool) → ((b : ℕ) → p b ≡ true → b < 128) → (text : List ℕ) → list_all p text ≡ true → length text ≤ 255 → name_of text ≡ Ok text
name_of_plain p plain text all few =
    rw (is_utf8_of_text text (IsUtf8-from_ascii text (all_plain p plain text all)), short (length text) few) refl

pub name_of_label_name : (text : List ℕ) → is_label_name text ≡ true → name_of text ≡ Ok text
unfolding is_label_name
name_of_label_name text is =
    let sized : (nat_le 1 (length text) && nat_le (length text) 64) ≡ true = both_left (nat_le 1 (length text) && nat_le (length text) 64) (list_all is_name_byte text) is in
    let few : length text ≤ 64 = low (length text) 64 (both_right (nat_le 1 (length text)) (nat_le (length text) 64) sized) in
    name_of_plain is_name_byte plain_name_byte text (both_right (nat_le 1 (length text) && nat_le (length text) 64) (list_all is_name_byte text) is) (omega arith)

pub name_of_label_value : (text : List ℕ) → is_label_value text ≡ true → name_of text ≡ Ok text
unfolding is_label_value
name_of_label_value text is =
    let few : length text ≤ 255 = low (length text) 255 (both_left (nat_le (length text) 255) (list_all is_value_byte text) is) in
    name_of_plain is_value_byte plain_value_byte text (both_right (nat_le (length text) 255) (list_all is_value_byte text) is) few
