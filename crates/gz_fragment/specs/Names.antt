-- Names of fragments, and the texts that they are written as.
use Rattle.std.specs.Prelude.{◌≡◌, ◌<◌, ℕ, ◌+◌, ◌^◌, ◌==◌, ◌&&◌, ◌||◌, List, ◌++◌, length, take, drop, Bool, Option, Some, None, option_map, Result, Ok, Err, if◌then◌else◌, nat_le, nat_lt, slice_index, codes}
use Rattle.std.specs.Int.{w64, to_be_bytes, from_be_bytes}
use Rattle.std.specs.List.{list_all}
use Rattle.std.specs.Ordering.{nat_cmp, ordering_then}
use Rattle.std.specs.declared.cmp.Ordering.{Ordering}
use Rattle.std.specs.Cmp.Lexicographic.{slice_cmp}
use Rattle.std.specs.Str.{bytes_eq}
use Rattle.hex.specs.Hex.{IsBytes, encode_lower, decode_of}
use Rattle.hex.specs.declared.error.FromHexError.{FromHexError}
use Rattle.sha1.specs.Sha1.{sha1}

-- a fragment has the bytes of its journal from begin to before end, and sum is their SHA-1, of 20 bytes
pub record FragmentName : Type 0 where
  pub begin : ℕ
  pub end : ℕ
  pub sum : List ℕ

-- what a name keeps, whose numbers are of 64 bits
pub record IsName (n : FragmentName) : Type 0 where
  pub ordered : n.begin < n.end
  pub fits : n.end < 2 ^ 64
  pub size : length n.sum ≡ 20
  pub bytes : IsBytes n.sum

-- the order of names: by begin, then by end, then by sum
abbrev pub name_cmp : FragmentName → FragmentName → Ordering
name_cmp a b = ordering_then (nat_cmp a.begin b.begin) (ordering_then (nat_cmp a.end b.end) (slice_cmp nat_cmp a.sum b.sum))

-- ---- as texts: `begin-end-sum.raw`

-- a number as 16 hexadecimal digits
abbrev pub digits_of : ℕ → List ℕ
digits_of n = encode_lower (to_be_bytes w64 n)

abbrev pub name_text : FragmentName → List ℕ
name_text n = digits_of n.begin ++ codes "-" ++ digits_of n.end ++ codes "-" ++ encode_lower n.sum ++ codes ".raw"

-- `0` to `9` and `a` to `f`
abbrev pub is_lower_digit : ℕ → Bool
is_lower_digit b = (nat_le 48 b && nat_le b 57) || (nat_le 97 b && nat_le b 102)

abbrev pub value_of : Result (List ℕ) FromHexError → Option (List ℕ)
value_of (Ok bytes) = Some bytes
value_of (Err e) = None

-- the bytes that pairs of digits spell
abbrev pub bytes_in : List ℕ → Option (List ℕ)
bytes_in text = if list_all is_lower_digit text then value_of (decode_of text) else None

abbrev pub number_in : List ℕ → Option ℕ
number_in text = option_map (from_be_bytes w64) (bytes_in text)

abbrev pub name_with : Option ℕ → Option ℕ → Option (List ℕ) → Option FragmentName
name_with (Some begin) (Some end) (Some sum) = if nat_lt begin end then Some (record { begin = begin; end = end; sum = sum }) else None
name_with begin end sum = None

-- whether a text has the length of a name, and what stands between its digits
abbrev pub has_form : List ℕ → Bool
has_form text = length text == 78 && slice_index text 16 == 45 && slice_index text 33 == 45 && bytes_eq (drop 74 text) (codes ".raw")

-- the name that a text is
abbrev pub name_in : List ℕ → Option FragmentName
name_in text =
    if has_form text
    then name_with (number_in (take 16 text)) (number_in (take 16 (drop 17 text))) (bytes_in (take 40 (drop 34 text)))
    else None

-- ---- the name of a content

-- where a fragment ends at the most
abbrev pub last_end : ℕ
last_end = 2 ^ 62

abbrev pub name_of : ℕ → List ℕ → FragmentName
name_of begin content = record { begin = begin; end = begin + length content; sum = sha1 content }

-- the name of a content that isn't empty and doesn't pass the last end
abbrev pub name_at : ℕ → List ℕ → Option FragmentName
name_at begin content =
    if 0 == length content || nat_lt last_end (begin + length content) then None else Some (name_of begin content)
