-- Texts that are names.
use Rattle.std.specs.Prelude.{ℕ, ◌==◌, ◌&&◌, min, List, length, Result, Ok, Err, Bool, if◌then◌else◌, nat_le}
use Rattle.std.specs.Str.Lossy.{utf8_valid_len}
use Rattle.gz_label.specs.declared.name.LabelError.{LabelError}
use Rattle.gz_label.specs.declared.name.LabelError.TheVariants.{BadName}

-- the most bytes of a name
abbrev pub max_name : ℕ
max_name = 1024

-- the text is UTF-8 from its first byte to its last
abbrev pub is_utf8 : List ℕ → Bool
is_utf8 text = utf8_valid_len text == length text

-- A name is UTF-8 of at most 1,024 bytes. Else the place is the first byte from which it isn't UTF-8, or 1,024, the lesser.
abbrev pub name_of : List ℕ → Result (List ℕ) LabelError
name_of text = if is_utf8 text && nat_le (length text) max_name then Ok text else Err (BadName (min (utf8_valid_len text) max_name))
