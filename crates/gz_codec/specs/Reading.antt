-- Reading the fields of a message from left to right, up to the first that isn't spelled by its kind.
use Rattle.std.specs.Prelude.{◌≡◌, ℕ, zero, suc, ◌+◌, ◌==◌, List, [], ◌∷◌, length, take, drop, Option, Some, None, Result, Ok, Err, Bool, nat_lt, if◌then◌else◌}
use Rattle.std.specs.Int.{Width, w16, w32, w64, byte_len, from_be_bytes}
use Rattle.gz_label.specs.Labels.{is_label_set}
use Rattle.gz_label.specs.declared.label.Label.{Label}
use Rattle.gz_label.specs.declared.entry.Entry.{Entry}
use Rattle.gz_label.specs.declared.entry.Image.{Image}
use Rattle.gz_label.specs.declared.keys.KeyWrite.{KeyWrite}
use Rattle.gz_label.specs.declared.keys.Compare.{Compare}
use Rattle.gz_label.specs.declared.keys.Change.{Change}
use Rattle.gz_codec.specs.declared.field.FieldKind.{FieldKind}
use Rattle.gz_codec.specs.declared.field.FieldKind.TheVariants as kinds
use Rattle.gz_codec.specs.declared.error.FieldError.{FieldError}
use Rattle.gz_codec.specs.declared.error.FieldError.TheVariants as errors
use Rattle.gz_codec.specs.Spelling.{Value, Fields, is_name}

infixl 10 ◌>>=◌
abbrev pub ◌>>=◌ : {E A B : Type 0} → Result A E → (A → Result B E) → Result B E
(Ok x) >>= f = f x
(Err e) >>= f = Err e

-- Reads a value at the start of the bytes, and gives the bytes behind it; an error is the number of the field.
abbrev pub Reader : Type 0 → Type 0
Reader A = ℕ → List ℕ → Result (A × List ℕ) ℕ

unfoldable pub number_at : Width → Reader ℕ
number_at w field bytes = if nat_lt (length bytes) (byte_len w) then Err field else Ok (from_be_bytes w (take (byte_len w) bytes), drop (byte_len w) bytes)

-- so many bytes
unfoldable pub part_at : ℕ → Reader (List ℕ)
part_at n field bytes = if nat_lt (length bytes) n then Err field else Ok (take n bytes, drop n bytes)

unfoldable pub string_at : Width → Reader (List ℕ)
string_at w field bytes = do
  n ← number_at w field bytes
  part_at n.0 field n.1

-- what is read, where it passes the test
abbrev pub tested : {A : Type 0} → (A → Bool) → ℕ → A × List ℕ → Result (A × List ℕ) ℕ
tested ok field x = if ok x.0 then Ok x else Err field

unfoldable pub text_at : Reader (List ℕ)
text_at field bytes = do
  t ← string_at w16 field bytes
  tested is_name field t

unfoldable pub content_at : Reader (List ℕ)
content_at field bytes = string_at w32 field bytes

unfoldable pub flagged_at : {A : Type 0} → Reader A → Reader (Option A)
flagged_at at field [] = Err field
flagged_at at field (zero ∷ rest) = Ok (None, rest)
flagged_at at field (suc zero ∷ rest) = do
  x ← at field rest
  Ok (Some x.0, x.1)
flagged_at at field (suc (suc b) ∷ rest) = Err field

unfoldable pub items_at : {A : Type 0} → Reader A → ℕ → Reader (List A)
items_at at zero field bytes = Ok ([], bytes)
items_at at (suc n) field bytes = do
  first ← at field bytes
  others ← items_at at n field first.1
  Ok (first.0 ∷ others.0, others.1)

unfoldable pub counted_at : {A : Type 0} → Width → Reader A → Reader (List A)
counted_at w at field bytes = do
  n ← number_at w field bytes
  items_at at n.0 field n.1

unfoldable pub label_at : Reader Label
label_at field bytes = do
  name ← text_at field bytes
  value ← text_at field name.1
  Ok (record { name = name.0; value = value.0 }, value.1)

unfoldable pub labels_at : Reader (List Label)
labels_at field bytes = do
  ls ← counted_at w16 label_at field bytes
  tested is_label_set field ls

unfoldable pub entry_at : Reader Entry
entry_at field bytes = do
  node ← text_at field bytes
  req ← number_at w64 field node.1
  content ← content_at field req.1
  registers ← labels_at field content.1
  Ok (record { attempt = record { node = node.0; req = req.0 }; bytes = content.0; registers = registers.0 }, registers.1)

unfoldable pub image_at : Reader Image
image_at field bytes = do
  begin ← number_at w64 field bytes
  base ← labels_at field begin.1
  entries ← counted_at w32 entry_at field base.1
  head ← number_at w64 field entries.1
  Ok (record { begin = begin.0; base = base.0; entries = entries.0; head = head.0 }, head.1)

unfoldable pub write_at : Reader KeyWrite
write_at field bytes = do
  key ← text_at field bytes
  value ← flagged_at content_at field key.1
  Ok (record { key = key.0; value = value.0 }, value.1)

unfoldable pub writes_at : Reader (List KeyWrite)
writes_at field bytes = counted_at w32 write_at field bytes

unfoldable pub compare_at : Reader Compare
compare_at field bytes = do
  key ← text_at field bytes
  revision ← number_at w64 field key.1
  Ok (record { key = key.0; mod_revision = revision.0 }, revision.1)

unfoldable pub change_at : Reader Change
change_at field bytes = do
  revision ← number_at w64 field bytes
  writes ← writes_at field revision.1
  Ok (record { revision = revision.0; writes = writes.0 }, writes.1)

-- a value by its kind
abbrev pub value_at : (k : FieldKind) → Reader (Value k)
value_at kinds.Number field bytes = number_at w64 field bytes
value_at kinds.Optional field bytes = flagged_at (number_at w64) field bytes
value_at kinds.Text field bytes = text_at field bytes
value_at kinds.Bytes field bytes = content_at field bytes
value_at kinds.Labels field bytes = labels_at field bytes
value_at kinds.Names field bytes = counted_at w32 text_at field bytes
value_at kinds.Entry field bytes = entry_at field bytes
value_at kinds.Image field bytes = image_at field bytes
value_at kinds.Writes field bytes = writes_at field bytes
value_at kinds.Compares field bytes = counted_at w32 compare_at field bytes
value_at kinds.Changes field bytes = counted_at w32 change_at field bytes

-- Nothing is left. An error is the number after that of the last field.
unfoldable pub end_at : ℕ → List ℕ → Result (Unit {0}) ℕ
end_at field bytes = if length bytes == 0 then Ok tt else Err field

-- the values of these kinds, which are all of the bytes; the first has the number
abbrev pub fields_at : (ks : List FieldKind) → ℕ → List ℕ → Result (Fields ks) ℕ
fields_at [] field bytes = end_at field bytes
fields_at (k ∷ ks) field bytes = value_at k field bytes >>= λ v. fields_at ks (field + 1) v.1 >>= λ vs. Ok (v.0, vs)

-- ---- what a reader of the code returned, seen by view, is what reading gives, unless memory ran out

abbrev pub Fails : {Y : Type 0} → FieldError → Result Y ℕ → Type 0
Fails errors.NoMemory read = Unit {0}
Fails (errors.Bad field) read = read ≡ Err field

abbrev pub Gives : {X Y : Type 0} → (X → Y) → Result X FieldError → Result Y ℕ → Type 0
Gives view (Ok x) read = read ≡ Ok (view x)
Gives view (Err e) read = Fails e read
