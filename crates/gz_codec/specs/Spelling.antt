-- What a field says, by its kind, and the one spelling of it.
use Rattle.std.specs.Prelude.{◌≡◌, ℕ, ◌<◌, ◌^◌, ◌&&◌, List, [], ◌∷◌, ◌++◌, length, Option, Some, None, Bool, true, nat_le}
use Rattle.std.specs.List.{flat_map, AllByRecursion}
use Rattle.std.specs.Int.{Width, w16, w32, w64, to_be_bytes}
use Rattle.gz_label.specs.Names.{is_utf8, max_name}
use Rattle.gz_label.specs.Labels.{is_label_set}
use Rattle.gz_label.specs.declared.label.Label.{Label}
use Rattle.gz_label.specs.declared.entry.Entry.{Entry}
use Rattle.gz_label.specs.declared.entry.Image.{Image}
use Rattle.gz_label.specs.declared.keys.KeyWrite.{KeyWrite}
use Rattle.gz_label.specs.declared.keys.Compare.{Compare}
use Rattle.gz_label.specs.declared.keys.Change.{Change}
use Rattle.gz_codec.specs.declared.field.FieldKind.{FieldKind}
use Rattle.gz_codec.specs.declared.field.FieldKind.TheVariants as kinds

-- ---- values

abbrev pub Value : FieldKind → Type 0
Value kinds.Number = ℕ
Value kinds.Optional = Option ℕ
Value kinds.Text = List ℕ
Value kinds.Bytes = List ℕ
Value kinds.Labels = List Label
Value kinds.Names = List (List ℕ)
Value kinds.Entry = Entry
Value kinds.Image = Image
Value kinds.Writes = List KeyWrite
Value kinds.Compares = List Compare
Value kinds.Changes = List Change

-- a value for each kind of the list
abbrev pub Fields : List FieldKind → Type 0
Fields [] = Unit {0}
Fields (k ∷ ks) = Value k × Fields ks

-- ---- spellings

-- eight bytes, the high one first
unfoldable pub number : ℕ → List ℕ
number n = to_be_bytes w64 n

-- the length in two bytes, and the text
unfoldable pub text : List ℕ → List ℕ
text t = to_be_bytes w16 (length t) ++ t

-- the length in four bytes, and the bytes
unfoldable pub content : List ℕ → List ℕ
content bytes = to_be_bytes w32 (length bytes) ++ bytes

-- a byte 0, or a byte 1 and the value
unfoldable pub flagged : {A : Type 0} → (A → List ℕ) → Option A → List ℕ
flagged s None = 0 ∷ []
flagged s (Some a) = 1 ∷ s a

-- how many there are, and one after another
unfoldable pub counted : {A : Type 0} → Width → (A → List ℕ) → List A → List ℕ
counted w s xs = to_be_bytes w (length xs) ++ flat_map s xs

unfoldable pub label : Label → List ℕ
label l = text l.name ++ text l.value

unfoldable pub labels : List Label → List ℕ
labels ls = counted w16 label ls

unfoldable pub entry : Entry → List ℕ
entry e = text e.attempt.node ++ (number e.attempt.req ++ (content e.bytes ++ labels e.registers))

unfoldable pub image : Image → List ℕ
image i = number i.begin ++ (labels i.base ++ (counted w32 entry i.entries ++ number i.head))

unfoldable pub write : KeyWrite → List ℕ
write w = text w.key ++ flagged content w.value

unfoldable pub writes : List KeyWrite → List ℕ
writes ws = counted w32 write ws

unfoldable pub compare : Compare → List ℕ
compare c = text c.key ++ number c.mod_revision

unfoldable pub change : Change → List ℕ
change c = number c.revision ++ writes c.writes

-- a value by its kind
abbrev pub value : (k : FieldKind) → Value k → List ℕ
value kinds.Number v = number v
value kinds.Optional v = flagged number v
value kinds.Text v = text v
value kinds.Bytes v = content v
value kinds.Labels v = labels v
value kinds.Names v = counted w32 text v
value kinds.Entry v = entry v
value kinds.Image v = image v
value kinds.Writes v = writes v
value kinds.Compares v = counted w32 compare v
value kinds.Changes v = counted w32 change v

-- one after another
abbrev pub fields : (ks : List FieldKind) → Fields ks → List ℕ
fields [] vs = []
fields (k ∷ ks) vs = value k vs.0 ++ fields ks vs.1

-- ---- what has a spelling: numbers below 2 ^ 64, names, bytes and lists whose length fits its field, sets of labels

abbrev pub is_name : List ℕ → Bool
is_name t = is_utf8 t && nat_le (length t) max_name

abbrev pub FitsNumber : ℕ → Type 0
FitsNumber n = n < 2 ^ 64

abbrev pub FitsText : List ℕ → Type 0
FitsText t = is_name t ≡ true

abbrev pub FitsContent : List ℕ → Type 0
FitsContent bytes = length bytes < 2 ^ 32

abbrev pub FitsIfSome : {A : Type 0} → (A → Type 0) → Option A → Type 0
FitsIfSome F None = Unit {0}
FitsIfSome F (Some a) = F a

abbrev pub FitsEach : {A : Type 0} → ℕ → (A → Type 0) → List A → Type 0
FitsEach limit F xs = (length xs < limit) × AllByRecursion F xs

abbrev pub FitsLabels : List Label → Type 0
FitsLabels ls = is_label_set ls ≡ true

abbrev pub FitsEntry : Entry → Type 0
FitsEntry e = FitsText e.attempt.node × (FitsNumber e.attempt.req × (FitsContent e.bytes × FitsLabels e.registers))

abbrev pub FitsImage : Image → Type 0
FitsImage i = FitsNumber i.begin × (FitsLabels i.base × (FitsEach (2 ^ 32) FitsEntry i.entries × FitsNumber i.head))

abbrev pub FitsWrite : KeyWrite → Type 0
FitsWrite w = FitsText w.key × FitsIfSome FitsContent w.value

abbrev pub FitsCompare : Compare → Type 0
FitsCompare c = FitsText c.key × FitsNumber c.mod_revision

abbrev pub FitsChange : Change → Type 0
FitsChange c = FitsNumber c.revision × FitsEach (2 ^ 32) FitsWrite c.writes

abbrev pub Fits : (k : FieldKind) → Value k → Type 0
Fits kinds.Number v = FitsNumber v
Fits kinds.Optional v = FitsIfSome FitsNumber v
Fits kinds.Text v = FitsText v
Fits kinds.Bytes v = FitsContent v
Fits kinds.Labels v = FitsLabels v
Fits kinds.Names v = FitsEach (2 ^ 32) FitsText v
Fits kinds.Entry v = FitsEntry v
Fits kinds.Image v = FitsImage v
Fits kinds.Writes v = FitsEach (2 ^ 32) FitsWrite v
Fits kinds.Compares v = FitsEach (2 ^ 32) FitsCompare v
Fits kinds.Changes v = FitsEach (2 ^ 32) FitsChange v

abbrev pub FitEach : (ks : List FieldKind) → Fields ks → Type 0
FitEach [] vs = Unit {0}
FitEach (k ∷ ks) vs = Fits k vs.0 × FitEach ks vs.1
