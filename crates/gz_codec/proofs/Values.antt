-- Each kind of field, and all fields of a message: what is read is spelled so, and what is spelled so is read.
use Rattle.std.proofs.Common.{◌≡◌, ℕ, ◌+◌, ◌^◌, ◌<◌, Bool, true, false, cond, eqb, nat_le, List, [], ◌∷◌, ◌++◌, length, Option, Result, Ok, Err, refl, ap, subst, ◌∙◌, arith}
use Rattle.std.proofs.lemmas.Grind.{common_steps}
use Rattle.std.specs.Int.{w16, w32, w64}
use Rattle.std.specs.List.{list_all, AllByRecursion}
use Rattle.std.proofs.lemmas.Bool.{eqb-true}
use Rattle.std.proofs.lemmas.List.{nil_from_length}
use Rattle.gz_label.specs.declared.label.Label.{Label}
use Rattle.gz_label.specs.declared.entry.Entry.{Entry}
use Rattle.gz_label.specs.declared.entry.Image.{Image}
use Rattle.gz_label.specs.declared.keys.KeyWrite.{KeyWrite}
use Rattle.gz_label.specs.declared.keys.Compare.{Compare}
use Rattle.gz_label.specs.declared.keys.Change.{Change}
use Rattle.gz_label.specs.declared.name.LabelError.{LabelError}
use Rattle.gz_label.specs.Labels.{is_label, is_label_name, is_label_value, is_label_set}
use Rattle.gz_label.proofs.Plain.{name_of_label_name, name_of_label_value}
use Rattle.gz_label.proofs.Sets.{both_left, both_right, valid_of_set, few_of_set}
use Rattle.gz_codec.specs.declared.field.FieldKind.{FieldKind}
use Rattle.gz_codec.specs.declared.field.FieldKind.TheVariants as kinds
use Rattle.gz_codec.specs.Spelling.{Fields, number, text, content, flagged, counted, label, labels, entry, image, write, writes, compare, change, value, fields, is_name, FitsNumber, FitsText, FitsContent, FitsIfSome, FitsEach, FitsLabels, FitsEntry, FitsImage, FitsWrite, FitsCompare, FitsChange, Fits, FitEach}
use Rattle.gz_codec.specs.Reading.{◌>>=◌, number_at, string_at, text_at, content_at, flagged_at, counted_at, label_at, labels_at, entry_at, image_at, write_at, writes_at, compare_at, change_at, value_at, end_at, fields_at}
use Rattle.gz_codec.proofs.Codec.{IsBytes, IsCodec, bind_ok, guard_passed, wide16, wide32, wide64, number_codec, string_codec, tested_codec, flagged_codec, counted_codec, pair_codec, Parts, four_codec}

number64_codec : IsCodec number FitsNumber (number_at w64)
unfolding number
number64_codec = number_codec w64 (2 ^ 64) wide64

short_name : (t : List ℕ) → is_name t ≡ true → length t < 2 ^ 16
short_name t named =
    let short : nat_le (length t) 1024 ≡ true = both_right _ (nat_le (length t) 1024) named in
    grind (arith, common_steps)

pub text_codec : IsCodec text FitsText text_at
unfolding text text_at
text_codec = tested_codec text (λ t. length t < 2 ^ 16) (string_at w16) is_name (string_codec w16 (2 ^ 16) wide16) short_name

content_codec : IsCodec content FitsContent content_at
unfolding content content_at
content_codec = string_codec w32 (2 ^ 32) wide32

-- ---- labels

abbrev pub FitsLabel : Label → Type 0
FitsLabel l = FitsText l.name × FitsText l.value

label_codec : IsCodec label FitsLabel label_at
unfolding label label_at
label_codec = pair_codec text FitsText text_at text FitsText text_at (λ (n v : List ℕ). let l : Label = record { name = n; value = v } in l) (λ l. l.name) (λ l. l.value) text_codec text_codec (λ l. refl) (λ n v. refl) (λ n v. refl)

is_named : (b : Bool) (t : List ℕ) (e : LabelError) (u : List ℕ) → let r : Result (List ℕ) LabelError = cond b (Ok t) (Err e) in r ≡ Ok u → b ≡ true
is_named true t e u h = refl
is_named false t e u h = absurd cc

fits_label : (l : Label) → is_label l ≡ true → FitsLabel l
unfolding is_label
fits_label l valid =
    let n = name_of_label_name l.name (both_left (is_label_name l.name) (is_label_value l.value) valid) in
    let v = name_of_label_value l.value (both_right (is_label_name l.name) (is_label_value l.value) valid) in
    (is_named (is_name l.name) l.name _ l.name n, is_named (is_name l.value) l.value _ l.value v)

fit_labels : (ls : List Label) → list_all is_label ls ≡ true → AllByRecursion FitsLabel ls
fit_labels [] all = tt
fit_labels (l ∷ ls) all = (fits_label l (both_left (is_label l) (list_all is_label ls) all), fit_labels ls (both_right (is_label l) (list_all is_label ls) all))

fit_set : (ls : List Label) → is_label_set ls ≡ true → FitsEach (2 ^ 16) FitsLabel ls
fit_set ls set = (let few = few_of_set ls set in omega arith, fit_labels ls (valid_of_set ls set))

labels_codec : IsCodec labels FitsLabels labels_at
unfolding labels labels_at
labels_codec = tested_codec (counted w16 label) (FitsEach (2 ^ 16) FitsLabel) (counted_at w16 label_at) is_label_set (counted_codec w16 (2 ^ 16) wide16 label FitsLabel label_at label_codec) fit_set

-- ---- entries and images

entry_parts : Parts (List ℕ) ℕ (List ℕ) (List Label) Entry
entry_parts = record {
  make = λ node req bytes registers. record { attempt = record { node = node; req = req }; bytes = bytes; registers = registers };
  one = λ e. e.attempt.node;
  two = λ e. e.attempt.req;
  three = λ e. e.bytes;
  four = λ e. e.registers;
  whole = λ e. refl;
  is_one = λ a b c d. refl;
  is_two = λ a b c d. refl;
  is_three = λ a b c d. refl;
  is_four = λ a b c d. refl;
}

entry_codec : IsCodec entry FitsEntry entry_at
unfolding entry entry_at entry_parts
entry_codec = four_codec entry_parts text FitsText text_at number FitsNumber (number_at w64) content FitsContent content_at labels FitsLabels labels_at text_codec number64_codec content_codec labels_codec

image_parts : Parts ℕ (List Label) (List Entry) ℕ Image
image_parts = record {
  make = λ begin base entries head. record { begin = begin; base = base; entries = entries; head = head };
  one = λ i. i.begin;
  two = λ i. i.base;
  three = λ i. i.entries;
  four = λ i. i.head;
  whole = λ i. refl;
  is_one = λ a b c d. refl;
  is_two = λ a b c d. refl;
  is_three = λ a b c d. refl;
  is_four = λ a b c d. refl;
}

image_codec : IsCodec image FitsImage image_at
unfolding image image_at image_parts
image_codec = four_codec image_parts number FitsNumber (number_at w64) labels FitsLabels labels_at (counted w32 entry) (FitsEach (2 ^ 32) FitsEntry) (counted_at w32 entry_at) number FitsNumber (number_at w64) number64_codec labels_codec (counted_codec w32 (2 ^ 32) wide32 entry FitsEntry entry_at entry_codec) number64_codec

-- ---- writes to keys

write_codec : IsCodec write FitsWrite write_at
unfolding write write_at
write_codec = pair_codec text FitsText text_at (flagged content) (FitsIfSome FitsContent) (flagged_at content_at) (λ (k : List ℕ) (v : Option (List ℕ)). let w : KeyWrite = record { key = k; value = v } in w) (λ w. w.key) (λ w. w.value) text_codec (flagged_codec content FitsContent content_at content_codec) (λ w. refl) (λ k v. refl) (λ k v. refl)

writes_codec : IsCodec writes (FitsEach (2 ^ 32) FitsWrite) writes_at
unfolding writes writes_at
writes_codec = counted_codec w32 (2 ^ 32) wide32 write FitsWrite write_at write_codec

compare_codec : IsCodec compare FitsCompare compare_at
unfolding compare compare_at
compare_codec = pair_codec text FitsText text_at number FitsNumber (number_at w64) (λ (k : List ℕ) (n : ℕ). let c : Compare = record { key = k; mod_revision = n } in c) (λ c. c.key) (λ c. c.mod_revision) text_codec number64_codec (λ c. refl) (λ k n. refl) (λ k n. refl)

change_codec : IsCodec change FitsChange change_at
unfolding change change_at
change_codec = pair_codec number FitsNumber (number_at w64) writes (FitsEach (2 ^ 32) FitsWrite) writes_at (λ (n : ℕ) (ws : List KeyWrite). let c : Change = record { revision = n; writes = ws } in c) (λ c. c.revision) (λ c. c.writes) number64_codec writes_codec (λ c. refl) (λ n ws. refl) (λ n ws. refl)

-- ---- a value by its kind

pub value_codec : (k : FieldKind) → IsCodec (value k) (Fits k) (value_at k)
value_codec kinds.Number = number64_codec
value_codec kinds.Optional = flagged_codec number FitsNumber (number_at w64) number64_codec
value_codec kinds.Text = text_codec
value_codec kinds.Bytes = content_codec
value_codec kinds.Labels = labels_codec
value_codec kinds.Names = counted_codec w32 (2 ^ 32) wide32 text FitsText text_at text_codec
value_codec kinds.Entry = entry_codec
value_codec kinds.Image = image_codec
value_codec kinds.Writes = writes_codec
value_codec kinds.Compares = counted_codec w32 (2 ^ 32) wide32 compare FitsCompare compare_at compare_codec
value_codec kinds.Changes = counted_codec w32 (2 ^ 32) wide32 change FitsChange change_at change_codec

-- ---- all fields

ended : (bytes : List ℕ) (field : ℕ) (x : Unit {0}) → end_at field bytes ≡ Ok x → bytes ≡ []
unfolding end_at
ended bytes field x e =
    let g = guard_passed (eqb (length bytes) 0) field tt x e in
    nil_from_length bytes (eqb-true _ _ g.0)

abbrev ok_of : (ks : List FieldKind) → Fields ks → Result (Fields ks) ℕ
ok_of ks vs = Ok vs

made_is : (k : FieldKind) (ks : List FieldKind) (a b : Fields (k ∷ ks)) → ok_of (k ∷ ks) a ≡ ok_of (k ∷ ks) b → a ≡ b
made_is k ks a b e = cc

-- fields that are read are spelled so, and fit
pub fields_take : (ks : List FieldKind) (field : ℕ) (bytes : List ℕ) (vs : Fields ks) → IsBytes bytes → fields_at ks field bytes ≡ Ok vs → (bytes ≡ fields ks vs) × FitEach ks vs
fields_take [] field bytes vs fits e = (ended bytes field vs e, tt)
fields_take (k ∷ ks) field bytes vs fits e =
    let a = bind_ok (value_at k field bytes) (λ v. fields_at ks (field + 1) v.1 >>= λ us. Ok (v.0, us)) vs e in
    let b = bind_ok (fields_at ks (field + 1) a.0.1) (λ us. Ok (a.0.0, us)) vs a.2 in
    let first = (value_codec k).takes field bytes a.0 fits a.1 in
    let others = fields_take ks (field + 1) a.0.1 b.0 first.0.rest_fits b.1 in
    let made : Fields (k ∷ ks) = (a.0.0, b.0) in
    let same : made ≡ vs = made_is k ks made vs b.2 in
    subst (λ (us : Fields (k ∷ ks)). (bytes ≡ fields (k ∷ ks) us) × FitEach (k ∷ ks) us) same (first.0.parts ∙ ap (λ (rest : List ℕ). value k a.0.0 ++ rest) others.0, (first.1, others.1))

-- fields that fit are read from their spelling
pub fields_again : (ks : List FieldKind) (field : ℕ) (vs : Fields ks) → FitEach ks vs → fields_at ks field (fields ks vs) ≡ Ok vs
unfolding end_at
fields_again [] field vs fit = refl
fields_again (k ∷ ks) field vs fit = rw ((value_codec k).again field vs.0 (fields ks vs.1) fit.0, fields_again ks (field + 1) vs.1 fit.1) refl
