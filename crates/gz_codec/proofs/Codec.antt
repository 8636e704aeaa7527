-- What it is that a reader reads exactly one spelling, and how readers are put together.
use Rattle.std.proofs.Common.{◌≡◌, ℕ, zero, suc, ◌+◌, ◌^◌, ◌<◌, ◌≤◌, Bool, true, false, cond, ltb, List, [], ◌∷◌, ◌++◌, length, get_or, take, drop, Option, Some, None, Result, Ok, Err, refl, sym, ap, subst, ◌∙◌, append_assoc, arith, inl, inr}
use Rattle.std.specs.Int.{Width, w16, w32, w64, byte_len, from_be_bytes, to_be_bytes}
use Rattle.std.specs.List.{flat_map, AllByRecursion}
use Rattle.std.proofs.lemmas.Bool.{cases_lt, ltb-false, le-ltb}
use Rattle.std.proofs.lemmas.List.{take_at, drop_at, take-append-drop, length-append, length-take, get_or-drop, get_or-take, get_or_past}
use Rattle.std.proofs.lemmas.List.Concat.{flat_map-cons}
use Rattle.std.proofs.lemmas.Nat.{be_bytes_2, be_bytes_4, be_bytes_8, from_be_bytes-to_be_bytes_2, from_be_bytes-to_be_bytes_4, from_be_bytes-to_be_bytes_8}
use Rattle.gz_codec.specs.Spelling.{flagged, counted, FitsIfSome, FitsEach}
use Rattle.gz_codec.specs.Reading.{◌>>=◌, Reader, number_at, part_at, string_at, tested, flagged_at, items_at, counted_at}

abbrev pub IsBytes : List ℕ → Type 0
IsBytes bytes = (i : ℕ) → get_or bytes i 0 < 256

pub IsBytes-drop : (n : ℕ) (bytes : List ℕ) → IsBytes bytes → IsBytes (drop n bytes)
IsBytes-drop n bytes h i = rw get_or-drop (h (n + i))

pub IsBytes-take : (n : ℕ) (bytes : List ℕ) → IsBytes bytes → IsBytes (take n bytes)
IsBytes-take n bytes h i =
    elim (cases_lt i n) [
      | inl lt ↦ rw (get_or-take n bytes i 0 lt) (h i)
      | inr le ↦ rw (get_or_past (take n bytes) i 0 (omega (arith, length-take n bytes))) (omega arith)
    ]

-- the value of a step that did not fail
pub bind_ok : {E A B : Type 0} (r : Result A E) (f : A → Result B E) (y : B) → (r >>= f) ≡ Ok y → (x : A) × (r ≡ Ok x) × (f x ≡ Ok y)
bind_ok (Ok x) f y e = (x, refl, e)
bind_ok (Err d) f y e = absurd cc

-- a test that did not fail
pub guard_ok : {A : Type 0} (b : Bool) (d : ℕ) (x y : A) → cond b (Err d) (Ok x) ≡ Ok y → (b ≡ false) × (x ≡ y)
guard_ok true d x y e = absurd cc
guard_ok false d x y e = (refl, cc)

pub guard_passed : {A : Type 0} (b : Bool) (d : ℕ) (x y : A) → cond b (Ok x) (Err d) ≡ Ok y → (b ≡ true) × (x ≡ y)
guard_passed true d x y e = (refl, cc)
guard_passed false d x y e = absurd cc

abbrev pub done : {A : Type 0} → A → Result A ℕ
done x = Ok x

pub ok_is : {A : Type 0} (x y : A) → done x ≡ done y → x ≡ y
ok_is x y e = cc

-- what a reader took from the start
pub record Takes (bytes text rest : List ℕ) : Type 0 where
  pub parts : bytes ≡ text ++ rest
  pub rest_fits : IsBytes rest

pub Takes-then : (a x b y c : List ℕ) → Takes a x b → Takes b y c → Takes a (x ++ y) c
Takes-then a x b y c p q = record { parts = p.parts ∙ ap (λ (t : List ℕ). x ++ t) q.parts ∙ sym (append_assoc x y c); rest_fits = q.rest_fits }

-- What is read is spelled so and fits; what fits is read from its spelling, whatever follows.
pub record IsCodec {A : Type 0} (s : A → List ℕ) (F : A → Type 0) (at : Reader A) : Type 0 where
  pub takes : (field : ℕ) (bytes : List ℕ) (x : A × List ℕ) → IsBytes bytes → at field bytes ≡ Ok x → Takes bytes (s x.0) x.1 × F x.0
  pub again : (field : ℕ) (a : A) (rest : List ℕ) → F a → at field (s a ++ rest) ≡ Ok (a, rest)

-- ---- numbers

pub record IsWide (w : Width) (limit : ℕ) : Type 0 where
  pub len : (n : ℕ) → length (to_be_bytes w n) ≡ byte_len w
  pub back : (bytes : List ℕ) → length bytes ≡ byte_len w → IsBytes bytes → to_be_bytes w (from_be_bytes w bytes) ≡ bytes
  pub same : (n : ℕ) → n < limit → from_be_bytes w (to_be_bytes w n) ≡ n
  pub below : (bytes : List ℕ) → IsBytes bytes → from_be_bytes w bytes < limit

pub wide16 : IsWide w16 (2 ^ 16)
wide16 = record {
  len = λ n. refl;
  back = λ bytes len fits. be_bytes_2 bytes _ len fits refl;
  same = λ n lt. from_be_bytes-to_be_bytes_2 n lt;
  below = λ bytes fits. omega (arith, fits 0, fits 1);
}

pub wide32 : IsWide w32 (2 ^ 32)
wide32 = record {
  len = λ n. refl;
  back = λ bytes len fits. be_bytes_4 bytes _ len fits refl;
  same = λ n lt. from_be_bytes-to_be_bytes_4 n lt;
  below = λ bytes fits. omega (arith, fits 0, fits 1, fits 2, fits 3);
}

pub wide64 : IsWide w64 (2 ^ 64)
wide64 = record {
  len = λ n. refl;
  back = λ bytes len fits. be_bytes_8 bytes _ len fits refl;
  same = λ n lt. from_be_bytes-to_be_bytes_8 n lt;
  below = λ bytes fits. omega (arith, fits 0, fits 1, fits 2, fits 3, fits 4, fits 5, fits 6, fits 7);
}

number_takes : (w : Width) (limit : ℕ) (wide : IsWide w limit) (field : ℕ) (bytes : List ℕ) (x : ℕ × List ℕ) → IsBytes bytes → number_at w field bytes ≡ Ok x → Takes bytes (to_be_bytes w x.0) x.1 × (x.0 < limit)
unfolding number_at
number_takes w limit wide field bytes x fits e =
    let g = guard_ok (ltb (length bytes) (byte_len w)) field (from_be_bytes w (take (byte_len w) bytes), drop (byte_len w) bytes) x e in
    let long : byte_len w ≤ length bytes = ltb-false _ _ g.0 in
    let n-is : from_be_bytes w (take (byte_len w) bytes) ≡ x.0 = ap (λ (p : ℕ × List ℕ). p.0) g.1 in
    let rest-is : drop (byte_len w) bytes ≡ x.1 = ap (λ (p : ℕ × List ℕ). p.1) g.1 in
    let prefix : to_be_bytes w x.0 ≡ take (byte_len w) bytes = rw (← n-is) (wide.back (take (byte_len w) bytes) (omega (arith, length-take (byte_len w) bytes)) (IsBytes-take (byte_len w) bytes fits)) in
    (record { parts = rw (prefix, ← rest-is) (sym (take-append-drop (byte_len w) bytes)); rest_fits = rw (← rest-is) (IsBytes-drop (byte_len w) bytes fits) }, rw (← n-is) (wide.below (take (byte_len w) bytes) (IsBytes-take (byte_len w) bytes fits)))

number_again : (w : Width) (limit : ℕ) (wide : IsWide w limit) (field n : ℕ) (rest : List ℕ) → n < limit → number_at w field (to_be_bytes w n ++ rest) ≡ Ok (n, rest)
unfolding number_at
number_again w limit wide field n rest lt =
    let len = wide.len n in
    let long : ltb (length (to_be_bytes w n ++ rest)) (byte_len w) ≡ false = le-ltb _ _ (omega (arith, length-append (to_be_bytes w n) rest)) in
    rw (long, take_at (to_be_bytes w n) rest (byte_len w) len, drop_at (to_be_bytes w n) rest (byte_len w) len, wide.same n lt) refl

pub number_codec : (w : Width) (limit : ℕ) → IsWide w limit → IsCodec (to_be_bytes w) (λ n. n < limit) (number_at w)
number_codec w limit wide = record { takes = number_takes w limit wide; again = number_again w limit wide }

-- ---- so many bytes, with their count before them

part_takes : (n field : ℕ) (bytes : List ℕ) (x : List ℕ × List ℕ) → IsBytes bytes → part_at n field bytes ≡ Ok x → Takes bytes x.0 x.1 × (length x.0 ≡ n)
unfolding part_at
part_takes n field bytes x fits e =
    let g = guard_ok (ltb (length bytes) n) field (take n bytes, drop n bytes) x e in
    let long : n ≤ length bytes = ltb-false _ _ g.0 in
    let len : length (take n bytes) ≡ n = omega (arith, length-take n bytes) in
    subst (λ (p : List ℕ × List ℕ). Takes bytes p.0 p.1 × (length p.0 ≡ n)) g.1 (record { parts = sym (take-append-drop n bytes); rest_fits = IsBytes-drop n bytes fits }, len)

part_again : (field : ℕ) (text rest : List ℕ) → part_at (length text) field (text ++ rest) ≡ Ok (text, rest)
unfolding part_at
part_again field text rest =
    let long : ltb (length (text ++ rest)) (length text) ≡ false = le-ltb _ _ (omega (arith, length-append text rest)) in
    rw (long, take_at text rest (length text) refl, drop_at text rest (length text) refl) refl

abbrev pub string : Width → List ℕ → List ℕ
string w text = to_be_bytes w (length text) ++ text

string_takes : (w : Width) (limit : ℕ) (wide : IsWide w limit) (field : ℕ) (bytes : List ℕ) (x : List ℕ × List ℕ) → IsBytes bytes → string_at w field bytes ≡ Ok x → Takes bytes (string w x.0) x.1 × (length x.0 < limit)
unfolding string_at
string_takes w limit wide field bytes x fits e =
    let b = bind_ok (number_at w field bytes) (λ n. part_at n.0 field n.1) x e in
    let t = number_takes w limit wide field bytes b.0 fits b.1 in
    let p = part_takes b.0.0 field b.0.1 x t.0.rest_fits b.2 in
    let both = Takes-then bytes (to_be_bytes w b.0.0) b.0.1 x.0 x.1 t.0 p.0 in
    (subst (λ (k : ℕ). Takes bytes (to_be_bytes w k ++ x.0) x.1) (sym p.1) both, omega (arith, t.1, p.1))

string_again : (w : Width) (limit : ℕ) (wide : IsWide w limit) (field : ℕ) (text rest : List ℕ) → length text < limit → string_at w field (string w text ++ rest) ≡ Ok (text, rest)
unfolding string_at
string_again w limit wide field text rest lt =
    let regrouped : string w text ++ rest ≡ to_be_bytes w (length text) ++ (text ++ rest) = append_assoc (to_be_bytes w (length text)) text rest in
    ap (λ (bytes : List ℕ). number_at w field bytes >>= λ n. part_at n.0 field n.1) regrouped ∙ rw (number_again w limit wide field (length text) (text ++ rest) lt) (part_again field text rest)

pub string_codec : (w : Width) (limit : ℕ) → IsWide w limit → IsCodec (string w) (λ t. length t < limit) (string_at w)
string_codec w limit wide = record { takes = string_takes w limit wide; again = string_again w limit wide }

-- ---- what passes a test

abbrev pub tested_at : {A : Type 0} → (A → Bool) → Reader A → Reader A
tested_at ok at field bytes = at field bytes >>= λ x. tested ok field x

pub tested_codec : {A : Type 0} (s : A → List ℕ) (F : A → Type 0) (at : Reader A) (ok : A → Bool) → IsCodec s F at → ((a : A) → ok a ≡ true → F a) → IsCodec s (λ a. ok a ≡ true) (tested_at ok at)
tested_codec {A} s F at ok codec fits = record {
  takes = λ field bytes x is e.
      let b = bind_ok (at field bytes) (λ y. tested ok field y) x e in
      let g = guard_passed (ok b.0.0) field b.0 x b.2 in
      let t = codec.takes field bytes b.0 is b.1 in
      subst (λ (y : A × List ℕ). Takes bytes (s y.0) y.1 × (ok y.0 ≡ true)) g.1 (t.0, g.0);
  again = λ field a rest passes. rw (codec.again field a rest (fits a passes), passes) refl;
}

-- ---- behind a flag

IsBytes-rest : (b : ℕ) (bytes : List ℕ) → IsBytes (b ∷ bytes) → IsBytes bytes
IsBytes-rest b bytes h i = h (suc i)

flagged_takes : {A : Type 0} (s : A → List ℕ) (F : A → Type 0) (at : Reader A) → IsCodec s F at → (field : ℕ) (bytes : List ℕ) (x : Option A × List ℕ) → IsBytes bytes → flagged_at at field bytes ≡ Ok x → Takes bytes (flagged s x.0) x.1 × FitsIfSome F x.0
unfolding flagged_at flagged
flagged_takes s F at codec field [] x fits e = absurd cc
flagged_takes {A} s F at codec field (zero ∷ bytes) x fits e =
    subst (λ (y : Option A × List ℕ). Takes (0 ∷ bytes) (flagged s y.0) y.1 × FitsIfSome F y.0) (ok_is (None, bytes) x e) (record { parts = refl; rest_fits = IsBytes-rest 0 bytes fits }, tt)
flagged_takes {A} s F at codec field (suc zero ∷ bytes) x fits e =
    let b = bind_ok (at field bytes) (λ v. Ok (Some v.0, v.1)) x e in
    let t = codec.takes field bytes b.0 (IsBytes-rest 1 bytes fits) b.1 in
    subst (λ (y : Option A × List ℕ). Takes (1 ∷ bytes) (flagged s y.0) y.1 × FitsIfSome F y.0) (ok_is (Some b.0.0, b.0.1) x b.2) (record { parts = ap (λ (w : List ℕ). 1 ∷ w) t.0.parts; rest_fits = t.0.rest_fits }, t.1)
flagged_takes s F at codec field (suc (suc b) ∷ bytes) x fits e = absurd cc

flagged_again : {A : Type 0} (s : A → List ℕ) (F : A → Type 0) (at : Reader A) → IsCodec s F at → (field : ℕ) (o : Option A) (rest : List ℕ) → FitsIfSome F o → flagged_at at field (flagged s o ++ rest) ≡ Ok (o, rest)
unfolding flagged_at flagged
flagged_again s F at codec field None rest h = refl
flagged_again s F at codec field (Some a) rest h = rw (codec.again field a rest h) refl

pub flagged_codec : {A : Type 0} (s : A → List ℕ) (F : A → Type 0) (at : Reader A) → IsCodec s F at → IsCodec (flagged s) (FitsIfSome F) (flagged_at at)
flagged_codec s F at codec = record { takes = flagged_takes s F at codec; again = flagged_again s F at codec }

-- ---- one after another

items_take : {A : Type 0} (s : A → List ℕ) (F : A → Type 0) (at : Reader A) → IsCodec s F at → (n field : ℕ) (bytes : List ℕ) (x : List A × List ℕ) → IsBytes bytes → items_at at n field bytes ≡ Ok x
    → Takes bytes (flat_map s x.0) x.1 × (length x.0 ≡ n) × AllByRecursion F x.0
unfolding items_at
items_take {A} s F at codec zero field bytes x fits e =
    subst (λ (y : List A × List ℕ). Takes bytes (flat_map s y.0) y.1 × (length y.0 ≡ 0) × AllByRecursion F y.0) (ok_is ([], bytes) x e) (record { parts = refl; rest_fits = fits }, refl, tt)
items_take {A} s F at codec (suc n) field bytes x fits e =
    let a = bind_ok (at field bytes) (λ first. items_at at n field first.1 >>= λ others. Ok (first.0 ∷ others.0, others.1)) x e in
    let b = bind_ok (items_at at n field a.0.1) (λ others. Ok (a.0.0 ∷ others.0, others.1)) x a.2 in
    let first = codec.takes field bytes a.0 fits a.1 in
    let second = items_take s F at codec n field a.0.1 b.0 first.0.rest_fits b.1 in
    let both = Takes-then bytes (s a.0.0) a.0.1 (flat_map s b.0.0) b.0.1 first.0 second.0 in
    let made : List A × List ℕ = (a.0.0 ∷ b.0.0, b.0.1) in
    subst (λ (y : List A × List ℕ). Takes bytes (flat_map s y.0) y.1 × (length y.0 ≡ suc n) × AllByRecursion F y.0) (ok_is made x b.2) (rw flat_map-cons both, ap suc second.1, (first.1, second.2))

items_again : {A : Type 0} (s : A → List ℕ) (F : A → Type 0) (at : Reader A) → IsCodec s F at → (field : ℕ) (xs : List A) (rest : List ℕ) → AllByRecursion F xs → items_at at (length xs) field (flat_map s xs ++ rest) ≡ Ok (xs, rest)
unfolding items_at
items_again s F at codec field [] rest fits = refl
items_again s F at codec field (x ∷ xs) rest fits =
    let regrouped : flat_map s (x ∷ xs) ++ rest ≡ s x ++ (flat_map s xs ++ rest) = ap (λ (bytes : List ℕ). bytes ++ rest) (flat_map-cons s x xs) ∙ append_assoc (s x) (flat_map s xs) rest in
    ap (items_at at (suc (length xs)) field) regrouped ∙ rw (codec.again field x (flat_map s xs ++ rest) fits.0, items_again s F at codec field xs rest fits.1) refl

pub counted_codec : {A : Type 0} (w : Width) (limit : ℕ) → IsWide w limit → (s : A → List ℕ) (F : A → Type 0) (at : Reader A) → IsCodec s F at → IsCodec (counted w s) (FitsEach limit F) (counted_at w at)
unfolding counted_at counted
counted_codec {A} w limit wide s F at codec = record {
  takes = λ field bytes x fits e.
      let b = bind_ok (number_at w field bytes) (λ n. items_at at n.0 field n.1) x e in
      let t = number_takes w limit wide field bytes b.0 fits b.1 in
      let i = items_take s F at codec b.0.0 field b.0.1 x t.0.rest_fits b.2 in
      let both = Takes-then bytes (to_be_bytes w b.0.0) b.0.1 (flat_map s x.0) x.1 t.0 i.0 in
      (subst (λ (k : ℕ). Takes bytes (to_be_bytes w k ++ flat_map s x.0) x.1) (sym i.1) both, (omega (arith, t.1, i.1), i.2));
  again = λ field xs rest fits.
      ap (λ (bytes : List ℕ). number_at w field bytes >>= λ n. items_at at n.0 field n.1) (append_assoc (to_be_bytes w (length xs)) (flat_map s xs) rest)
      ∙ rw (number_again w limit wide field (length xs) (flat_map s xs ++ rest) fits.0) (items_again s F at codec field xs rest fits.1);
}

-- ---- one value and then another, which make a third

abbrev pub pair_at : {A B C : Type 0} → Reader A → Reader B → (A → B → C) → Reader C
pair_at at next make field bytes = at field bytes >>= λ x. next field x.1 >>= λ y. Ok (make x.0 y.0, y.1)

pub pair_codec : {A B C : Type 0} (s : A → List ℕ) (F : A → Type 0) (at : Reader A) (t : B → List ℕ) (G : B → Type 0) (next : Reader B) (make : A → B → C) (first : C → A) (second : C → B)
    → IsCodec s F at → IsCodec t G next → ((c : C) → make (first c) (second c) ≡ c) → ((a : A) (b : B) → first (make a b) ≡ a) → ((a : A) (b : B) → second (make a b) ≡ b)
    → IsCodec (λ c. s (first c) ++ t (second c)) (λ c. F (first c) × G (second c)) (pair_at at next make)
pair_codec {A} {B} {C} s F at t G next make first second one other whole is_first is_second = record {
  takes = λ field bytes x fits e.
      let a = bind_ok (at field bytes) (λ v. next field v.1 >>= λ y. Ok (make v.0 y.0, y.1)) x e in
      let b = bind_ok (next field a.0.1) (λ y. Ok (make a.0.0 y.0, y.1)) x a.2 in
      let p = one.takes field bytes a.0 fits a.1 in
      let q = other.takes field a.0.1 b.0 p.0.rest_fits b.1 in
      let both = Takes-then bytes (s a.0.0) a.0.1 (t b.0.0) b.0.1 p.0 q.0 in
      let made : C × List ℕ = (make a.0.0 b.0.0, b.0.1) in
      subst (λ (y : C × List ℕ). Takes bytes (s (first y.0) ++ t (second y.0)) y.1 × (F (first y.0) × G (second y.0))) (ok_is made x b.2) (rw (is_first a.0.0 b.0.0, is_second a.0.0 b.0.0) both, (rw (is_first a.0.0 b.0.0) p.1, rw (is_second a.0.0 b.0.0) q.1));
  again = λ field c rest fits.
      ap (pair_at at next make field) (append_assoc (s (first c)) (t (second c)) rest)
      ∙ rw (one.again field (first c) (t (second c) ++ rest) fits.0, other.again field (second c) rest fits.1) (ap (λ (v : C). done (v, rest)) (whole c));
}

-- ---- four values, which make a fifth

abbrev pub four_at : {A B C D Z : Type 0} → Reader A → Reader B → Reader C → Reader D → (A → B → C → D → Z) → Reader Z
four_at at1 at2 at3 at4 make field bytes = at1 field bytes >>= λ a. at2 field a.1 >>= λ b. at3 field b.1 >>= λ c. at4 field c.1 >>= λ d. Ok (make a.0 b.0 c.0 d.0, d.1)

pub record Parts (A B C D Z : Type 0) : Type 0 where
  pub make : A → B → C → D → Z
  pub one : Z → A
  pub two : Z → B
  pub three : Z → C
  pub four : Z → D
  pub whole : (z : Z) → make (one z) (two z) (three z) (four z) ≡ z
  pub is_one : (a : A) (b : B) (c : C) (d : D) → one (make a b c d) ≡ a
  pub is_two : (a : A) (b : B) (c : C) (d : D) → two (make a b c d) ≡ b
  pub is_three : (a : A) (b : B) (c : C) (d : D) → three (make a b c d) ≡ c
  pub is_four : (a : A) (b : B) (c : C) (d : D) → four (make a b c d) ≡ d

pub four_codec : {A B C D Z : Type 0} (p : Parts A B C D Z) (s1 : A → List ℕ) (F1 : A → Type 0) (at1 : Reader A) (s2 : B → List ℕ) (F2 : B → Type 0) (at2 : Reader B) (s3 : C → List ℕ) (F3 : C → Type 0) (at3 : Reader C) (s4 : D → List ℕ) (F4 : D → Type 0) (at4 : Reader D)
    → IsCodec s1 F1 at1 → IsCodec s2 F2 at2 → IsCodec s3 F3 at3 → IsCodec s4 F4 at4
    → IsCodec (λ z. s1 (p.one z) ++ (s2 (p.two z) ++ (s3 (p.three z) ++ s4 (p.four z)))) (λ z. F1 (p.one z) × (F2 (p.two z) × (F3 (p.three z) × F4 (p.four z)))) (four_at at1 at2 at3 at4 p.make)
four_codec {A} {B} {C} {D} {Z} p s1 F1 at1 s2 F2 at2 s3 F3 at3 s4 F4 at4 k1 k2 k3 k4 = record {
  takes = λ field bytes x fits e.
      let a = bind_ok (at1 field bytes) (λ a. at2 field a.1 >>= λ b. at3 field b.1 >>= λ c. at4 field c.1 >>= λ d. Ok (p.make a.0 b.0 c.0 d.0, d.1)) x e in
      let b = bind_ok (at2 field a.0.1) (λ b. at3 field b.1 >>= λ c. at4 field c.1 >>= λ d. Ok (p.make a.0.0 b.0 c.0 d.0, d.1)) x a.2 in
      let c = bind_ok (at3 field b.0.1) (λ c. at4 field c.1 >>= λ d. Ok (p.make a.0.0 b.0.0 c.0 d.0, d.1)) x b.2 in
      let d = bind_ok (at4 field c.0.1) (λ d. Ok (p.make a.0.0 b.0.0 c.0.0 d.0, d.1)) x c.2 in
      let t1 = k1.takes field bytes a.0 fits a.1 in
      let t2 = k2.takes field a.0.1 b.0 t1.0.rest_fits b.1 in
      let t3 = k3.takes field b.0.1 c.0 t2.0.rest_fits c.1 in
      let t4 = k4.takes field c.0.1 d.0 t3.0.rest_fits d.1 in
      let e34 = Takes-then b.0.1 (s3 c.0.0) c.0.1 (s4 d.0.0) d.0.1 t3.0 t4.0 in
      let e24 = Takes-then a.0.1 (s2 b.0.0) b.0.1 (s3 c.0.0 ++ s4 d.0.0) d.0.1 t2.0 e34 in
      let e14 = Takes-then bytes (s1 a.0.0) a.0.1 (s2 b.0.0 ++ (s3 c.0.0 ++ s4 d.0.0)) d.0.1 t1.0 e24 in
      let i1 = p.is_one a.0.0 b.0.0 c.0.0 d.0.0 in
      let i2 = p.is_two a.0.0 b.0.0 c.0.0 d.0.0 in
      let i3 = p.is_three a.0.0 b.0.0 c.0.0 d.0.0 in
      let i4 = p.is_four a.0.0 b.0.0 c.0.0 d.0.0 in
      let made : Z × List ℕ = (p.make a.0.0 b.0.0 c.0.0 d.0.0, d.0.1) in
      subst (λ (y : Z × List ℕ). Takes bytes (s1 (p.one y.0) ++ (s2 (p.two y.0) ++ (s3 (p.three y.0) ++ s4 (p.four y.0)))) y.1 × (F1 (p.one y.0) × (F2 (p.two y.0) × (F3 (p.three y.0) × F4 (p.four y.0))))) (ok_is made x d.2)
      (rw (i1, i2, i3, i4) e14, (rw i1 t1.1, (rw i2 t2.1, (rw i3 t3.1, rw i4 t4.1))));
  again = λ field z rest fits.
      let b1 = s1 (p.one z) in let b2 = s2 (p.two z) in let b3 = s3 (p.three z) in let b4 = s4 (p.four z) in
      let regrouped : (b1 ++ (b2 ++ (b3 ++ b4))) ++ rest ≡ b1 ++ (b2 ++ (b3 ++ (b4 ++ rest))) = append_assoc b1 (b2 ++ (b3 ++ b4)) rest ∙ ap (λ (y : List ℕ). b1 ++ y) (append_assoc b2 (b3 ++ b4) rest ∙ ap (λ (y : List ℕ). b2 ++ y) (append_assoc b3 b4 rest)) in
      ap (four_at at1 at2 at3 at4 p.make field) regrouped
      ∙ rw (k1.again field (p.one z) (b2 ++ (b3 ++ (b4 ++ rest))) fits.0, k2.again field (p.two z) (b3 ++ (b4 ++ rest)) fits.1.0, k3.again field (p.three z) (b4 ++ rest) fits.1.1.0, k4.again field (p.four z) rest fits.1.1.1) (ap (λ (v : Z). done (v, rest)) (p.whole z));
}
