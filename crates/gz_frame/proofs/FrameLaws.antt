-- Frames, and the bytes that begin with them.
use Rattle.std.proofs.Common.{◌≡◌, ℕ, ◌<◌, ◌≤◌, ◌+◌, ◌-◌, ◌*◌, ◌^◌, ◌==◌, ◌/◌, ◌%◌, List, [], ◌∷◌, ◌++◌, length, drop, take, get_or, slice_range, Option, Some, None, Result, Ok, Err, Bool, true, false, cond, refl, sym, ◌∙◌, ap, All, lit<, replicate, append_assoc, append-nil, nat_lt, suc, zero, arith, subst, inl, inr, IfOk, ◌↔◌, Fits, w8}
use Rattle.std.proofs.lemmas.Grind.{common_steps}
use Rattle.std.proofs.lemmas.Bool.{cases_lt}
use Rattle.std.proofs.lemmas.List.{drop-append-le, take-append-le, get_or_default}
use Rattle.std.proofs.lemmas.List.Elements.{All-drop, All-take, All-append, All-replicate}
use Rattle.std.specs.Int.{w32, to_le_bytes}
use Rattle.gz_frame.specs.Frame.{magic, first_other, low_first, length_in, frame_of, max_content, unframed, unframed_unless, IsFramed, IsPrefix}
use Rattle.gz_frame.specs.declared.frame.FrameError.{FrameError}
use Rattle.gz_frame.specs.declared.frame.FrameError.TheVariants.{NeedMore, BadMagic, TooLong}
use Rattle.gz_frame.specs.declared.frame.Unframed.{Unframed}

-- the four bytes of a length
length_again : (n : ℕ) (rest : List ℕ) → n < 2 ^ 32 → low_first (take 4 (to_le_bytes w32 n ++ rest)) ≡ n
length_again n rest fits = omega arith

not_above : (m n : ℕ) → n ≤ m → nat_lt m n ≡ false
not_above m n within = grind (arith, common_steps)

above : (m n : ℕ) → m < n → nat_lt m n ≡ true
above m n more = grind (arith, common_steps)

whole_place : (bytes : List ℕ) (n : ℕ) → first_other 0 magic bytes ≡ None → length_in bytes ≡ n → n ≤ max_content → 8 + n ≤ length bytes →
    unframed bytes ≡ Ok (record { begin = 8; end = 8 + n; used = 8 + n })
whole_place bytes n begins len short whole = rw (begins, len, not_above max_content n short, not_above (length bytes) (8 + n) whole) refl

frame_length : (content rest : List ℕ) → length (frame_of content ++ rest) ≡ 8 + length content + length rest
frame_length content rest = grind (arith, common_steps)

-- a frame is found wherever bytes begin with it
pub frame_found : (content rest : List ℕ) → length content ≤ max_content →
    unframed (frame_of content ++ rest) ≡ Ok (record { begin = 8; end = 8 + length content; used = 8 + length content })
frame_found content rest short =
    let long = frame_length content rest in
    whole_place (frame_of content ++ rest) (length content) refl (length_again (length content) (content ++ rest) (omega arith)) short (omega arith)

used_of : Result Unframed FrameError → ℕ
used_of (Ok place) = place.used
used_of (Err e) = 0

no_bytes : {A : Type 0} (xs : List A) → length xs ≡ 0 → xs ≡ []
no_bytes [] none = refl
no_bytes (x ∷ xs) none = absurd (omega arith)

-- where the frame of a content of so many bytes stands
abbrev place_of : ℕ → Unframed
place_of n = record { begin = 8; end = 8 + n; used = 8 + n }

abbrev found_at : ℕ → Result Unframed FrameError
found_at n = Ok (place_of n)

used_at : (n m : ℕ) → found_at n ≡ found_at m → n ≡ m
unfolding used_of
used_at n m same = let e : 8 + n ≡ 8 + m = ap used_of same in omega arith

-- no frame is a proper prefix of another one
pub frames_apart : (content other more : List ℕ) → length content ≤ max_content → length other ≤ max_content →
    frame_of content ++ more ≡ frame_of other → more ≡ []
frames_apart content other more short short_other same =
    let lens : length content ≡ length other = used_at (length content) (length other)
    (sym (frame_found content more short) ∙ ap unframed (same ∙ sym (append-nil (frame_of other))) ∙ frame_found other [] short_other) in
    let long = frame_length content more in
    let long_other = frame_length other [] in
    let both : length (frame_of content ++ more) ≡ length (frame_of other ++ []) = ap length (same ∙ sym (append-nil (frame_of other))) in
    no_bytes more (omega arith)

-- ---- a frame that is found stands there

other_step : (m b at : ℕ) (ms bs : List ℕ) (test : Bool) → (b == m) ≡ test → cond test (first_other (at + 1) ms bs) (Some at) ≡ None →
    (b ≡ m) × (first_other (at + 1) ms bs ≡ None)
other_step m b at ms bs true same none = (grind (arith, common_steps), none)
other_step m b at ms bs false same none = absurd (let e : Some at ≡ None = none in cc)

-- bytes in which no byte is another one begin with what is wanted, as far as they go
begins_whole : (at : ℕ) (ms bytes : List ℕ) → first_other at ms bytes ≡ None → length ms ≤ length bytes → ms ++ drop (length ms) bytes ≡ bytes
begins_whole at [] bytes none long = refl
begins_whole at (m ∷ ms) [] none long = absurd (omega arith)
begins_whole at (m ∷ ms) (b ∷ bs) none long =
    let p = other_step m b at ms bs (b == m) refl none in
    let rest : ms ++ drop (length ms) bs ≡ bs = begins_whole (at + 1) ms bs p.1 (omega arith) in
    grind (arith, common_steps)

begins_part : (at : ℕ) (ms bytes : List ℕ) → first_other at ms bytes ≡ None → length bytes ≤ length ms → bytes ++ drop (length bytes) ms ≡ ms
begins_part at ms [] none short = refl
begins_part at [] (b ∷ bs) none short = absurd (omega arith)
begins_part at (m ∷ ms) (b ∷ bs) none short =
    let p = other_step m b at ms bs (b == m) refl none in
    let rest : bs ++ drop (length bs) ms ≡ ms = begins_part (at + 1) ms bs p.1 (omega arith) in
    grind (arith, common_steps)

four_items : (a b c d n : ℕ) → a < 2 ^ 8 → b < 2 ^ 8 → c < 2 ^ 8 → d < 2 ^ 8 →
    n ≡ a + 2 ^ 8 * (b + 2 ^ 8 * (c + 2 ^ 8 * (d + 2 ^ 8 * 0))) → to_le_bytes w32 n ≡ a ∷ b ∷ c ∷ d ∷ []
four_items a b c d n a_fits b_fits c_fits d_fits number =
    let first : n % 2 ^ 8 ≡ a = omega arith in
    let second : n / 2 ^ 8 % 2 ^ 8 ≡ b = omega arith in
    let third : n / 2 ^ 16 % 2 ^ 8 ≡ c = omega arith in
    let last : n / 2 ^ 24 % 2 ^ 8 ≡ d = omega arith in
    cc

regroup : {A : Type 0} (a b c d : List A) → a ++ b ++ c ++ d ≡ a ++ (b ++ (c ++ d))
regroup a b c d = simp append_assoc

regroup_tail : {A : Type 0} (a b c d : List A) → a ++ (b ++ c) ++ d ≡ a ++ b ++ (c ++ d)
regroup_tail a b c d = simp append_assoc

regroup_middle : {A : Type 0} (a b c d : List A) → a ++ b ++ (c ++ d) ≡ a ++ (b ++ c) ++ d
regroup_middle a b c d = simp append_assoc

small_zeros : (k : ℕ) → All (λ byte. byte < 2 ^ 8) (replicate k 0)
small_zeros k = All-replicate (λ byte. byte < 2 ^ 8) k 0 (lit< tt)

less : {m n : ℕ} → nat_lt m n ≡ true → m < n
less same = grind (arith, common_steps)

same_length : (n : ℕ) → (n == n) ≡ true
same_length n = grind (arith, common_steps)

err_ok : {A E : Type 0} {e : E} {x : A} → let r : Result A E = Err e in r ≡ Ok x → ⊥
err_ok same = cc

ok_same : {A E : Type 0} {x y : A} → let r : Result A E = Ok x in r ≡ Ok y → x ≡ y
ok_same same = cc

not_less : {m n : ℕ} → nat_lt m n ≡ false → n ≤ m
not_less same = grind (arith, common_steps)

-- four bytes, with the low one first, are the bytes of their number
four_again : (xs : List ℕ) → length xs ≡ 4 → All (λ byte. byte < 2 ^ 8) xs → to_le_bytes w32 (low_first xs) ≡ xs
four_again (a ∷ b ∷ c ∷ d ∷ []) four fit =
    four_items a b c d _ (fit 0 0 (lit< tt)) (fit 1 0 (lit< tt)) (fit 2 0 (lit< tt)) (fit 3 0 (lit< tt)) refl
four_again xs four fit = absurd (omega arith)

-- the bytes of a frame with its content behind its head
framed_at : (bytes : List ℕ) (n : ℕ) → All (λ byte. byte < 2 ^ 8) bytes → first_other 0 magic bytes ≡ None → length_in bytes ≡ n → n ≤ max_content → 8 + n ≤ length bytes →
    IsFramed bytes (place_of n)
framed_at bytes n fit begins len short long =
    let four = take 4 (drop 4 bytes) in
    let tail = drop 8 bytes in
    let head : magic ++ drop 4 bytes ≡ bytes = begins_whole 0 magic bytes begins (omega arith) in
    let fit_four : All (λ byte. byte < 2 ^ 8) four = All-take (λ byte. byte < 2 ^ 8) 4 (drop 4 bytes) (All-drop (λ byte. byte < 2 ^ 8) 4 bytes fit) in
    let four_long : length four ≡ 4 = grind (arith, common_steps) in
    let again : to_le_bytes w32 n ≡ four = rw (← len) (four_again four four_long fit_four) in
    let content : slice_range bytes 8 (8 + n) ≡ take n tail = grind (arith, common_steps) in
    let content_long : length (take n tail) ≡ n = grind (arith, common_steps) in
    let split : four ++ tail ≡ drop 4 bytes = grind (arith, common_steps) in
    let rest : take n tail ++ drop (8 + n) bytes ≡ tail = grind (arith, common_steps) in
    record {
      starts = refl;
      ends = refl;
      short = rw (content, content_long) short;
      joined =
          ap (λ c. frame_of c ++ drop (8 + n) bytes) content
          ∙ ap (λ k. magic ++ to_le_bytes w32 k ++ take n tail ++ drop (8 + n) bytes) content_long
          ∙ ap (λ f. magic ++ f ++ take n tail ++ drop (8 + n) bytes) again
          ∙ regroup magic four (take n tail) (drop (8 + n) bytes) ∙ ap (λ t. magic ++ (four ++ t)) rest ∙ ap (λ t. magic ++ t) split ∙ head;
    }

framed_within : (bytes : List ℕ) (n : ℕ) (place : Unframed) (far short : Bool) → nat_lt max_content n ≡ far → nat_lt (length bytes) (8 + n) ≡ short →
    All (λ byte. byte < 2 ^ 8) bytes → first_other 0 magic bytes ≡ None → length_in bytes ≡ n →
    cond far (Err TooLong) (cond short (Err NeedMore) (found_at n)) ≡ Ok place → IsFramed bytes place
framed_within bytes n place true short is_far is_short fit begins len found = absurd (err_ok found)
framed_within bytes n place false true is_far is_short fit begins len found = absurd (err_ok found)
framed_within bytes n place false false is_far is_short fit begins len found =
    subst (IsFramed bytes) (ok_same found) (framed_at bytes n fit begins len (not_less is_far) (not_less is_short))

framed_if : (bytes : List ℕ) (place : Unframed) (o : Option ℕ) → first_other 0 magic bytes ≡ o → All (λ byte. byte < 2 ^ 8) bytes →
    unframed_unless o bytes ≡ Ok place → IsFramed bytes place
framed_if bytes place (Some at) begins fit found = absurd (err_ok found)
framed_if bytes place None begins fit found = framed_within bytes (length_in bytes) place _ _ refl refl fit begins refl found

-- what is found is a frame
pub found_framed : (bytes : List ℕ) (place : Unframed) → All (λ byte. byte < 2 ^ 8) bytes → unframed bytes ≡ Ok place → IsFramed bytes place
found_framed bytes place fit found = framed_if bytes place _ refl fit found

-- ---- more is needed exactly of a proper prefix of a frame

zeros_add : (xs : List ℕ) (k : ℕ) → low_first (xs ++ replicate k 0) ≡ low_first xs
zeros_add [] zero = refl
zeros_add [] (suc k) = let rest : low_first (replicate k 0) ≡ 0 = zeros_add [] k in grind (arith, common_steps)
zeros_add (x ∷ xs) k = ap (λ n. x + 2 ^ 8 * n) (zeros_add xs k)

-- the head is there
long_prefix : (bytes : List ℕ) (n : ℕ) → All (λ byte. byte < 2 ^ 8) bytes → first_other 0 magic bytes ≡ None → length_in bytes ≡ n → n ≤ max_content → length bytes < 8 + n → 8 ≤ length bytes →
    IsPrefix bytes
long_prefix bytes n fit begins len short part long =
    let four = take 4 (drop 4 bytes) in
    let tail = drop 8 bytes in
    let zeros : List ℕ = replicate (8 + n - length bytes) 0 in
    let head : magic ++ drop 4 bytes ≡ bytes = begins_whole 0 magic bytes begins (omega arith) in
    let fit_four : All (λ byte. byte < 2 ^ 8) four = All-take (λ byte. byte < 2 ^ 8) 4 (drop 4 bytes) (All-drop (λ byte. byte < 2 ^ 8) 4 bytes fit) in
    let four_long : length four ≡ 4 = grind (arith, common_steps) in
    let again : to_le_bytes w32 n ≡ four = rw (← len) (four_again four four_long fit_four) in
    let zeros_long : length zeros ≡ 8 + n - length bytes = grind (arith, common_steps) in
    let tail_long : length tail ≡ length bytes - 8 = grind (arith, common_steps) in
    let content_long : length (tail ++ zeros) ≡ n = grind (arith, common_steps) in
    let split : four ++ tail ≡ drop 4 bytes = grind (arith, common_steps) in
    record {
      content = tail ++ zeros;
      more = zeros;
      short = rw content_long short;
      some = omega arith;
      joined =
          ap (λ b. b ++ zeros) (sym head) ∙ ap (λ b. magic ++ b ++ zeros) (sym split) ∙ regroup_tail magic four tail zeros
          ∙ ap (λ f. magic ++ f ++ (tail ++ zeros)) (sym again) ∙ ap (λ k. magic ++ to_le_bytes w32 k ++ (tail ++ zeros)) (sym content_long);
    }

-- the magic is there, and a part of the length
middle_prefix : (bytes : List ℕ) (n : ℕ) → All (λ byte. byte < 2 ^ 8) bytes → first_other 0 magic bytes ≡ None → length_in bytes ≡ n → n ≤ max_content → 4 ≤ length bytes → length bytes < 8 →
    IsPrefix bytes
middle_prefix bytes n fit begins len short some part =
    let low = drop 4 bytes in
    let missing : List ℕ = replicate (8 - length bytes) 0 in
    let zeros : List ℕ = replicate n 0 in
    let head : magic ++ low ≡ bytes = begins_whole 0 magic bytes begins some in
    let low_long : length low ≡ length bytes - 4 = grind (arith, common_steps) in
    let missing_long : length missing ≡ 8 - length bytes = grind (arith, common_steps) in
    let all_low : take 4 low ≡ low = grind (arith, common_steps) in
    let value : low_first (low ++ missing) ≡ n = zeros_add low (8 - length bytes) ∙ ap low_first (sym all_low) ∙ len in
    let four_long : length (low ++ missing) ≡ 4 = grind (arith, common_steps) in
    let fit_four : All (λ byte. byte < 2 ^ 8) (low ++ missing) = All-append (λ byte. byte < 2 ^ 8) low missing (All-drop (λ byte. byte < 2 ^ 8) 4 bytes fit) (small_zeros (8 - length bytes)) in
    let again : to_le_bytes w32 n ≡ low ++ missing = rw (← value) (four_again (low ++ missing) four_long fit_four) in
    let zeros_long : length zeros ≡ n = grind (arith, common_steps) in
    record {
      content = zeros;
      more = missing ++ zeros;
      short = rw zeros_long short;
      some = grind (arith, common_steps);
      joined =
          ap (λ b. b ++ (missing ++ zeros)) (sym head) ∙ regroup_middle magic low missing zeros
          ∙ ap (λ f. magic ++ f ++ zeros) (sym again) ∙ ap (λ k. magic ++ to_le_bytes w32 k ++ zeros) (sym zeros_long);
    }

-- not even the magic is whole
short_prefix : (bytes : List ℕ) → first_other 0 magic bytes ≡ None → length bytes < 4 → IsPrefix bytes
short_prefix bytes begins part =
    let rest = drop (length bytes) magic in
    let whole : bytes ++ rest ≡ magic = begins_part 0 magic bytes begins (omega arith) in
    record {
      content = [];
      more = rest ++ to_le_bytes w32 0;
      short = omega arith;
      some = grind (arith, common_steps);
      joined = sym (append_assoc bytes rest (to_le_bytes w32 0)) ∙ ap (λ b. b ++ to_le_bytes w32 0) whole;
    }

prefix_at : (bytes : List ℕ) (n : ℕ) → All (λ byte. byte < 2 ^ 8) bytes → first_other 0 magic bytes ≡ None → length_in bytes ≡ n → n ≤ max_content → length bytes < 8 + n → IsPrefix bytes
prefix_at bytes n fit begins len short part = elim (cases_lt (length bytes) 8) [
  | inr long ↦ long_prefix bytes n fit begins len short part long
  | inl small ↦ elim (cases_lt (length bytes) 4) [
    | inr some ↦ middle_prefix bytes n fit begins len short some small
    | inl few ↦ short_prefix bytes begins few
  ]
]

err_same : {A E : Type 0} {e : E} {x : A} → let r : Result A E = Ok x in r ≡ Err e → ⊥
err_same same = cc

too_long : let r : Result Unframed FrameError = Err TooLong in r ≡ Err NeedMore → ⊥
too_long same = cc

bad_magic : (at : ℕ) → let r : Result Unframed FrameError = Err (BadMagic at) in r ≡ Err NeedMore → ⊥
bad_magic at same = cc

prefix_within : (bytes : List ℕ) (n : ℕ) (far short : Bool) → nat_lt max_content n ≡ far → nat_lt (length bytes) (8 + n) ≡ short →
    All (λ byte. byte < 2 ^ 8) bytes → first_other 0 magic bytes ≡ None → length_in bytes ≡ n →
    cond far (Err TooLong) (cond short (Err NeedMore) (found_at n)) ≡ Err NeedMore → IsPrefix bytes
prefix_within bytes n true short is_far is_short fit begins len needs = absurd (too_long needs)
prefix_within bytes n false true is_far is_short fit begins len needs = prefix_at bytes n fit begins len (not_less is_far) (less is_short)
prefix_within bytes n false false is_far is_short fit begins len needs = absurd (err_same needs)

prefix_if : (bytes : List ℕ) (o : Option ℕ) → first_other 0 magic bytes ≡ o → All (λ byte. byte < 2 ^ 8) bytes → unframed_unless o bytes ≡ Err NeedMore → IsPrefix bytes
prefix_if bytes (Some at) begins fit needs = absurd (bad_magic at needs)
prefix_if bytes None begins fit needs = prefix_within bytes (length_in bytes) _ _ refl refl fit begins refl needs

-- where more is needed, the bytes are a prefix of a frame
pub needed_prefix : (bytes : List ℕ) → All (λ byte. byte < 2 ^ 8) bytes → unframed bytes ≡ Err NeedMore → IsPrefix bytes
needed_prefix bytes fit needs = prefix_if bytes _ refl fit needs

-- ---- and the other way round

prefix_same : (at : ℕ) (ms xs ys : List ℕ) → first_other at ms (xs ++ ys) ≡ None → first_other at ms xs ≡ None
prefix_same at [] [] ys none = refl
prefix_same at [] (x ∷ xs) ys none = refl
prefix_same at (m ∷ ms) [] ys none = refl
prefix_same at (m ∷ ms) (x ∷ xs) ys none =
    let p = other_step m x at ms (xs ++ ys) (x == m) refl none in
    rw (p.0, same_length m) (prefix_same (at + 1) ms xs ys p.1)

low_prefix : (k : ℕ) (xs ys : List ℕ) → low_first (take k xs) ≤ low_first (take k (xs ++ ys))
low_prefix zero [] ys = omega arith
low_prefix (suc k) [] ys = omega arith
low_prefix zero (x ∷ xs) ys = omega arith
low_prefix (suc k) (x ∷ xs) ys = let rest = low_prefix k xs ys in omega arith

length_prefix : (bytes more : List ℕ) → length_in bytes ≤ length_in (bytes ++ more)
length_prefix bytes more = elim (cases_lt (length bytes) 4) [
  | inl few ↦ let none : drop 4 bytes ≡ [] = grind (arith, common_steps) in rw none (omega arith)
  | inr some ↦
      let behind : drop 4 (bytes ++ more) ≡ drop 4 bytes ++ more = drop-append-le 4 bytes more some in
      let prefix = low_prefix 4 (drop 4 bytes) more in
      rw behind prefix
]

length_same : (bytes more : List ℕ) → 8 ≤ length bytes → length_in (bytes ++ more) ≡ length_in bytes
length_same bytes more long =
    let behind : drop 4 (bytes ++ more) ≡ drop 4 bytes ++ more = drop-append-le 4 bytes more (omega arith) in
    let low_long : length (drop 4 bytes) ≡ length bytes - 4 = grind (arith, common_steps) in
    let prefix : take 4 (drop 4 bytes ++ more) ≡ take 4 (drop 4 bytes) = take-append-le 4 (drop 4 bytes) more (omega arith) in
    ap (λ b. low_first (take 4 b)) behind ∙ ap low_first prefix

need_at : (bytes : List ℕ) (n : ℕ) → first_other 0 magic bytes ≡ None → length_in bytes ≡ n → n ≤ max_content → length bytes < 8 + n → unframed bytes ≡ Err NeedMore
need_at bytes n begins len short part = rw (begins, len, not_above max_content n short, above (length bytes) (8 + n) part) refl

needs_part : (bytes content more : List ℕ) → length content ≤ max_content → 0 < length more → bytes ++ more ≡ frame_of content → unframed bytes ≡ Err NeedMore
needs_part bytes content more short some joined =
    let begins : first_other 0 magic (bytes ++ more) ≡ None = ap (first_other 0 magic) joined in
    let all : length_in (bytes ++ more) ≡ length content = ap length_in joined ∙ length_again (length content) content (omega arith) in
    let prefix = length_prefix bytes more in
    let long : length (frame_of content) ≡ 8 + length content = grind (arith, common_steps) in
    let lens : length (bytes ++ more) ≡ length bytes + length more = grind (arith, common_steps) in
    let both : length (bytes ++ more) ≡ length (frame_of content) = ap length joined in
    let part : length bytes < 8 + length_in bytes = elim (cases_lt (length bytes) 8) [
      | inl small ↦ omega arith
      | inr whole ↦ let same = length_same bytes more whole in omega arith
    ] in
    need_at bytes (length_in bytes) (prefix_same 0 magic bytes more begins) refl (omega arith) part

-- of a proper prefix of a frame more is needed
pub prefix_needs : (bytes : List ℕ) → IsPrefix bytes → unframed bytes ≡ Err NeedMore
prefix_needs bytes prefix = needs_part bytes prefix.content prefix.more prefix.short prefix.some prefix.joined

-- the same of what was returned
pub found_if : (found : Result Unframed FrameError) (bytes : List ℕ) → All (λ byte. byte < 2 ^ 8) bytes → found ≡ unframed bytes → IfOk found (λ place. IsFramed bytes place)
found_if (Ok place) bytes fit same = found_framed bytes place fit (sym same)
found_if (Err e) bytes fit same = tt

pub needed_if : (found : Result Unframed FrameError) (bytes : List ℕ) → All (λ byte. byte < 2 ^ 8) bytes → found ≡ unframed bytes → (found ≡ Err NeedMore) ↔ IsPrefix bytes
needed_if found bytes fit same = (λ needs. needed_prefix bytes fit (sym same ∙ needs), λ prefix. same ∙ prefix_needs bytes prefix)

-- bytes of a slice are below 256
pub slice_fits : (bytes : List ℕ) → ((i : ℕ) → Fits w8 (get_or bytes i 0)) → All (λ byte. byte < 2 ^ 8) bytes
slice_fits bytes each = λ k d within. let one : Fits w8 (get_or bytes k 0) = each k in rw (get_or_default bytes k d 0 within) (grind (arith, common_steps))
