-- What a handoff is made of.
use Rattle.std.proofs.Common.{◌≡◌, ℕ, zero, suc, ◌+◌, ◌*◌, ◌/◌, ◌%◌, List, [], ◌∷◌, ◌++◌, length, refl, ap, arith, ◌≤◌, ◌<◌, Bool, true, false, cond, ◌&&◌, nat_lt, nat_le, slice_index, codes, inl, inr, Result, Ok, Err}
use Rattle.std.specs.List.{list_all}
use Rattle.std.specs.Char.{digit_char}
use Rattle.std.specs.Fmt.{decimal}
use Rattle.std.specs.Int.{w64, to_be_bytes}
use Rattle.std.proofs.lemmas.Bool.{and_parts, cases_lt, leb-true, ltb-true}
use Rattle.std.proofs.lemmas.Fmt.{length-decimal-le}
use Rattle.std.proofs.lemmas.List.{length-append}
use Rattle.hex.specs.Hex.{IsBytes, encode_with, lower_digits}
use Rattle.hex.proofs.HexLemmas.{length-encode_with}
use Rattle.json.specs.Print.{escape_byte, escape_letter, escape}
use Rattle.serde_json.specs.Data.{string, no_members, member}
use Rattle.serde_json.specs.Written.{members_text}
use Rattle.serde_json.proofs.OnLiterals.{serde_json_on_literals}
use Rattle.gz_label.specs.Labels.{is_label, is_label_name, is_label_value, is_value_byte, with_label}
use Rattle.gz_frame.specs.Frame.{frame_of, framed, max_content}
use Rattle.gz_frame.specs.declared.frame.FrameError.TheVariants.{TooLong}
use Rattle.gz_recovery.specs.Operations.{Op, author_text, op_text, number_data, max_seq}
use Rattle.gz_recovery.specs.declared.op.OpKind.TheVariants.{Handoff}
use Rattle.gz_recovery.specs.Files.{Recorder, next_op}
use Rattle.gz_recovery.specs.declared.op.OpKind.{OpKind}
use Rattle.gz_recovery.specs.declared.error.RecordError.{RecordError}
use Rattle.gz_recovery.specs.declared.error.RecordError.TheVariants.{SeqEnd}
use Rattle.gz_playback.specs.Handing.{author_label}

-- ---- the register

-- the first places of a table may stand in a label's value
abbrev all_stand : List ℕ → ℕ → Bool
all_stand t zero = true
all_stand t (suc n) = is_value_byte (slice_index t n) && all_stand t n

stands_at : (t : List ℕ) (n k : ℕ) → all_stand t n ≡ true → k < n → is_value_byte (slice_index t k) ≡ true
stands_at t zero k h lt = absurd (omega arith)
stands_at t (suc n) k h lt =
    let parts = and_parts (is_value_byte (slice_index t n)) (all_stand t n) h in
    elim (cases_lt k n) [
      | inl below ↦ stands_at t n k parts.1 below
      | inr top ↦
          let e : k ≡ n = omega arith in
          rw e parts.0
    ]

digit_stands : (d : ℕ) → d < 16 → is_value_byte (slice_index lower_digits d) ≡ true
digit_stands d low = stands_at lower_digits 16 d refl low

digits_stand : (xs : List ℕ) → IsBytes xs → list_all is_value_byte (encode_with lower_digits xs) ≡ true
unfolding encode_with
digits_stand [] fit = refl
digits_stand (b ∷ rest) fit =
    let byte : b < 256 = fit 0 in
    let high = digit_stands (b / 16) (omega (arith, byte)) in
    let low = digit_stands (b % 16) (omega arith) in
    rw (high, low, digits_stand rest (λ i. fit (suc i))) refl

bytes_fit : (a : ℕ) → IsBytes (to_be_bytes w64 a)
bytes_fit a zero = omega arith
bytes_fit a (suc zero) = omega arith
bytes_fit a (suc (suc zero)) = omega arith
bytes_fit a (suc (suc (suc zero))) = omega arith
bytes_fit a (suc (suc (suc (suc zero)))) = omega arith
bytes_fit a (suc (suc (suc (suc (suc zero))))) = omega arith
bytes_fit a (suc (suc (suc (suc (suc (suc zero)))))) = omega arith
bytes_fit a (suc (suc (suc (suc (suc (suc (suc zero))))))) = omega arith
bytes_fit a (suc (suc (suc (suc (suc (suc (suc (suc n)))))))) = omega arith

-- an author has sixteen digits
author_long : (author : ℕ) → length (author_text author) ≡ 16
unfolding author_text
author_long author = length-encode_with lower_digits (to_be_bytes w64 author)

pub author_short : (author : ℕ) → length (author_text author) ≤ 1024
author_short author = omega (arith, author_long author)

digits_value : (author : ℕ) → list_all is_value_byte (author_text author) ≡ true
unfolding author_text
digits_value author = digits_stand (to_be_bytes w64 author) (bytes_fit author)

-- they may be the value of a label
pub author_value : (author : ℕ) → is_label_value (author_text author) ≡ true
unfolding is_label_value
author_value author = rw (author_long author, digits_value author) refl

-- the register alone, with a value that a label may have, is a set
pub register_set : (value : List ℕ) → is_label_value value ≡ true → with_label (record { name = codes "author"; value = value }) [] ≡ Ok (author_label value)
unfolding with_label is_label is_label_name
register_set value lawful = rw lawful refl

-- no value is one
pub no_value : is_label_value [] ≡ true
unfolding is_label_value
no_value = refl

-- ---- the operation

abbrev inside : Op → Result Op RecordError → Op
inside d (Ok op) = op
inside d (Err e) = d

pub next_kind : (kind : OpKind) (r : Recorder) (op : Op) → Ok op ≡ next_op kind r → op.kind ≡ kind
next_kind kind r op is = by (nat_le r.next max_seq) is
  where
    by : (b : Bool) → Ok op ≡ cond b (Ok (record { author = r.author; seq = r.next; kind = kind })) (Err SeqEnd) → op.kind ≡ kind
    by true e = ap (λ (made : Result Op RecordError). (inside op made).kind) e
    by false e = cc

pub next_small : (kind : OpKind) (r : Recorder) (op : Op) → Ok op ≡ next_op kind r → op.seq ≤ max_seq
next_small kind r op is = by (nat_le r.next max_seq) refl is
  where
    by : (b : Bool) → nat_le r.next max_seq ≡ b → Ok op ≡ cond b (Ok (record { author = r.author; seq = r.next; kind = kind })) (Err SeqEnd) → op.seq ≤ max_seq
    by true small e =
        let at : op.seq ≡ r.next = ap (λ (made : Result Op RecordError). (inside op made).seq) e in
        omega (arith, at, leb-true r.next max_seq small)
    by false small e = cc

-- ---- the frame

byte_short : (x : ℕ) → length (escape_byte x) ≤ 6
unfolding escape_byte
byte_short x = by (nat_lt 0 (escape_letter x)) (nat_lt x 32)
  where
    by : (short control : Bool) → length (cond short (92 ∷ escape_letter x ∷ []) (cond control (92 ∷ 117 ∷ 48 ∷ 48 ∷ digit_char (x / 16) ∷ digit_char (x % 16) ∷ []) (x ∷ []))) ≤ 6
    by true control = omega arith
    by false true = omega arith
    by false false = omega arith

escape_short : (xs : List ℕ) → length (escape xs) ≤ 6 * length xs
escape_short [] = omega arith
escape_short (x ∷ xs) = omega (arith, byte_short x, escape_short xs, length-append (escape_byte x) (escape xs))

-- what stands behind the author
abbrev behind_author : ℕ → List ℕ
behind_author seq = members_text true (member (codes "op") (string (codes "handoff")) (member (codes "seq") (number_data seq) no_members))

behind_short : (seq : ℕ) → seq ≤ max_seq → length (behind_author seq) ≤ 60
unfolding serde_json_on_literals
behind_short seq small =
    omega (arith, length-append (decimal seq) (125 ∷ []), length-decimal-le 20 seq (omega arith) (omega (arith, small)) (omega (arith, small)))

-- a handoff's content is far shorter than a frame's may be
handoff_short : (author seq : ℕ) → seq ≤ max_seq → length (op_text (record { author = author; seq = seq; kind = Handoff })) ≤ max_content
unfolding op_text serde_json_on_literals
handoff_short author seq small =
    let digits : List ℕ = escape (author_text author) in
    omega (arith, length-append digits (34 ∷ []), length-append (digits ++ 34 ∷ []) (behind_author seq), behind_short seq small, author_long author, escape_short (author_text author))

-- so it has a frame
pub handoff_framed : (op : Op) → op.kind ≡ Handoff → op.seq ≤ max_seq → framed (op_text op) ≡ Ok (frame_of (op_text op))
handoff_framed op is small =
    let short : length (op_text op) ≤ max_content = rw is (handoff_short op.author op.seq small) in
    by (nat_lt max_content (length (op_text op))) refl short
  where
    by : (b : Bool) → nat_lt max_content (length (op_text op)) ≡ b → length (op_text op) ≤ max_content → cond b (Err TooLong) (Ok (frame_of (op_text op))) ≡ Ok (frame_of (op_text op))
    by true e short = let long = ltb-true max_content (length (op_text op)) e in absurd (omega (arith, long, short))
    by false e short = refl
