-- Where a text may be cut.
use Rattle.std.proofs.Common.{◌≡◌, ℕ, zero, suc, ◌+◌, ◌-◌, ◌<◌, ◌≤◌, List, [], ◌∷◌, ◌++◌, length, take, drop, refl, ap, sym, ◌∙◌, append_assoc, arith, Bool, true, false, cond, ◌&&◌, subst, nat_le, nat_lt, slice_index}
use Rattle.std.specs.Str.{IsUtf8, IsCharBoundary}
use Rattle.std.proofs.lemmas.Bool.{and_parts, leb-true, leb-false, ltb-true, ltb-false, le-leb}
use Rattle.std.proofs.lemmas.Str.{IsCharBoundary-at_seam, IsCharBoundary-end, IsUtf8-drop, length-encode}
use lib.Utf8.{scalar, scalars, encode, encodes}
use Rattle.gz_recovery.specs.declared.op.OpKind.{OpKind}
use Rattle.gz_recovery.specs.declared.op.OpKind.TheVariants.{Write}
use Rattle.gz_store.specs.Commits.{max_piece, goes_on, piece_end, piece_len, pieces}
use Rattle.gz_store.proofs.Written.{piece_less}

least : (a b c : Bool) → 0 < cond a 1 (cond b 2 (cond c 3 4))
least true b c = omega arith
least false true c = omega arith
least false false true = omega arith
least false false false = omega arith

most : (a b c : Bool) → cond a 1 (cond b 2 (cond c 3 4)) ≤ 4
most true b c = omega arith
most false true c = omega arith
most false false true = omega arith
most false false false = omega arith

-- where the first character of a text ends
record First (text : List ℕ) : Type 0 where
  place : ℕ
  above : 0 < place
  within : place ≤ 4
  cut : IsCharBoundary text place

first_of : (text cs : List ℕ) → 0 < length text → scalars cs ≡ true → encodes cs ≡ text → First text
first_of text [] some valid is = let none : 0 ≡ length text = ap (λ (bs : List ℕ). length bs) is in absurd (omega (arith, some, none))
first_of text (c ∷ cs) some valid is = record {
  place = length (encode c);
  above = subst (λ (n : ℕ). 0 < n) (sym (length-encode c)) (least (nat_lt c 0x80) (nat_lt c 0x800) (nat_lt c 0x1_0000));
  within = subst (λ (n : ℕ). n ≤ 4) (sym (length-encode c)) (most (nat_lt c 0x80) (nat_lt c 0x800) (nat_lt c 0x1_0000));
  cut = IsCharBoundary-at_seam text (encode c) (encodes cs) (sym is) (cs, ((and_parts (scalar c) (scalars cs) valid).1, refl));
}

-- a byte that begins a character doesn't go on with one, and the other way round
begins : (b : ℕ) → (128 ≤ b → 192 ≤ b) → goes_on b ≡ false
begins b h = by (goes_on b) refl
  where
    by : (t : Bool) → goes_on b ≡ t → t ≡ false
    by false e = refl
    by true e =
        let parts = and_parts (nat_le 128 b) (nat_lt b 192) e in
        let high : 192 ≤ b = h (leb-true 128 b parts.0) in
        let low : b < 192 = ltb-true b 192 parts.1 in
        absurd (omega (arith, high, low))

begins_one : (b : ℕ) → goes_on b ≡ false → 128 ≤ b → 192 ≤ b
begins_one b e low = by (nat_lt b 192) refl
  where
    by : (t : Bool) → nat_lt b 192 ≡ t → 192 ≤ b
    by false f = ltb-false b 192 f
    by true f =
        let yes : goes_on b ≡ true = ap (λ (x : Bool). x && nat_lt b 192) (le-leb 128 b low) ∙ f in
        let no : false ≡ true = sym e ∙ yes in
        cc

record Reached (k : ℕ) (text : List ℕ) : Type 0 where
  begins : goes_on (slice_index text (piece_end k text)) ≡ false
  within : piece_end k text ≤ k

-- looking back from a place, one meets a character's end at the latest where the first one ends
reached : (k n : ℕ) (text : List ℕ) → 0 < n → n ≤ k → goes_on (slice_index text n) ≡ false → Reached k text
unfolding piece_end
reached zero n text above within e = absurd (omega arith)
reached (suc k) n text above within e = by (goes_on (slice_index text (suc k))) refl (λ l. reached k n text above l e)
  where
    here : goes_on (slice_index text (suc k)) ≡ false → Reached (suc k) text
    here h =
        let at : piece_end (suc k) text ≡ suc k = ap (λ (b : Bool). cond b (piece_end k text) (suc k)) h in
        record { begins = ap (λ (m : ℕ). goes_on (slice_index text m)) at ∙ h; within = subst (λ (m : ℕ). m ≤ suc k) (sym at) (omega arith) }

    back : goes_on (slice_index text (suc k)) ≡ true → Reached k text → Reached (suc k) text
    back h r =
        let at : piece_end (suc k) text ≡ piece_end k text = ap (λ (b : Bool). cond b (piece_end k text) (suc k)) h in
        let within_k : piece_end k text ≤ k = r.within in
        record { begins = ap (λ (m : ℕ). goes_on (slice_index text m)) at ∙ r.begins; within = subst (λ (m : ℕ). m ≤ suc k) (sym at) (omega (arith, within_k)) }

    on : (t : Bool) → nat_le n k ≡ t → goes_on (slice_index text (suc k)) ≡ true → (n ≤ k → Reached k text) → Reached (suc k) text
    on true f h ih = back h (ih (leb-true n k f))
    on false f h ih =
        let above_k : k < n = leb-false n k f in
        let at : n ≡ suc k = omega (arith, within, above_k) in
        let no : true ≡ false = sym h ∙ ap (λ (m : ℕ). goes_on (slice_index text m)) (sym at) ∙ e in
        cc

    by : (t : Bool) → goes_on (slice_index text (suc k)) ≡ t → (n ≤ k → Reached k text) → Reached (suc k) text
    by false h ih = here h
    by true h ih = on (nat_le n k) refl h ih

cut_at : (text : List ℕ) (n : ℕ) → n < length text → goes_on (slice_index text n) ≡ false → IsCharBoundary text n
cut_at text n low e = (omega (arith, low), λ _. begins_one (slice_index text n) e)

long_boundary : (text : List ℕ) → First text → max_piece < length text → IsCharBoundary text (piece_end max_piece text)
long_boundary text first long =
    let small : first.place ≤ 4 = first.within in
    let e : goes_on (slice_index text first.place) ≡ false = begins (slice_index text first.place) (first.cut.1 (omega (arith, small, long))) in
    let r : Reached max_piece text = reached max_piece first.place text first.above (omega (arith, small)) e in
    let end : piece_end max_piece text ≤ max_piece = r.within in
    cut_at text (piece_end max_piece text) (omega (arith, end, long)) r.begins

-- a text may be cut behind its first piece
pub piece_boundary : (text : List ℕ) → IsUtf8 text → IsCharBoundary text (piece_len text)
piece_boundary text utf8 = by (nat_le (length text) max_piece) refl
  where
    by : (t : Bool) → nat_le (length text) max_piece ≡ t → IsCharBoundary text (cond t (length text) (piece_end max_piece text))
    by true e = IsCharBoundary-end text
    by false e =
        let long : max_piece < length text = leb-false (length text) max_piece e in
        long_boundary text (first_of text utf8.0 (omega (arith, long)) utf8.1.0 utf8.1.1) long

-- ---- pieces one after another

more_fuel : (m n node offset : ℕ) (text : List ℕ) → length text ≤ m → length text ≤ n → pieces m node offset text ≡ pieces n node offset text
more_fuel zero zero node offset text l k = refl
more_fuel zero (suc n) node offset [] l k = refl
more_fuel zero (suc n) node offset (b ∷ bs) l k = absurd (omega arith)
more_fuel (suc m) zero node offset [] l k = refl
more_fuel (suc m) zero node offset (b ∷ bs) l k = absurd (omega arith)
more_fuel (suc m) (suc n) node offset [] l k = refl
more_fuel (suc m) (suc n) node offset (b ∷ bs) l k =
    let len : ℕ = piece_len (b ∷ bs) in
    ap (λ (kinds : List OpKind). Write node offset (take len (b ∷ bs)) ∷ kinds)
    (more_fuel m n node (offset + len) (drop len (b ∷ bs)) (omega (arith, piece_less b bs, l)) (omega (arith, piece_less b bs, k)))

-- the first write of a text, and those of the rest
pub first_write : (node offset : ℕ) (text : List ℕ) → 0 < length text →
    pieces (length text) node offset text
    ≡ Write node offset (take (piece_len text) text) ∷ pieces (length (drop (piece_len text) text)) node (offset + piece_len text) (drop (piece_len text) text)
first_write node offset [] some = absurd (omega arith)
first_write node offset (b ∷ bs) some =
    let len : ℕ = piece_len (b ∷ bs) in
    ap (λ (kinds : List OpKind). Write node offset (take len (b ∷ bs)) ∷ kinds)
    (more_fuel (length bs) (length (drop len (b ∷ bs))) node (offset + len) (drop len (b ∷ bs)) (piece_less b bs) (omega arith))

-- behind the first piece less is left
pub shrinks : (text : List ℕ) → 0 < length text → length (drop (piece_len text) text) < length text
shrinks [] some = absurd (omega arith)
shrinks (b ∷ bs) some = let less : length (drop (piece_len (b ∷ bs)) (b ∷ bs)) ≤ length bs = piece_less b bs in omega (arith, less)

-- one place further back
pub look_back : (n : ℕ) (text : List ℕ) → 0 < n → piece_end n text ≡ cond (goes_on (slice_index text n)) (piece_end (n - 1) text) n
unfolding piece_end
look_back zero text some = absurd (omega arith)
look_back (suc n) text some =
    let less : suc n - 1 ≡ n = omega arith in ap (λ (m : ℕ). cond (goes_on (slice_index text (suc n))) (piece_end m text) (suc n)) (sym less)

-- at the first place nothing is further back
pub none_back : (text : List ℕ) → piece_end 0 text ≡ max_piece
unfolding piece_end
none_back text = refl

-- the writes so far with one more, and those of what is left then
pub one_more_write : (done now all : List OpKind) (node offset : ℕ) (text piece more : List ℕ) → 0 < length text → piece ≡ take (piece_len text) text → more ≡ drop (piece_len text) text
    → length piece ≡ piece_len text → done ++ pieces (length text) node offset text ≡ all → now ≡ done ++ Write node offset piece ∷ []
    → now ++ pieces (length more) node (offset + length piece) more ≡ all
one_more_write done now all node offset text piece more some taken left len before after =
    let behind : List OpKind = pieces (length more) node (offset + length piece) more in
    let first : pieces (length text) node offset text ≡ Write node offset piece ∷ behind =
    first_write node offset text some
    ∙ ap (λ (w : List ℕ). Write node offset w ∷ pieces (length (drop (piece_len text) text)) node (offset + piece_len text) (drop (piece_len text) text)) (sym taken)
    ∙ ap (λ (m : List ℕ). Write node offset piece ∷ pieces (length m) node (offset + piece_len text) m) (sym left)
    ∙ ap (λ (n : ℕ). Write node offset piece ∷ pieces (length more) node (offset + n) more) (sym len) in
    ap (λ (kinds : List OpKind). kinds ++ behind) after
    ∙ append_assoc done (Write node offset piece ∷ []) behind
    ∙ ap (λ (kinds : List OpKind). done ++ kinds) (sym first)
    ∙ before

-- what is behind the first piece is text
pub rest_utf8 : (text more : List ℕ) → IsUtf8 text → more ≡ drop (piece_len text) text → IsUtf8 more
rest_utf8 text more utf8 left = subst (λ (bs : List ℕ). IsUtf8 bs) (sym left) (IsUtf8-drop text (piece_len text) utf8 (piece_boundary text utf8))
