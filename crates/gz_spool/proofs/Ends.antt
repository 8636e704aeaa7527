-- Where entries of a spool begin and end, and what stands behind some of them.
use Rattle.std.proofs.Common.{◌≡◌, ◌⊎◌, inl, inr, ℕ, zero, suc, ◌+◌, ◌-◌, ◌<◌, ◌≤◌, List, [], ◌∷◌, ◌++◌, length, take, drop, get_or, refl, ap, sym, ◌∙◌, Option, Some, None, nat_le, arith, length-append}
use Rattle.std.proofs.lemmas.List.{append-nil, drop_all}
use Rattle.std.proofs.lemmas.Bool.{cond_both, eq-eqb, ne_eqb, cases_order}
use Rattle.gz_label.specs.declared.label.Label.{Label}
use Rattle.gz_label.specs.declared.entry.Entry.{Entry}
use Rattle.gz_label.specs.declared.entry.Image.{Image}
use Rattle.gz_journal.specs.JournalList.{text_of, end_of}
use Rattle.gz_journal.proofs.Ends.{text_more}
use Rattle.gz_spool.specs.Spools.{Rest, extended, registers_behind, rest_behind, rest_from, spool_end, trimmed, with_rest}

one_behind : (n : ℕ) → suc n ≡ n + 1
one_behind n = omega arith

-- one entry more ends behind its bytes
pub end_more : (es : List Entry) (e : Entry) → end_of (es ++ e ∷ []) ≡ end_of es + length e.bytes
end_more es e =
    ap (λ (bs : List ℕ). length bs) (text_more es (e ∷ [])) ∙ length-append (text_of es) (e.bytes ++ []) ∙ ap (λ (bs : List ℕ). end_of es + length bs) (append-nil e.bytes)

end_next : (es : List Entry) (i : ℕ) (e : Entry) → i < length es → e ≡ get_or es i e → end_of (drop i es) ≡ length e.bytes + end_of (drop (suc i) es)
end_next [] i e within is = absurd (omega arith)
end_next (x ∷ es) zero e within is = ap (λ (d : Entry). length (d.bytes ++ text_of es)) (sym is) ∙ length-append e.bytes (text_of es)
end_next (x ∷ es) (suc i) e within is = end_next es i e (omega arith) is

-- what an index leaves, and what one more leaves
pub end_step : (es : List Entry) (i : ℕ) (e : Entry) → i < length es → e ≡ get_or es i e → end_of (drop i es) ≡ length e.bytes + end_of (drop (i + 1) es)
end_step es i e within is = end_next es i e within is ∙ ap (λ (n : ℕ). length e.bytes + end_of (drop n es)) (one_behind i)

-- the registers behind the last entry
pub registers_last : (base : List Label) (es : List Entry) (d : Entry) → 0 < length es → (get_or es (length es - 1) d).registers ≡ registers_behind base es
registers_last base [] d some = absurd (omega arith)
registers_last base (e ∷ []) d some = refl
registers_last base (e ∷ f ∷ es) d some =
    let back : length (e ∷ f ∷ es) - 1 ≡ suc (length (f ∷ es) - 1) = omega arith in
    rw back (registers_last e.registers (f ∷ es) d (omega arith))

registers_next : (base : List Label) (es : List Entry) (i : ℕ) (e : Entry) → i < length es → e ≡ get_or es i e → registers_behind base (take (suc i) es) ≡ e.registers
registers_next base [] i e within is = absurd (omega arith)
registers_next base (x ∷ es) zero e within is = ap (λ (d : Entry). d.registers) (sym is)
registers_next base (x ∷ es) (suc i) e within is = registers_next x.registers es i e (omega arith) is

-- the registers behind so many entries and one more
pub registers_step : (base : List Label) (es : List Entry) (i : ℕ) (e : Entry) → i < length es → e ≡ get_or es i e → registers_behind base (take (i + 1) es) ≡ e.registers
registers_step base es i e within is = ap (λ (n : ℕ). registers_behind base (take n es)) (sym (one_behind i)) ∙ registers_next base es i e within is

-- ---- what stands from an offset on

-- all, where the offset is here
pub rest_here : (at : ℕ) (base : List Label) (es : List Entry) → rest_from at at base es ≡ Some (record { base = base; entries = es })
rest_here at base [] = rw (eq-eqb at at refl) refl
rest_here at base (e ∷ es) = rw (eq-eqb at at refl) refl

-- nothing, where it is passed
pub rest_past : (offset at : ℕ) (base : List Label) (es : List Entry) → offset < at → rest_from offset at base es ≡ None
rest_past offset at base [] less = rw (ne_eqb at offset (λ same. omega arith)) refl
rest_past offset at base (e ∷ es) less = rw (ne_eqb at offset (λ same. omega arith)) (rest_past offset (at + length e.bytes) e.registers es (omega arith))

rest_next : (offset at : ℕ) (base : List Label) (es : List Entry) (i : ℕ) (e : Entry) → i < length es → e ≡ get_or es i e → at < offset
    → rest_from offset at base (drop i es) ≡ rest_from offset (at + length e.bytes) e.registers (drop (suc i) es)
rest_next offset at base [] i e within is less = absurd (omega arith)
rest_next offset at base (x ∷ es) zero e within is less =
    rw (ne_eqb at offset (λ same. omega arith)) (ap (λ (d : Entry). rest_from offset (at + length d.bytes) d.registers es) (sym is))
rest_next offset at base (x ∷ es) (suc i) e within is less = rest_next offset at base es i e (omega arith) is less

-- what stands from it on behind so many entries, and behind one more
pub rest_step : (offset at : ℕ) (base : List Label) (es : List Entry) (i : ℕ) (e : Entry) → i < length es → e ≡ get_or es i e → at < offset
    → rest_from offset at (registers_behind base (take i es)) (drop i es) ≡ rest_from offset (at + length e.bytes) (registers_behind base (take (i + 1) es)) (drop (i + 1) es)
rest_step offset at base es i e within is less =
    rest_next offset at (registers_behind base (take i es)) es i e within is less
    ∙ ap (λ (n : ℕ). rest_from offset (at + length e.bytes) e.registers (drop n es)) (one_behind i)
    ∙ ap (λ (b : List Label). rest_from offset (at + length e.bytes) b (drop (i + 1) es)) (sym (registers_step base es i e within is))

-- where the offset is behind so many entries
pub rest_found : (offset at : ℕ) (base : List Label) (es : List Entry) (i : ℕ) → at ≡ offset
    → rest_from offset at (registers_behind base (take i es)) (drop i es) ≡ rest_behind base es (Some i)
rest_found offset at base es i is =
    ap (λ (n : ℕ). rest_from offset n (registers_behind base (take i es)) (drop i es)) is ∙ rest_here offset (registers_behind base (take i es)) (drop i es)

less_by : (offset at : ℕ) → (at ≡ offset → ⊥) → offset ≤ at → (offset ≡ at) ⊎ ((offset < at) ⊎ (at < offset)) → offset < at
less_by offset at other past (inl same) = absurd (other (sym same))
less_by offset at other past (inr (inl less)) = less
less_by offset at other past (inr (inr more)) = absurd (omega arith)

-- nothing, where it isn't behind so many entries, and there are no more, or it is passed
pub rest_lost : (offset at : ℕ) (base : List Label) (es : List Entry) (i : ℕ) → (at ≡ offset → ⊥) → (length es ≤ i) ⊎ (offset ≤ at) → rest_from offset at base (drop i es) ≡ None
rest_lost offset at base es i other (inl all) =
    rw (drop_all i es all, ne_eqb at offset other) refl
rest_lost offset at base es i other (inr past) = rest_past offset at base (drop i es) (less_by offset at other past (cases_order offset at))

-- ---- entry by entry

drop_next : (es : List Entry) (i : ℕ) → drop 1 (drop i es) ≡ drop (suc i) es
drop_next [] zero = refl
drop_next [] (suc i) = refl
drop_next (e ∷ es) zero = refl
drop_next (e ∷ es) (suc i) = drop_next es i

pub drop_more : (es : List Entry) (i : ℕ) → drop 1 (drop i es) ≡ drop (i + 1) es
drop_more es i = drop_next es i ∙ ap (λ (n : ℕ). drop n es) (one_behind i)

behind_next : (base : List Label) (es : List Entry) (i : ℕ) → registers_behind (registers_behind base (take i es)) (take 1 (drop i es)) ≡ registers_behind base (take (suc i) es)
behind_next base [] zero = refl
behind_next base [] (suc i) = refl
behind_next base (e ∷ es) zero = refl
behind_next base (e ∷ es) (suc i) = behind_next e.registers es i

-- the registers behind so many entries, and then behind one more
pub behind_more : (base : List Label) (es : List Entry) (i : ℕ) → registers_behind (registers_behind base (take i es)) (take 1 (drop i es)) ≡ registers_behind base (take (i + 1) es)
behind_more base es i = behind_next base es i ∙ ap (λ (n : ℕ). registers_behind base (take n es)) (one_behind i)

-- ---- what an entry more, and a trim, leave

-- the end behind one entry more
pub extended_end : (entry : Entry) (i : Image) → spool_end (extended entry i) ≡ spool_end i + length entry.bytes
extended_end entry i = let more = end_more i.entries entry in omega (arith, more)

rest_head : (begin : ℕ) (i : Image) (rest : Option Rest) → (with_rest begin i rest).head ≡ i.head
rest_head begin i None = refl
rest_head begin i (Some r) = refl

-- a trim leaves the head
pub trimmed_head : (begin : ℕ) (i : Image) → (trimmed begin i).head ≡ i.head
trimmed_head begin i =
    cond_both (nat_le begin i.head) _ _ (λ (after : Image). after.head ≡ i.head) (λ _. rest_head begin i (rest_from begin i.begin i.base i.entries)) (λ _. refl)
