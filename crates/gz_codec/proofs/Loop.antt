-- Reading items one after another, as a loop does.
use Rattle.std.proofs.Common.{◌≡◌, ℕ, suc, ◌-◌, ◌+◌, ◌≤◌, ◌<◌, List, [], ◌∷◌, ◌++◌, Result, Ok, Err, refl, sym, ap, ◌∙◌, append_assoc, arith}
use Rattle.std.proofs.lemmas.List.{append-nil}
use Rattle.gz_codec.specs.declared.error.FieldError.{FieldError}
use Rattle.gz_codec.specs.declared.error.FieldError.TheVariants as errors
use Rattle.gz_codec.specs.Reading.{◌>>=◌, Reader, Fails, items_at}

-- what was read before, and what is still read
abbrev pub with_prefix : {A : Type 0} → List A → Result (List A × List ℕ) ℕ → Result (List A × List ℕ) ℕ
with_prefix prefix read = read >>= λ x. Ok (prefix ++ x.0, x.1)

regroup : {A : Type 0} (prefix : List A) (n : A) (read : Result (List A × List ℕ) ℕ) → with_prefix prefix (read >>= λ x. Ok (n ∷ x.0, x.1)) ≡ with_prefix (prefix ++ n ∷ []) read
regroup {A} prefix n (Ok x) = ap (λ (ns : List A). Ok (ns, x.1)) (simp append_assoc)
regroup prefix n (Err f) = refl

pub goes_on : {A : Type 0} (at : Reader A) (prefix : List A) (count i field : ℕ) (bytes : List ℕ) (n : A) (after : List ℕ) (total : Result (List A × List ℕ) ℕ) → i < count → at field bytes ≡ Ok (n, after)
    → with_prefix prefix (items_at at (count - i) field bytes) ≡ total → with_prefix (prefix ++ n ∷ []) (items_at at (count - (i + 1)) field after) ≡ total
unfolding items_at
goes_on at prefix count i field bytes n after total lt h so_far =
    let k : count - i ≡ suc (count - (i + 1)) = omega arith in
    let one : with_prefix prefix (items_at at (count - i) field bytes) ≡ with_prefix (prefix ++ n ∷ []) (items_at at (count - (i + 1)) field after) = rw (k, h) (regroup prefix n (items_at at (count - (i + 1)) field after)) in
    sym one ∙ so_far

pub ends : {A : Type 0} (at : Reader A) (e : FieldError) (prefix : List A) (count i field : ℕ) (bytes : List ℕ) (total : Result (List A × List ℕ) ℕ) → i < count → Fails e (at field bytes)
    → with_prefix prefix (items_at at (count - i) field bytes) ≡ total → Fails e total
unfolding items_at
ends at errors.NoMemory prefix count i field bytes total lt h so_far = tt
ends at (errors.Bad f) prefix count i field bytes total lt h so_far =
    let k : count - i ≡ suc (count - (i + 1)) = omega arith in
    let one : with_prefix prefix (items_at at (count - i) field bytes) ≡ Err f = rw (k, h) refl in
    sym so_far ∙ one

pub is_done : {A : Type 0} (at : Reader A) (prefix : List A) (count i field : ℕ) (bytes : List ℕ) (total : Result (List A × List ℕ) ℕ) → count ≤ i → with_prefix prefix (items_at at (count - i) field bytes) ≡ total → total ≡ Ok (prefix, bytes)
unfolding items_at
is_done {A} at prefix count i field bytes total le so_far =
    let k : count - i ≡ 0 = omega arith in
    let one : with_prefix prefix (items_at at (count - i) field bytes) ≡ Ok (prefix, bytes) = rw k (ap (λ (ns : List A). Ok (ns, bytes)) (append-nil prefix)) in
    sym so_far ∙ one
