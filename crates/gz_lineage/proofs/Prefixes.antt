-- The laws of prefixes. Lists of different brokers are compared by these alone: two prefixes of one list are prefixes of
-- one another, by their lengths (`pre_both`), and a prefix stays one when the list gets longer (`pre_push`).
use Rattle.std.proofs.Common.{◌≡◌, ℕ, ◌<◌, ◌≤◌, List, [], ◌∷◌, ◌++◌, length, get_or, take, refl, ap, sym, ◌∙◌, arith}
use Rattle.std.proofs.lemmas.List.{length-take, take_all, take-take, take-append-le, take_more, take_min, length_push, get_or-take}
use Rattle.gz_lineage.specs.Prefix.{IsPrefix}

pub pre_refl : {A : Type 0} (xs : List A) → IsPrefix xs xs
pre_refl xs = record { prefix = take_all (length xs) xs (omega arith) }

pub pre_len : {A : Type 0} {xs ys : List A} → IsPrefix xs ys → length xs ≤ length ys
pre_len {xs = xs} {ys = ys} p = omega (arith, ap length p.prefix, length-take (length xs) ys)

pub pre_push : {A : Type 0} {xs ys : List A} (zs : List A) → IsPrefix xs ys → IsPrefix xs (ys ++ zs)
pre_push {xs = xs} {ys = ys} zs p = record { prefix = let l = pre_len p in take-append-le (length xs) ys zs l ∙ p.prefix }

pub pre_take : {A : Type 0} (k : ℕ) (xs : List A) → IsPrefix (take k xs) xs
pre_take k xs = record { prefix = rw length-take (take_min k xs) }

-- a longer prefix of the same list
pub pre_trans : {A : Type 0} {xs ys zs : List A} → IsPrefix xs ys → IsPrefix ys zs → IsPrefix xs zs
pre_trans {xs = xs} {ys = ys} {zs = zs} p q =
    let l = pre_len p in
    record { prefix = sym (take-take (length xs) (length ys) zs l) ∙ ap (λ l. take (length xs) l) q.prefix ∙ p.prefix }

pub pre_both : {A : Type 0} {xs ys zs : List A} → IsPrefix xs zs → IsPrefix ys zs → length xs ≤ length ys → IsPrefix xs ys
pre_both {xs = xs} {ys = ys} {zs = zs} p q l =
    record { prefix = ap (λ l. take (length xs) l) (sym q.prefix) ∙ take-take (length xs) (length ys) zs l ∙ p.prefix }

pub pre_take_of : {A : Type 0} {xs ys : List A} (k : ℕ) → IsPrefix xs ys → k ≤ length xs → take k ys ≡ take k xs
pre_take_of {xs = xs} {ys = ys} k p l = sym (take-take k (length xs) ys l) ∙ ap (λ l. take k l) p.prefix

pub pre_next : {A : Type 0} {xs ys : List A} (x : A) → IsPrefix xs ys → length xs < length ys → get_or ys (length xs) x ≡ x → IsPrefix (xs ++ x ∷ []) ys
pre_next {xs = xs} {ys = ys} x p l e =
    record { prefix = rw length_push (take_more ys (length xs) x l ∙ cc (p.prefix, e)) }

pub pre_read : {A : Type 0} {xs ys : List A} (i : ℕ) (d : A) → IsPrefix xs ys → i < length xs → get_or ys i d ≡ get_or xs i d
pre_read {xs = xs} {ys = ys} i d p l = sym (get_or-take (length xs) ys i d l) ∙ ap (λ l. get_or l i d) p.prefix

pub pre_same : {A : Type 0} {xs ys : List A} → IsPrefix xs ys → length ys ≤ length xs → xs ≡ ys
pre_same {xs = xs} {ys = ys} p l = sym p.prefix ∙ take_all (length xs) ys l

pub pre_nil : {A : Type 0} (ys : List A) → IsPrefix [] ys
pre_nil ys = record { prefix = refl }

pub len_take_le : {A : Type 0} (k : ℕ) (xs : List A) → length (take k xs) ≤ k
len_take_le k xs = omega (arith, length-take k xs)

pub len_take : {A : Type 0} (k : ℕ) (xs : List A) → k ≤ length xs → length (take k xs) ≡ k
len_take k xs l = omega (arith, length-take k xs)

-- a shorter prefix
pub pre_shorter : {A : Type 0} (j k : ℕ) (xs : List A) → j ≤ k → IsPrefix (take j xs) (take k xs)
pre_shorter j k xs l = pre_both (pre_take j xs) (pre_take k xs) (omega (arith, length-take j xs, length-take k xs))
