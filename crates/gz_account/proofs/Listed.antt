-- Lists of what a function gives for a number and those behind it.
use Rattle.std.proofs.Common.{◌≡◌, ℕ, zero, suc, ◌+◌, ◌<◌, ◌∷◌, length, map, refl, ap, ◌∙◌, arith}
use Rattle.gz_promise.specs.Promise.{offset_at}
use Rattle.gz_account.specs.Account.{listed}

pub listed_length : {A : Type 0} (f : ℕ → A) (k count : ℕ) → length (listed f k count) ≡ count
listed_length f k zero = refl
listed_length f k (suc count) = ap suc (listed_length f (suc k) count)

pub listed_map : {A B : Type 0} (h : A → B) (f : ℕ → A) (k count : ℕ) → map h (listed f k count) ≡ listed (λ i. h (f i)) k count
listed_map h f k zero = refl
listed_map h f k (suc count) = ap (λ v. h (f k) ∷ v) (listed_map h f (suc k) count)

pub offset_listed : (f : ℕ → ℕ) (k count i : ℕ) → i < count → offset_at i (listed f k count) ≡ f (k + i)
offset_listed f k zero i l = absurd (omega arith)
offset_listed f k (suc count) zero l = let e : k ≡ k + 0 = omega arith in ap f e
offset_listed f k (suc count) (suc i) l = let e : suc k + i ≡ k + suc i = omega arith in offset_listed f (suc k) count i (omega arith) ∙ ap f e
