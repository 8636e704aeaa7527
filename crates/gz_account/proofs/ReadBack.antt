-- Numbers are read back as what they stand for.
use Rattle.std.proofs.Common.{◌≡◌, ℕ, zero, suc, ◌+◌, ◌<◌, ◌≤◌, ◌==◌, ◌/◌, ◌%◌, List, [], ◌∷◌, map, refl, ap, sym, ◌∙◌, arith, Bool, true, false, cond}
use Rattle.std.proofs.lemmas.Grind.{common_steps}
use Rattle.gz_frame.specs.Messages as frame
use Rattle.gz_app.specs.States.{State}
use Rattle.gz_app.specs.declared.state.Kept.{Kept}
use Rattle.gz_app.specs.declared.state.Kept.TheVariants.{Number, Text}
use Rattle.gz_reader.specs.Reader.{Continue, Acknowledge, Outside}
use Rattle.gz_reader.specs.Coding.{TellsProducers, number_of, kind_of, coded}
use Rattle.gz_account.specs.Account.{AreReadBack}
use Rattle.gz_account.specs.Numbers.{pair, first_in, second_in, first, second, list_in, list_of, kept_number, kept_of, entry_number, entry_of, flags_of, plain_numbers, told_by_numbers}

odd_is : (r : ℕ) → ((r + r + 1) % 2 == 1) ≡ true
odd_is r = let e : (r + r + 1) % 2 ≡ 1 = omega arith in rw e refl

even_is : (d : ℕ) → ((d + d) % 2 == 1) ≡ false
even_is d = let e : (d + d) % 2 ≡ 0 = omega arith in rw e refl

half_odd : (r : ℕ) → (r + r + 1) / 2 ≡ r
half_odd r = omega arith

half_even : (d : ℕ) → (d + d) / 2 ≡ d
half_even d = omega arith

first_back : (x r steps : ℕ) → x < steps → first_in steps (pair x r) ≡ x
first_back x r zero l = absurd (omega arith)
first_back zero r (suc steps) l = rw (odd_is r) refl
first_back (suc x) r (suc steps) l =
    let d : ℕ = pair x r in
    let h : first_in steps d ≡ x = first_back x r steps (omega arith) in
    rw (even_is d, half_even d, h) (omega arith)

second_back : (x r steps : ℕ) → x < steps → second_in steps (pair x r) ≡ r
second_back x r zero l = absurd (omega arith)
second_back zero r (suc steps) l = rw (odd_is r) (half_odd r)
second_back (suc x) r (suc steps) l =
    let d : ℕ = pair x r in
    rw (even_is d, half_even d) (second_back x r steps (omega arith))

pair_above : (x r : ℕ) → (x < pair x r) × (r < pair x r)
pair_above zero r = (omega arith, omega arith)
pair_above (suc x) r = let h = pair_above x r in let d : ℕ = pair x r in let a : x < d = h.0 in let b : r < d = h.1 in (omega arith, omega arith)

first_of : (x r : ℕ) → first (pair x r) ≡ x
first_of x r = first_back x r (pair x r) (pair_above x r).0

second_of : (x r : ℕ) → second (pair x r) ≡ r
second_of x r = second_back x r (pair x r) (pair_above x r).0

list_back : (xs : List ℕ) (steps : ℕ) → number_of xs ≤ steps → list_in steps (number_of xs) ≡ xs
list_back [] zero l = refl
list_back [] (suc steps) l = refl
list_back (x ∷ xs) zero l = absurd (let h = (pair_above x (number_of xs)).0 in let n : ℕ = pair x (number_of xs) in omega (arith, h, l))
list_back (x ∷ xs) (suc steps) l =
    let n : ℕ = pair x (number_of xs) in
    let h = (pair_above x (number_of xs)).1 in
    let some : (n == 0) ≡ false = grind (arith, common_steps) in
    let low : number_of xs ≤ steps = omega (arith, h, l) in
    rw (some, first_of x (number_of xs), second_of x (number_of xs), list_back xs steps low) refl

list_is : (xs : List ℕ) → list_of (number_of xs) ≡ xs
list_is xs = list_back xs (number_of xs) (omega arith)

kept_back : (k : Kept) → kept_of (kept_number k) ≡ k
kept_back (Number n) = rw (first_of 0 n, second_of 0 n) refl
kept_back (Text t) = rw (first_of 1 (number_of t), second_of 1 (number_of t), list_is t) refl

entry_back : (e : List ℕ × Kept) → entry_of (entry_number e) ≡ e
entry_back e = rw (first_of (number_of e.0) (kept_number e.1), second_of (number_of e.0) (kept_number e.1), list_is e.0, kept_back e.1) refl

entries_back : (s : State) → map entry_of (map entry_number s) ≡ s
entries_back [] = refl
entries_back (e ∷ s) = rw (entry_back e, entries_back s) refl

pub read_back : AreReadBack plain_numbers
read_back = record {
  state = λ s. ap (λ (v : List ℕ). map entry_of v) (list_is (map entry_number s)) ∙ entries_back s;
  output = λ o. rw (first_of (number_of o.key) (number_of o.value), second_of (number_of o.key) (number_of o.value), list_is o.key, list_is o.value) refl;
  empty = refl;
}

kind_back : (m : frame.Message) → m.flags ≤ 2 → flags_of (kind_of m) ≡ m.flags
kind_back m l = by_flags m.flags l (m.flags == 2) (m.flags == 1) refl refl
  where
    by_flags : (f : ℕ) → f ≤ 2 → (a o : Bool) → (f == 2) ≡ a → (f == 1) ≡ o → flags_of (cond a Acknowledge (cond o Outside Continue)) ≡ f
    by_flags f l true o ea eo = grind (arith, common_steps)
    by_flags f l false true ea eo = grind (arith, common_steps)
    by_flags f l false false ea eo = grind (arith, common_steps)

pub message_back : (m : frame.Message) → m.flags ≤ 2 → plain_numbers.message_of (coded told_by_numbers m) ≡ m
message_back m l =
    rw (list_is m.producer, first_of (number_of m.key) (number_of m.value), second_of (number_of m.key) (number_of m.value), list_is m.key, list_is m.value)
    (ap (λ v. record { producer = m.producer; clock = m.clock; flags = v; key = m.key; value = m.value }) (kind_back m l))

pub producers_apart : TellsProducers told_by_numbers
producers_apart p q e = sym (list_is p) ∙ ap (λ v. list_of v) e ∙ list_is q
