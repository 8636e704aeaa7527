-- Terms, one after another.
use Rattle.std.proofs.Common.{◌≡◌, ℕ, ◌+◌, ◌≤◌, List, [], ◌∷◌, ◌++◌, length, take, drop, refl, cond, Bool, true, false, nat_lt, option_to_list, Ok, arith, length-append}
use Rattle.std.specs.List.{list_any}
use Rattle.gz_label.specs.declared.selector.Term.{Term}
use Rattle.gz_label.specs.declared.name.LabelError.{LabelError}
use Rattle.gz_label.specs.Outcomes.{Fails}
use Rattle.gz_label.specs.Items.{limited, place_of}
use Rattle.gz_label.specs.Selectors.{term_in, terms_in, same_term, with_term, with_terms}
use Rattle.gz_label.proofs.Parts.{items_left, cut, fails_more, limited_is, put_all-append}

term_length : (there : Bool) (t : Term) (ts : List Term) → length ts ≤ length (cond there ts (ts ++ t ∷ []))
term_length true t ts = omega arith
term_length false t ts = omega (arith, length-append ts (t ∷ []))

term_grows : (t : Term) (ts : List Term) → length ts ≤ length (with_term t ts)
term_grows t ts = term_length (list_any (same_term t) ts) t ts

terms_more : (goes_on : Bool) (rest : List ℕ) (terms all : List Term) → goes_on ≡ true → with_terms (terms_in (items_left goes_on rest)) terms ≡ all
    → all ≡ with_terms (option_to_list (term_in (take (place_of 44 rest) rest)) ++ terms_in (items_left (nat_lt (place_of 44 rest) (length rest)) (drop (place_of 44 rest + 1) rest))) terms
terms_more goes_on rest terms all on is = rw (← is, on, cut rest) refl

-- an item that doesn't fit
pub term_item_fails : (e : LabelError) (goes_on : Bool) (rest : List ℕ) (terms all : List Term) → goes_on ≡ true → with_terms (terms_in (items_left goes_on rest)) terms ≡ all
    → Fails e (limited (with_terms (option_to_list (term_in (take (place_of 44 rest) rest))) terms)) → Fails e (limited all)
term_item_fails e goes_on rest terms all on is fails =
    rw (terms_more goes_on rest terms all on is)
    (fails_more with_term term_grows e (option_to_list (term_in (take (place_of 44 rest) rest)))
    (terms_in (items_left (nat_lt (place_of 44 rest) (length rest)) (drop (place_of 44 rest + 1) rest))) terms fails)

-- an item that fits
pub term_item_fits : (goes_on : Bool) (rest : List ℕ) (terms all new : List Term) → goes_on ≡ true → with_terms (terms_in (items_left goes_on rest)) terms ≡ all
    → limited (with_terms (option_to_list (term_in (take (place_of 44 rest) rest))) terms) ≡ Ok new
    → with_terms (terms_in (items_left (nat_lt (place_of 44 rest) (length rest)) (drop (place_of 44 rest + 1) rest))) new ≡ all
term_item_fits goes_on rest terms all new on is fits =
    let first : List Term = option_to_list (term_in (take (place_of 44 rest) rest)) in
    let others : List Term = terms_in (items_left (nat_lt (place_of 44 rest) (length rest)) (drop (place_of 44 rest + 1) rest)) in
    let after : new ≡ with_terms first terms = limited_is (with_terms first terms) new fits in
    rw (terms_more goes_on rest terms all on is, put_all-append with_term first others terms, after) refl
