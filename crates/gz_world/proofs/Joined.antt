-- The names of things where there come to be more of them.
use Rattle.std.proofs.Common.{◌≡◌, ℕ, List, [], ◌∷◌, ◌++◌, map, filter, refl, sym, ap, ◌∙◌, cond, Bool, true, false, Option, Some, None, Ok}
use Rattle.std.specs.Prelude.{length, unwrap_or, codes}
use Rattle.std.specs.Str.{bytes_eq}
use Rattle.std.proofs.lemmas.Slice.Eq.{bytes_eq-Decides}
use Rattle.gz_links.specs.Joins.{named_in, replaced, is_new, joined, contents_kept, both_of, join_of}
use Rattle.gz_fields.specs.Lists.{no_more_than}
use Rattle.gz_links.specs.Outcomes.{of_fields}
use Rattle.gz_spec.specs.Limits.{max_journals, max_shards}
use Rattle.gz_spec.specs.Records.{Specs}
use Rattle.gz_fields.proofs.Readable.{step}
use Rattle.gz_links.proofs.Whole.{whole_good}

same_thing : {A : Type 0} (a b : A) → (let o : Option A = Some a in o ≡ Some b) → a ≡ b
same_thing a b is = cc

found_if : {A : Type 0} (name_of : A → List ℕ) (name : List ℕ) (x a : A) (rest : Option A) (b : Bool) → bytes_eq (name_of x) name ≡ b → (rest ≡ Some a → name_of a ≡ name)
    → cond b (Some x) rest ≡ Some a → name_of a ≡ name
found_if name_of name x a rest true same later is = ap name_of (sym (same_thing x a is)) ∙ (bytes_eq-Decides (name_of x) name).0 same
found_if name_of name x a rest false same later is = later is

-- what is found has the name
found_name : {A : Type 0} (name_of : A → List ℕ) (name : List ℕ) (xs : List A) (a : A) → named_in name_of name xs ≡ Some a → name_of a ≡ name
found_name name_of name [] a is = absurd (cc)
found_name name_of name (x ∷ xs) a is =
    found_if name_of name x a (named_in name_of name xs) (bytes_eq (name_of x) name) refl (λ later. found_name name_of name xs a later) is

chosen_name : {A : Type 0} (name_of : A → List ℕ) (more : List A) (a : A) (o : Option A) → named_in name_of (name_of a) more ≡ o → name_of (unwrap_or o a) ≡ name_of a
chosen_name name_of more a None is = refl
chosen_name name_of more a (Some b) is = found_name name_of (name_of a) more b is

replaced_names : {A : Type 0} (name_of : A → List ℕ) (more old : List A) → map name_of (map (replaced name_of more) old) ≡ map name_of old
replaced_names name_of more [] = refl
replaced_names name_of more (a ∷ as_) = rw (chosen_name name_of more a (named_in name_of (name_of a) more) refl, replaced_names name_of more as_) refl

map_both : {A : Type 0} (name_of : A → List ℕ) (xs ys : List A) → map name_of (xs ++ ys) ≡ map name_of xs ++ map name_of ys
map_both name_of [] ys = refl
map_both name_of (x ∷ xs) ys = ap (λ (ns : List (List ℕ)). name_of x ∷ ns) (map_both name_of xs ys)

-- the names that none has yet
abbrev pub new_names : {A : Type 0} → (A → List ℕ) → List A → List A → List (List ℕ)
new_names name_of old more = map name_of (filter (is_new name_of old) more)

-- the new names come behind those that are there
pub joined_names : {A : Type 0} (name_of : A → List ℕ) (old more : List A) → map name_of (joined name_of old more) ≡ map name_of old ++ new_names name_of old more
joined_names name_of old more =
    map_both name_of (map (replaced name_of more) old) (filter (is_new name_of old) more)
    ∙ ap (λ (ns : List (List ℕ)). ns ++ new_names name_of old more) (replaced_names name_of more old)

-- what was joined is both together
pub join_is_both : (specs more all : Specs) → join_of specs more ≡ Ok all → all ≡ both_of specs more
unfolding join_of
join_is_both specs more all is =
    let both = both_of specs more in
    let kept = step (of_fields (contents_kept specs.journals 0 more.journals)) _ all is in
    let js = step (of_fields (no_more_than max_journals (codes "journals") (length both.journals))) _ all kept.2 in
    let ss = step (of_fields (no_more_than max_shards (codes "shards") (length both.shards))) _ all js.2 in
    sym (whole_good both all ss.2).same
