-- What is read row by row, and a member whose id is none.
use Rattle.std.proofs.Common.{◌≡◌, ℕ, ◌+◌, ◌<◌, List, [], ◌∷◌, ◌++◌, length, map, take, drop, get_or, refl, ap, sym, ◌∙◌, Option, Some, None, Bool, false, arith}
use Prim.Native.Nat.{zero, suc}
use Rattle.std.specs.Prelude.{slice_get, filter_map}
use Rattle.std.specs.List.{cons_option}
use Rattle.std.proofs.lemmas.Option.{none-some}
use Rattle.gz_keyspace.specs.declared.table.Held.{Held}
use Rattle.gz_keyspace.specs.Keys.{KeyMap}
use Rattle.gz_keyspace.proofs.SortLemmas.{take_at}
use Rattle.gz_fields.specs.Names.{is_id}
use Rattle.gz_keyspace.specs.Formats.{joined_of, joined_words, joined_with, is_consumer, number_of, words_of}

-- ---- rows that are taken one by one

map_pushed : {A B : Type 0} (f : A → B) (xs : List A) (x : A) → map f (xs ++ x ∷ []) ≡ map f xs ++ f x ∷ []
map_pushed f [] x = refl
map_pushed f (y ∷ ys) x = ap (λ l. f y ∷ l) (map_pushed f ys x)

length_pushed : {A : Type 0} (xs : List A) (x : A) → length (xs ++ x ∷ []) ≡ length xs + 1
length_pushed [] x = refl
length_pushed (y ∷ ys) x = let e : length (ys ++ x ∷ []) ≡ length ys + 1 = length_pushed ys x in omega (arith, e)

pub rows_next : {A : Type 0} (f : A → List ℕ × Held) (xs all : List A) (x : A) (keys : KeyMap) → map f xs ≡ take (length xs) keys → slice_get keys (length xs) ≡ Some (f x) → all ≡ xs ++ x ∷ []
    → map f all ≡ take (length all) keys
rows_next f xs all x keys so_far next is =
    ap (λ l. map f l) is ∙ map_pushed f xs x ∙ ap (λ l. l ++ f x ∷ []) so_far ∙ sym (take_at keys (length xs) (f x) next)
    ∙ ap (λ (n : ℕ). take n keys) (sym (ap (λ l. length l) is ∙ length_pushed xs x))

past_end : (keys : KeyMap) (n : ℕ) → slice_get keys n ≡ None → take n keys ≡ keys
past_end [] zero none = refl
past_end [] (suc n) none = refl
past_end (k ∷ ks) zero none = absurd (none-some k (sym none))
past_end (k ∷ ks) (suc n) none = ap (λ l. k ∷ l) (past_end ks n none)

pub rows_end : {A : Type 0} (f : A → List ℕ × Held) (xs : List A) (keys : KeyMap) → map f xs ≡ take (length xs) keys → slice_get keys (length xs) ≡ None → map f xs ≡ keys
rows_end f xs keys so_far none = so_far ∙ past_end keys (length xs) none

-- ---- what is found one after another

drop_at : {A : Type 0} (xs : List A) (i : ℕ) (x : A) → i < length xs → x ≡ get_or xs i x → drop i xs ≡ x ∷ drop (suc i) xs
drop_at [] i x lt is = absurd (omega (arith, lt))
drop_at (y ∷ ys) zero x lt is = ap (λ z. z ∷ ys) (sym is)
drop_at (y ∷ ys) (suc i) x lt is = drop_at ys i x (omega (arith, lt)) is

assoc : {A : Type 0} (xs ys zs : List A) → (xs ++ ys) ++ zs ≡ xs ++ (ys ++ zs)
assoc [] ys zs = refl
assoc (x ∷ xs) ys zs = ap (λ l. x ∷ l) (assoc xs ys zs)

one_more : {A : Type 0} (o : Option A) (l : List A) → cons_option o [] ++ l ≡ cons_option o l
one_more None l = refl
one_more (Some x) l = refl

plus : (n : ℕ) → n + 1 ≡ suc n
plus n = omega arith

pub found_next : {A B : Type 0} (f : A → Option B) (xs : List A) (i : ℕ) (x : A) (out all next : List B) → i < length xs → x ≡ get_or xs i x → out ++ filter_map f (drop i xs) ≡ all
    → next ≡ out ++ cons_option (f x) [] → next ++ filter_map f (drop (i + 1) xs) ≡ all
found_next f xs i x out all next lt is so_far more =
    ap (λ l. l ++ filter_map f (drop (i + 1) xs)) more
    ∙ assoc out (cons_option (f x) []) (filter_map f (drop (i + 1) xs))
    ∙ ap (λ l. out ++ l) (one_more (f x) (filter_map f (drop (i + 1) xs)))
    ∙ ap (λ (n : ℕ). out ++ cons_option (f x) (filter_map f (drop n xs))) (plus i)
    ∙ ap (λ l. out ++ filter_map f l) (sym (drop_at xs i x lt is))
    ∙ so_far

-- ---- members

no_member_with : (id : List ℕ) (kind : Option Bool) (zone : List ℕ) (limit : Option ℕ) → is_id id ≡ false → joined_with id kind zone limit ≡ None
no_member_with id None zone limit none = refl
no_member_with id (Some consumer) zone None none = refl
no_member_with id (Some consumer) zone (Some limit) none = rw none refl

no_member_of : (id : List ℕ) (words : List (List ℕ)) → is_id id ≡ false → joined_words id words ≡ None
no_member_of id [] none = refl
no_member_of id (kind ∷ []) none = refl
no_member_of id (kind ∷ zone ∷ []) none = refl
no_member_of id (kind ∷ zone ∷ limit ∷ []) none = no_member_with id (is_consumer kind) zone (number_of limit) none
no_member_of id (kind ∷ zone ∷ limit ∷ word ∷ words) none = refl

-- what is no id is no member's
pub no_member : (id value : List ℕ) → is_id id ≡ false → joined_of id value ≡ None
no_member id value none = no_member_of id (words_of value) none
