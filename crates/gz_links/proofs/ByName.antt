-- Lists of things with names of their own: the names' places are the things'.
use Rattle.std.proofs.Common.{Bor, add-one, drop, get_or, ◌<◌, ◌≡◌, ℕ, suc, ◌+◌, ◌≤◌, ◌&&◌, List, [], ◌∷◌, ◌++◌, map, length, refl, sym, subst, ap, ◌∙◌, append_assoc, length-append, arith, cond, Bool, true, false, not, nat_le, Option, Some, None}
use Rattle.std.specs.Prelude.{codes, is_some, IfSome, position, slice_get, option_map, option_and_then}
use Rattle.std.specs.List.{list_all, position_from}
use Rattle.std.specs.Str.{bytes_eq}
use Rattle.std.proofs.Math.Dec.{ltb}
use Rattle.std.proofs.lemmas.Bool.{and_parts}
use Rattle.std.proofs.lemmas.Iterator.Adapters.{position_from-zero}
use Rattle.std.proofs.lemmas.Option.{slice_get_past, slice_get-get_or}
use Rattle.gz_spec.specs.Limits.{max_journals, max_shards}
use Rattle.gz_spec.specs.Records.{JournalSpec, ShardSpec, Specs}
use Rattle.gz_spec.specs.Framings.{framing_in}
use Rattle.gz_links.specs.Links.{framing_at}
use Rattle.gz_fields.specs.Lists.{is_used}
use Rattle.gz_spec.specs.Specs.{name_of_journal, id_of_shard}
use Rattle.gz_links.specs.Joins.{named_in}
use Rattle.gz_fields.specs.Names.{is_id, is_id_byte, is_journal_name, is_segment, segments}
use Rattle.gz_spec.specs.Valid.{is_journal, is_shard, are_sources, are_fresh, are_journals, are_shards, are_specs}
use Rattle.gz_spec.specs.declared.framing.Framing.{Framing}
use Rattle.gz_fields.proofs.Eachs.{drop_here}
use Rattle.gz_fields.proofs.Used.{bytes_turned}

-- ---- names that come one after the other into a table

-- a new key stands behind the others
key_added : (t : Bool) (keys : List (List ℕ)) (name : List ℕ) → not t ≡ true
    → cond t keys (keys ++ name ∷ []) ≡ keys ++ name ∷ []
key_added true keys name new = absurd (cc)
key_added false keys name new = refl

pub fresh_turn : {A : Type 0} (name_of : A → List ℕ) (keys more : List (List ℕ)) (x : A) (xs : List A)
    → are_fresh name_of keys (x ∷ xs) ≡ true
    → more ≡ cond (is_used keys (name_of x)) keys (keys ++ name_of x ∷ [])
    → (are_fresh name_of more xs ≡ true) × (more ++ map name_of xs ≡ keys ++ map name_of (x ∷ xs))
fresh_turn {A} name_of keys more x xs fresh is =
    let a = and_parts (not (is_used keys (name_of x))) (are_fresh name_of (keys ++ name_of x ∷ []) xs) fresh in
    let e : more ≡ keys ++ name_of x ∷ [] = is ∙ key_added (is_used keys (name_of x)) keys (name_of x) a.0 in
    let P : List (List ℕ) → Type 0 = λ ks. are_fresh name_of ks xs ≡ true in
    (subst P (sym e) a.1, ap (λ ks. ks ++ map name_of xs) e ∙ append_assoc keys (name_of x ∷ []) (map name_of xs))

-- one more name is in the table
pub names_turn : {A : Type 0} (name_of : A → List ℕ) (keys more : List (List ℕ)) (all : List A) (i : ℕ) (x : A)
    (name : List ℕ) → i < length all → x ≡ get_or all i x
    → (are_fresh name_of keys (drop i all) ≡ true) × (keys ++ map name_of (drop i all) ≡ map name_of all)
    → name ≡ name_of x → more ≡ cond (is_used keys name) keys (keys ++ name ∷ [])
    → (are_fresh name_of more (drop (i + 1) all) ≡ true) × (more ++ map name_of (drop (i + 1) all) ≡ map name_of all)
names_turn {A} name_of keys more all i x name below is before same added =
    let P : List A → Type 0 = λ ys. (are_fresh name_of keys ys ≡ true) × (keys ++ map name_of ys ≡ map name_of all) in
    let h = subst P (drop_here all i x below is) before in
    let Q : List ℕ → Type 0 = λ n. more ≡ cond (is_used keys n) keys (keys ++ n ∷ []) in
    let t = fresh_turn name_of keys more x (drop (i + 1) all) h.0 (subst Q same added) in
    (t.0, t.1 ∙ h.1)

-- ---- what stands at the place of a name

shift_turn : (t : Bool) (i : ℕ) (o p : Option ℕ) → o ≡ option_map suc p
    → cond t (Some (i + 1)) o ≡ option_map suc (cond t (Some i) p)
shift_turn true i o p is = ap (λ (k : ℕ). Some k) (add-one i)
shift_turn false i o p is = is

shifted : {K : Type 0} (test : K → Bool) (i : ℕ) (ks : List K)
    → position_from test (i + 1) ks ≡ option_map suc (position_from test i ks)
shifted test i [] = refl
shifted test i (k ∷ ks) =
    shift_turn (test k) i (position_from test (i + 1 + 1) ks) (position_from test (i + 1) ks) (shifted test (i + 1) ks)

found_turn : {A : Type 0} (x : A) (xs : List A) (s t : Bool) (o p : Option ℕ) (rest : Option A) → s ≡ t
    → o ≡ option_map suc p → option_and_then (slice_get xs) p ≡ rest
    → option_and_then (slice_get (x ∷ xs)) (cond s (Some 0) o) ≡ cond t (Some x) rest
found_turn x xs true t o p rest same next is = rw (← same) refl
found_turn x xs false t o None rest same next is = rw (← same, next) is
found_turn x xs false t o (Some k) rest same next is = rw (← same, next) is

named_from : {A : Type 0} (name_of : A → List ℕ) (name : List ℕ) (xs : List A)
    → option_and_then (slice_get xs) (position_from (bytes_eq name) 0 (map name_of xs)) ≡ named_in name_of name xs
named_from name_of name [] = refl
named_from name_of name (x ∷ xs) =
    found_turn x xs (bytes_eq name (name_of x)) (bytes_eq (name_of x) name)
    (position_from (bytes_eq name) 1 (map name_of xs)) (position_from (bytes_eq name) 0 (map name_of xs))
    (named_in name_of name xs) (bytes_turned name (name_of x)) (shifted (bytes_eq name) 0 (map name_of xs))
    (named_from name_of name xs)

pub named_at : {A : Type 0} (name_of : A → List ℕ) (name : List ℕ) (xs : List A)
    → option_and_then (slice_get xs) (position (bytes_eq name) (map name_of xs)) ≡ named_in name_of name xs
named_at {A} name_of name xs =
    let P : Option ℕ → Type 0 = λ p. option_and_then (slice_get xs) p ≡ named_in name_of name xs in
    subst P (sym (position_from-zero (bytes_eq name) (map name_of xs))) (named_from name_of name xs)

ends : (n m : ℕ) → false ≡ ltb n m → m ≤ n
ends n m is = grind arith

stands : (n m : ℕ) → true ≡ ltb n m → n < m
stands n m is = grind arith

got : {A : Type 0} (xs : List A) (place : ℕ) (found : Option (Bor A)) → is_some found ≡ ltb place (length xs)
    → IfSome found (λ x. x.now ≡ get_or xs place x.now)
    → option_map (λ x. x.now) found ≡ slice_get xs place
got xs place None is at = sym (slice_get_past xs place (ends place (length xs) is))
got {A} xs place (Some x) is at = ap (λ (y : A). Some y) at ∙ sym (slice_get-get_or xs place x.now (stands place (length xs) is))

-- what a table of the names finds, of the things as contracts see them
pub named_by : {A : Type 0} (name_of : A → List ℕ) (name : List ℕ) (keys : List (List ℕ)) (xs seen : List A)
    (p : Option ℕ) → keys ≡ map name_of xs → xs ≡ seen → p ≡ position (bytes_eq name) keys
    → option_and_then (slice_get xs) p ≡ named_in name_of name seen
named_by {A} name_of name keys xs seen p all same is =
    rw (is, all) (named_at name_of name xs ∙ ap (λ (ys : List A). named_in name_of name ys) same)

pub named_got : {A : Type 0} (name_of : A → List ℕ) (name : List ℕ) (keys : List (List ℕ)) (xs seen : List A)
    (place : ℕ) (found : Option (Bor A)) → keys ≡ map name_of xs → xs ≡ seen
    → Some place ≡ position (bytes_eq name) keys → is_some found ≡ ltb place (length xs)
    → IfSome found (λ x. x.now ≡ get_or xs place x.now)
    → option_map (λ x. x.now) found ≡ named_in name_of name seen
named_got name_of name keys xs seen place found all same at is here =
    got xs place found is here ∙ named_by name_of name keys xs seen (Some place) all same at

-- ---- what a journal holds

held_turn : (t : Bool) (j : JournalSpec) (o : Option JournalSpec) (rest : Option Framing)
    → option_map (λ k. framing_in k.labels) o ≡ rest
    → option_map (λ k. framing_in k.labels) (cond t (Some j) o) ≡ cond t (Some (framing_in j.labels)) rest
held_turn true j o rest is = refl
held_turn false j o rest is = is

held_named : (js : List JournalSpec) (name : List ℕ)
    → option_map (λ k. framing_in k.labels) (named_in name_of_journal name js) ≡ framing_at js name
held_named [] name = refl
held_named (j ∷ js) name = held_turn (bytes_eq j.name name) j (named_in name_of_journal name js) (framing_at js name) (held_named js name)

pub held_by : (js : List JournalSpec) (name : List ℕ) (o : Option JournalSpec) → o ≡ named_in name_of_journal name js
    → option_map (λ k. framing_in k.labels) o ≡ framing_at js name
held_by js name o is = ap (λ (p : Option JournalSpec). option_map (λ k. framing_in k.labels) p) is ∙ held_named js name

-- ---- valid lists

pub journals_fresh : (js : List JournalSpec) → are_journals js ≡ true → are_fresh name_of_journal [] js ≡ true
journals_fresh js valid =
    let a = and_parts (nat_le (length js) max_journals) (list_all is_journal js && are_fresh name_of_journal [] js) valid in
    (and_parts (list_all is_journal js) (are_fresh name_of_journal [] js) a.1).1

pub shards_fresh : (ss : List ShardSpec) → are_shards ss ≡ true → are_fresh id_of_shard [] ss ≡ true
shards_fresh ss valid =
    let a = and_parts (nat_le (length ss) max_shards) (list_all is_shard ss && are_fresh id_of_shard [] ss) valid in
    (and_parts (list_all is_shard ss) (are_fresh id_of_shard [] ss) a.1).1

pub specs_fresh : (s : Specs) → are_specs s ≡ true → are_fresh name_of_journal [] s.journals ≡ true
specs_fresh s valid = journals_fresh s.journals (and_parts (are_journals s.journals) _ valid).0

-- ---- the name of a shard's log

at_most : (n m : ℕ) → nat_le n m ≡ true → n ≤ m
at_most n m le = grind arith

short_name : (name : List ℕ) → is_journal_name name ≡ true → length name ≤ 255
unfolding is_journal_name
short_name name is =
    at_most (length name) 255 (and_parts (nat_le (length name) 255) (list_all is_segment (segments name)) is).0

short_id : (id : List ℕ) → is_id id ≡ true → length id ≤ 32
unfolding is_id
short_id id is =
    at_most (length id) 32 (and_parts (nat_le 1 (length id)) (nat_le (length id) 32)
    (and_parts (nat_le 1 (length id) && nat_le (length id) 32) (list_all is_id_byte id) is).0).1

pub short_log : (s : ShardSpec) (prefix folder id text : List ℕ) → is_shard s ≡ true → prefix ≡ s.recovery_log_prefix
    → folder ≡ prefix ++ codes "/" → id ≡ s.id → text ≡ folder ++ id → length text ≤ 1024
short_log s prefix folder id text valid first next last whole =
    let a = and_parts (is_id s.id) _ valid in
    let b = and_parts (are_sources s.sources) _ a.1 in
    let c = and_parts (is_journal_name s.recovery_log_prefix) _ b.1 in
    let short = short_id s.id a.0 in
    let few = short_name s.recovery_log_prefix c.0 in
    rw (whole, length-append, next, length-append, first, last) (omega (arith, short, few))
