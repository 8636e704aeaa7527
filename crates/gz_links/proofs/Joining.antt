-- Valid specifications that are joined are valid.
use Rattle.std.proofs.Common.{◌≡◌, ℕ, ◌&&◌, ◌||◌, List, [], ◌∷◌, ◌++◌, map, filter, length, refl, sym, subst, ◌∙◌, append_assoc, append-nil, cond, Bool, true, false, not, nat_le, Ok, Option, Some, None}
use Rattle.std.specs.Prelude.{codes, is_some, unwrap_or}
use Rattle.std.specs.List.{list_all}
use Rattle.std.specs.Str.{bytes_eq}
use Rattle.std.proofs.lemmas.Bool.{and_parts, not-true}
use Rattle.std.proofs.lemmas.Slice.Eq.{bytes_eq-Decides}
use Rattle.gz_spec.specs.Limits.{max_journals, max_shards}
use Rattle.gz_spec.specs.Records.{JournalSpec, ShardSpec, MemberSpec, Specs}
use Rattle.gz_fields.specs.Lists.{no_more_than, is_used}
use Rattle.gz_spec.specs.Specs.{name_of_journal, id_of_shard}
use Rattle.gz_links.specs.Links.{are_linked}
use Rattle.gz_links.specs.Cycles.{AreRanked}
use Rattle.gz_links.specs.Joins.{named_in, replaced, is_new, joined, both_of, contents_kept, join_of}
use Rattle.gz_spec.specs.Valid.{are_fresh, is_journal, is_shard, are_journals, are_shards, are_specs}
use Rattle.gz_fields.proofs.Readable.{step}
use Rattle.gz_spec.proofs.Sound.{both, few_good}
use Rattle.gz_fields.proofs.Used.{not_true, bytes_turned, used_parts}
use Rattle.gz_links.specs.Outcomes.{of_fields}
use Rattle.gz_links.proofs.Fields.{fields_went}
use Rattle.gz_links.proofs.Whole.{IsWhole, whole_good, whole_is_ranked}

-- ---- small steps

heads : (x y : List ℕ) (xs ys : List (List ℕ)) → x ∷ xs ≡ y ∷ ys → (x ≡ y) × (xs ≡ ys)
heads x y xs ys same = (cc, cc)

opposed : (b : Bool) → b ≡ true → b ≡ false → ⊥
opposed b t f = cc

one_of : (a b c : Bool) → (a || b) ≡ true → (b ≡ true → c ≡ true) → (a || c) ≡ true
one_of true b c is later = refl
one_of false b c is later = later is

or_none : (b : Bool) → (b || false) ≡ true → b ≡ true
or_none true is = refl
or_none false is = is

-- ---- what is put in the place of another

same_thing : {A : Type 0} (a b : A) → (let o : Option A = Some a in o ≡ Some b) → a ≡ b
same_thing a b is = cc

named_turn : {A : Type 0} (name_of : A → List ℕ) (good : A → Bool) (name : List ℕ) (x a : A) (t : Bool)
    (rest : Option A) → t ≡ bytes_eq (name_of x) name → good x ≡ true
    → (rest ≡ Some a → (good a ≡ true) × (name_of a ≡ name)) → cond t (Some x) rest ≡ Some a
    → (good a ≡ true) × (name_of a ≡ name)
named_turn {A} name_of good name x a true rest t here later is =
    let P : A → Type 0 = λ y. (good y ≡ true) × (name_of y ≡ name) in
    subst P (same_thing x a is) (here, (bytes_eq-Decides (name_of x) name).0 (sym t))
named_turn name_of good name x a false rest t here later is = later is

-- what is found is good, and has the name
named_valid : {A : Type 0} (name_of : A → List ℕ) (good : A → Bool) (name : List ℕ) (xs : List A) (a : A)
    → list_all good xs ≡ true → named_in name_of name xs ≡ Some a
    → (good a ≡ true) × (name_of a ≡ name)
named_valid name_of good name [] a all is = absurd (cc)
named_valid name_of good name (x ∷ xs) a all is =
    let g = and_parts (good x) (list_all good xs) all in
    named_turn name_of good name x a (bytes_eq (name_of x) name) (named_in name_of name xs) refl g.0
    (λ r. named_valid name_of good name xs a g.1 r) is

chosen_valid : {A : Type 0} (name_of : A → List ℕ) (good : A → Bool) (more : List A) (a : A) (o : Option A)
    → o ≡ named_in name_of (name_of a) more → list_all good more ≡ true → good a ≡ true
    → (good (unwrap_or o a) ≡ true) × (name_of (unwrap_or o a) ≡ name_of a)
chosen_valid name_of good more a None is all here = (here, refl)
chosen_valid name_of good more a (Some b) is all here = named_valid name_of good (name_of a) more b all (sym is)

replaced_valid : {A : Type 0} (name_of : A → List ℕ) (good : A → Bool) (more : List A) (a : A)
    → list_all good more ≡ true → good a ≡ true
    → (good (replaced name_of more a) ≡ true) × (name_of (replaced name_of more a) ≡ name_of a)
replaced_valid name_of good more a all here = chosen_valid name_of good more a
    (named_in name_of (name_of a) more) refl all here

-- the old ones, each good, of the names that they had
record AreReplaced {A : Type 0} (name_of : A → List ℕ) (good : A → Bool) (old new : List A) : Type 0 where
  all : list_all good new ≡ true
  names : map name_of new ≡ map name_of old

all_replaced : {A : Type 0} (name_of : A → List ℕ) (good : A → Bool) (more old : List A) → list_all good more ≡ true
    → list_all good old ≡ true
    → AreReplaced name_of good old (map (replaced name_of more) old)
all_replaced name_of good more [] all here = record { all = refl; names = refl }
all_replaced name_of good more (a ∷ as_) all here =
    let g = and_parts (good a) (list_all good as_) here in
    let r = replaced_valid name_of good more a all g.0 in
    let rest = all_replaced name_of good more as_ all g.1 in
    record {
      all = both (good (replaced name_of more a)) (list_all good (map (replaced name_of more) as_)) r.0 rest.all;
      names = rw (r.1, rest.names) refl;
    }

-- ---- names of their own

-- only the names count
same_names : {A : Type 0} (name_of : A → List ℕ) (used : List (List ℕ)) (xs ys : List A)
    → map name_of xs ≡ map name_of ys → are_fresh name_of used xs ≡ are_fresh name_of used ys
same_names name_of used [] [] same = refl
same_names name_of used [] (y ∷ ys) same = absurd (cc)
same_names name_of used (x ∷ xs) [] same = absurd (cc)
same_names name_of used (x ∷ xs) (y ∷ ys) same =
    let p = heads (name_of x) (name_of y) (map name_of xs) (map name_of ys) same in
    rw (p.0, same_names name_of (used ++ name_of y ∷ []) xs ys p.1) refl

fresh_append : {A : Type 0} (name_of : A → List ℕ) (xs ys : List A) (used : List (List ℕ))
    → are_fresh name_of used xs ≡ true → are_fresh name_of (used ++ map name_of xs) ys ≡ true
    → are_fresh name_of used (xs ++ ys) ≡ true
fresh_append name_of [] ys used first last =
    let P : List (List ℕ) → Type 0 = λ us. are_fresh name_of us ys ≡ true in
    subst P (append-nil used) last
fresh_append name_of (x ∷ xs) ys used first last =
    let a = and_parts (not (is_used used (name_of x))) (are_fresh name_of (used ++ name_of x ∷ []) xs) first in
    let P : List (List ℕ) → Type 0 = λ us. are_fresh name_of us ys ≡ true in
    both (not (is_used used (name_of x))) (are_fresh name_of (used ++ name_of x ∷ []) (xs ++ ys)) a.0
    (fresh_append name_of xs ys (used ++ name_of x ∷ []) a.1
    (subst P (sym (append_assoc used (name_of x ∷ []) (map name_of xs))) last))

found_used : {A : Type 0} (t u r : Bool) (x : A) (o : Option A) → t ≡ u → is_some o ≡ r
    → is_some (cond t (Some x) o) ≡ (u || r)
found_used true u r x o same rest = rw (← same) refl
found_used false u r x o same rest = rw (← same) rest

named_used : {A : Type 0} (name_of : A → List ℕ) (name : List ℕ) (xs : List A)
    → is_some (named_in name_of name xs) ≡ is_used (map name_of xs) name
named_used name_of name [] = refl
named_used name_of name (x ∷ xs) =
    found_used (bytes_eq (name_of x) name) (bytes_eq name (name_of x)) (is_used (map name_of xs) name) x
    (named_in name_of name xs) (bytes_turned (name_of x) name) (named_used name_of name xs)

used_more : (used : List (List ℕ)) (name other : List ℕ) → is_used (used ++ name ∷ []) other ≡ true
    → bytes_eq other name ≡ false → is_used used other ≡ true
used_more [] name other is new = absurd (opposed (bytes_eq other name) (or_none (bytes_eq other name) is) new)
used_more (u ∷ us) name other is new = one_of (bytes_eq other u) (is_used (us ++ name ∷ []) other)
    (is_used us other) is (λ h. used_more us name other h new)

-- what is used among the second, and not among the first, is an old name
abbrev Covers : List (List ℕ) → List (List ℕ) → List (List ℕ) → Type 0
Covers names us vs = (name : List ℕ) → is_used vs name ≡ true → is_used us name ≡ false → is_used names name ≡ true

new_turn : {A : Type 0} (name_of : A → List ℕ) (old : List A) (x : A) (ys : List A) (us vs : List (List ℕ)) (t : Bool)
    → t ≡ is_new name_of old x → is_used us (name_of x) ≡ false
    → Covers (map name_of old) us vs → are_fresh name_of (vs ++ name_of x ∷ []) ys ≡ true
    → are_fresh name_of vs ys ≡ true → are_fresh name_of vs (cond t (x ∷ ys) ys) ≡ true
new_turn name_of old x ys us vs true new unused covers with_it without =
    let other : is_used (map name_of old) (name_of x) ≡ false = sym (named_used name_of (name_of x) old) ∙ not-true
    (is_some (named_in name_of (name_of x) old)) (sym new) in
    let own : is_used vs (name_of x) ≡ false = not_true (is_used vs (name_of x))
    (λ h. opposed (is_used (map name_of old) (name_of x)) (covers (name_of x) h unused) other) in
    rw (own, with_it) refl
new_turn name_of old x ys us vs false new unused covers with_it without = without

new_fresh : {A : Type 0} (name_of : A → List ℕ) (old more : List A) (us vs : List (List ℕ))
    → Covers (map name_of old) us vs → are_fresh name_of us more ≡ true
    → are_fresh name_of vs (filter (is_new name_of old) more) ≡ true
new_fresh name_of old [] us vs covers fresh = refl
new_fresh name_of old (x ∷ xs) us vs covers fresh =
    let a = and_parts (not (is_used us (name_of x))) (are_fresh name_of (us ++ name_of x ∷ []) xs) fresh in
    let n = name_of x in
    new_turn name_of old x (filter (is_new name_of old) xs) us vs (is_new name_of old x) refl
    (not-true (is_used us n) a.0) covers
    (new_fresh name_of old xs (us ++ n ∷ []) (vs ++ n ∷ [])
    (λ name u f. let p = used_parts us n name f in covers name (used_more vs n name u p.1) p.0) a.1)
    (new_fresh name_of old xs (us ++ n ∷ []) vs (λ name u f. covers name u (used_parts us n name f).0) a.1)

-- ---- lists that are joined

new_all_turn : {A : Type 0} (good : A → Bool) (x : A) (ys : List A) (t : Bool) → good x ≡ true
    → list_all good ys ≡ true → list_all good (cond t (x ∷ ys) ys) ≡ true
new_all_turn good x ys true here rest = both (good x) (list_all good ys) here rest
new_all_turn good x ys false here rest = rest

new_all : {A : Type 0} (good : A → Bool) (test : A → Bool) (xs : List A) → list_all good xs ≡ true
    → list_all good (filter test xs) ≡ true
new_all good test [] all = refl
new_all good test (x ∷ xs) all =
    let g = and_parts (good x) (list_all good xs) all in
    new_all_turn good x (filter test xs) (test x) g.0 (new_all good test xs g.1)

all_both : {A : Type 0} (good : A → Bool) (xs ys : List A) → list_all good xs ≡ true → list_all good ys ≡ true
    → list_all good (xs ++ ys) ≡ true
all_both good [] ys first last = last
all_both good (x ∷ xs) ys first last =
    let g = and_parts (good x) (list_all good xs) first in
    both (good x) (list_all good (xs ++ ys)) g.0 (all_both good xs ys g.1 last)

joined_good : {A : Type 0} (name_of : A → List ℕ) (good : A → Bool) (old more : List A)
    → (list_all good old && are_fresh name_of [] old) ≡ true → (list_all good more && are_fresh name_of [] more) ≡ true
    → (list_all good (joined name_of old more) && are_fresh name_of [] (joined name_of old more)) ≡ true
joined_good name_of good old more p q =
    let a = and_parts (list_all good old) (are_fresh name_of [] old) p in
    let b = and_parts (list_all good more) (are_fresh name_of [] more) q in
    let r = all_replaced name_of good more old b.0 a.0 in
    let new = map (replaced name_of more) old in
    let P : List (List ℕ) → Type 0 = λ names. are_fresh name_of names (filter (is_new name_of old) more) ≡ true in
    both (list_all good (joined name_of old more)) (are_fresh name_of [] (joined name_of old more))
    (all_both good new (filter (is_new name_of old) more) r.all (new_all good (is_new name_of old) more b.0))
    (fresh_append name_of new (filter (is_new name_of old) more) [] (same_names name_of [] new old r.names ∙ a.1)
    (subst P (sym r.names) (new_fresh name_of old more [] (map name_of old) (λ name u f. u) b.1)))

-- ---- specifications

both_good : (specs more : Specs) → are_specs specs ≡ true → are_specs more ≡ true
    → nat_le (length (both_of specs more).journals) max_journals ≡ true → nat_le (length (both_of specs more).shards) max_shards ≡ true
    → are_specs (both_of specs more) ≡ true
both_good specs more p q journals shards =
    let a = and_parts (are_journals specs.journals) _ p in
    let b = and_parts (are_shards specs.shards) _ a.1 in
    let c = and_parts (are_journals more.journals) _ q in
    let d = and_parts (are_shards more.shards) _ c.1 in
    let js = joined_good name_of_journal is_journal specs.journals more.journals
    (and_parts (nat_le (length specs.journals) max_journals) _ a.0).1 (and_parts (nat_le (length more.journals) max_journals) _ c.0).1 in
    let ss = joined_good id_of_shard is_shard specs.shards more.shards
    (and_parts (nat_le (length specs.shards) max_shards) _ b.0).1 (and_parts (nat_le (length more.shards) max_shards) _ d.0).1 in
    both (are_journals (both_of specs more).journals) _
    (both (nat_le (length (both_of specs more).journals) max_journals) _ journals js)
    (both (are_shards (both_of specs more).shards) _
    (both (nat_le (length (both_of specs more).shards) max_shards) _ shards ss) b.1)

-- what was joined is both together, judged as a whole, with neither list too long
record IsJoined (specs more out : Specs) : Type 0 where
  judged : IsWhole (both_of specs more) out
  journals : nat_le (length (both_of specs more).journals) max_journals ≡ true
  shards : nat_le (length (both_of specs more).shards) max_shards ≡ true

join_parts : (specs more out : Specs) → join_of specs more ≡ Ok out → IsJoined specs more out
unfolding join_of
join_parts specs more out is =
    let both_are = both_of specs more in
    let kept = step (of_fields (contents_kept specs.journals 0 more.journals)) _ out is in
    let js = step (of_fields (no_more_than max_journals (codes "journals") (length both_are.journals))) _ out kept.2 in
    let ss = step (of_fields (no_more_than max_shards (codes "shards") (length both_are.shards))) _ out js.2 in
    record {
      judged = whole_good both_are out ss.2;
      journals = few_good max_journals (codes "journals") (length both_are.journals) js.0 (fields_went (no_more_than max_journals (codes "journals") (length both_are.journals)) js.0 js.1);
      shards = few_good max_shards (codes "shards") (length both_are.shards) ss.0 (fields_went (no_more_than max_shards (codes "shards") (length both_are.shards)) ss.0 ss.1);
    }

pub join_is_valid : (specs more out : Specs) → are_specs specs ≡ true → are_specs more ≡ true
    → join_of specs more ≡ Ok out → are_specs out ≡ true
join_is_valid specs more out p q is =
    let j = join_parts specs more out is in
    let P : Specs → Type 0 = λ s. are_specs s ≡ true in
    subst P j.judged.same (both_good specs more p q j.journals j.shards)

pub join_is_linked : (specs more out : Specs) → join_of specs more ≡ Ok out
    → are_linked out.journals out.shards ≡ true
join_is_linked specs more out is = (join_parts specs more out is).judged.linked

pub join_is_ranked : (specs more out : Specs) → are_specs specs ≡ true → are_specs more ≡ true
    → join_of specs more ≡ Ok out → (number : List ℕ → ℕ) × AreRanked number out.shards
join_is_ranked specs more out p q is =
    whole_is_ranked out (join_is_valid specs more out p q is) (join_parts specs more out is).judged.acyclic

-- journals that are joined, not too many
pub journals_joined : (old more js : List JournalSpec) (path : List ℕ) (u : Unit {0})
    → js ≡ joined name_of_journal old more → no_more_than max_journals path (length js) ≡ Ok u
    → are_journals old ≡ true → are_journals more ≡ true → are_journals js ≡ true
journals_joined old more js path u is few p q =
    let both_are = joined_good name_of_journal is_journal old more (and_parts (nat_le (length old) max_journals) _ p).1
    (and_parts (nat_le (length more) max_journals) _ q).1 in
    both (nat_le (length js) max_journals) _ (few_good max_journals path (length js) u few) (rw is both_are)

pub shards_joined : (old more ss : List ShardSpec) (path : List ℕ) (u : Unit {0})
    → ss ≡ joined id_of_shard old more → no_more_than max_shards path (length ss) ≡ Ok u
    → are_shards old ≡ true → are_shards more ≡ true → are_shards ss ≡ true
shards_joined old more ss path u is few p q =
    let both_are = joined_good id_of_shard is_shard old more (and_parts (nat_le (length old) max_shards) _ p).1
    (and_parts (nat_le (length more) max_shards) _ q).1 in
    both (nat_le (length ss) max_shards) _ (few_good max_shards path (length ss) u few) (rw is both_are)

-- the lists of both, each good, with the members that were there
pub specs_joined : (specs more : Specs) (js : List JournalSpec) (ss : List ShardSpec) (bs cs : List MemberSpec)
    → are_specs specs ≡ true → are_specs more ≡ true
    → (are_journals specs.journals ≡ true → are_journals more.journals ≡ true → are_journals js ≡ true)
    → (are_shards specs.shards ≡ true → are_shards more.shards ≡ true → are_shards ss ≡ true)
    → bs ≡ specs.brokers → cs ≡ specs.consumers
    → are_specs (record { journals = js; shards = ss; brokers = bs; consumers = cs }) ≡ true
specs_joined specs more js ss bs cs p q j s b c =
    let old_js = and_parts (are_journals specs.journals) _ p in
    let old_ss = and_parts (are_shards specs.shards) _ old_js.1 in
    let new_js = and_parts (are_journals more.journals) _ q in
    let new_ss = and_parts (are_shards more.shards) _ new_js.1 in
    both (are_journals js) _ (j old_js.0 new_js.0) (both (are_shards ss) _ (s old_ss.0 new_ss.0) (rw (b, c) old_ss.1))
