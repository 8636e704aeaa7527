-- The order of ids: shards that are there come in their order among those of specifications with more of them.
use Rattle.std.proofs.Common.{◌≡◌, ◌⊎◌, inl, inr, ℕ, List, [], ◌∷◌, ◌++◌, map, refl, sym, ap, ◌∙◌, subst, cond, Bool, true, false, Ordering, Less, Equal, Greater}
use Rattle.std.specs.Prelude.{⊤}
use Rattle.std.specs.Str.{bytes_eq}
use Rattle.std.specs.Ordering.{nat_cmp, match_ordering, is_eq}
use Rattle.std.specs.Cmp.Lexicographic.{slice_cmp}
use Rattle.std.specs.BTreeMap.{insert_entry}
use Rattle.std.proofs.lemmas.Map.Text.{is_eq-slice_cmp}
use Rattle.std.proofs.lemmas.Slice.Eq.{bytes_eq-Decides}
use Rattle.gz_links.specs.Joins.{joined}
use Rattle.gz_spec.specs.Specs.{id_of_shard}
use Rattle.gz_spec.specs.Records.{ShardSpec}
use Rattle.gz_plain.specs.Definitions.{Definition, definition_of}
use Rattle.gz_plain.specs.Runs.{continues}
use Rattle.gz_plain.specs.Shards.{Shard}
use Rattle.gz_world.specs.Starts.{defined, put_shards, in_id_order, definitions_of}
use Rattle.gz_world.proofs.Joined.{joined_names, new_names}

-- ---- ids among others

-- the second ones come among the first, in the same order
abbrev pub Has : List (List ℕ) → List (List ℕ) → Type 0
Has [] [] = ⊤
Has [] (a ∷ as_) = ⊥
Has (b ∷ bs) [] = ⊤
Has (b ∷ bs) (a ∷ as_) = ((a ≡ b) × Has bs as_) ⊎ Has bs (a ∷ as_)

has_self : (xs : List (List ℕ)) → Has xs xs
has_self [] = tt
has_self (x ∷ xs) = inl (refl, has_self xs)

has_rest : (bs : List (List ℕ)) (a : List ℕ) (as_ : List (List ℕ)) → Has bs (a ∷ as_) → Has bs as_
has_rest [] a as_ h = absurd h
has_rest (b ∷ bs) a [] h = tt
has_rest (b ∷ bs) a (c ∷ cs) h = elim h [ inl p ↦ inr p.1 | inr q ↦ inr (has_rest bs a (c ∷ cs) q) ]

both_have : (c : List ℕ) (cs : List (List ℕ)) (b : List ℕ) (bs : List (List ℕ)) (a : List ℕ) (as_ : List (List ℕ)) → ((xs ys : List (List ℕ)) → Has cs xs → Has xs ys → Has cs ys) → Has (c ∷ cs) (b ∷ bs)
    → Has (b ∷ bs) (a ∷ as_) → Has (c ∷ cs) (a ∷ as_)
both_have c cs b bs a as_ rest h k = elim h [
  | inl p ↦ elim k [ inl q ↦ inl (q.0 ∙ p.0, rest bs as_ p.1 q.1) | inr q ↦ inr (rest bs (a ∷ as_) p.1 q) ]
  | inr p ↦ inr (rest (b ∷ bs) (a ∷ as_) p k)
]

has_all : (cs bs as_ : List (List ℕ)) → Has cs bs → Has bs as_ → Has cs as_
has_all [] [] as_ h k = k
has_all [] (b ∷ bs) as_ h k = absurd h
has_all (c ∷ cs) bs [] h k = tt
has_all (c ∷ cs) [] (a ∷ as_) h k = absurd k
has_all (c ∷ cs) (b ∷ bs) (a ∷ as_) h k = both_have c cs b bs a as_ (λ xs ys. has_all cs xs ys) h k

-- ---- definitions of shards

abbrev ids_said : List Definition → List (List ℕ)
ids_said ds = map (λ d. d.id) ds

abbrev ids_of : List Shard → List (List ℕ)
ids_of ss = map (λ s. s.id) ss

comes_if : (d : Definition) (ds : List Definition) (s : Shard) (ss : List Shard) (b : Bool) → bytes_eq s.id d.id ≡ b → ((ts : List Shard) → Has (ids_said ds) (ids_of ts) → continues ds ts ≡ true)
    → Has (ids_said (d ∷ ds)) (ids_of (s ∷ ss)) → cond b (continues ds ss) (continues ds (s ∷ ss)) ≡ true
comes_if d ds s ss true is rest h = rest ss (elim h [ inl p ↦ p.1 | inr q ↦ has_rest (ids_said ds) s.id (ids_of ss) q ])
comes_if d ds s ss false is rest h =
    rest (s ∷ ss) (elim h [ inl p ↦ absurd (let wrong : true ≡ false = sym ((bytes_eq-Decides s.id d.id).1 p.0) ∙ is in cc) | inr q ↦ q ])

comes : (ds : List Definition) (ss : List Shard) → Has (ids_said ds) (ids_of ss) → continues ds ss ≡ true
comes [] [] h = refl
comes [] (s ∷ ss) h = absurd h
comes (d ∷ ds) [] h = refl
comes (d ∷ ds) (s ∷ ss) h = comes_if d ds s ss (bytes_eq s.id d.id) refl (λ ts. comes ds ts) h

ids_defined : (ss : List Shard) → ids_of ss ≡ ids_said (map definition_of ss)
ids_defined [] = refl
ids_defined (s ∷ ss) = ap (λ (xs : List (List ℕ)). s.id ∷ xs) (ids_defined ss)

-- ---- ids in order

abbrev keys_of : List (List ℕ × ShardSpec) → List (List ℕ)
keys_of es = map (λ e. e.0) es

abbrev put_key : List (List ℕ) → List ℕ → List (List ℕ)
put_key [] id = id ∷ []
put_key (k ∷ ks) id = match_ordering (slice_cmp nat_cmp id k) (id ∷ k ∷ ks) (k ∷ ks) (k ∷ put_key ks id)

abbrev put_keys : List (List ℕ) → List (List ℕ) → List (List ℕ)
put_keys [] ks = ks
put_keys (id ∷ ids) ks = put_keys ids (put_key ks id)

put_if : (o : Ordering) (id : List ℕ) (s : ShardSpec) (e : List ℕ × ShardSpec) (es rest : List (List ℕ × ShardSpec)) (ks : List (List ℕ)) → keys_of rest ≡ ks
    → keys_of (match_ordering o ((id, s) ∷ e ∷ es) ((e.0, s) ∷ es) (e ∷ rest)) ≡ match_ordering o (id ∷ e.0 ∷ keys_of es) (e.0 ∷ keys_of es) (e.0 ∷ ks)
put_if Less id s e es rest ks same = refl
put_if Equal id s e es rest ks same = refl
put_if Greater id s e es rest ks same = ap (λ (xs : List (List ℕ)). e.0 ∷ xs) same

key_inserted : (es : List (List ℕ × ShardSpec)) (id : List ℕ) (s : ShardSpec) → keys_of (insert_entry (slice_cmp nat_cmp) es id s) ≡ put_key (keys_of es) id
key_inserted [] id s = refl
key_inserted (e ∷ es) id s = put_if (slice_cmp nat_cmp id e.0) id s e es (insert_entry (slice_cmp nat_cmp) es id s) (put_key (keys_of es) id) (key_inserted es id s)

keys_put : (ss : List ShardSpec) (es : List (List ℕ × ShardSpec)) → keys_of (put_shards ss es) ≡ put_keys (map id_of_shard ss) (keys_of es)
keys_put [] es = refl
keys_put (s ∷ ss) es =
    keys_put ss (insert_entry (slice_cmp nat_cmp) es s.id s) ∙ ap (λ (ks : List (List ℕ)). put_keys (map id_of_shard ss) ks) (key_inserted es s.id s)

has_put_if : (o : Ordering) (id k : List ℕ) (ks rest : List (List ℕ)) → Has rest ks → Has (match_ordering o (id ∷ k ∷ ks) (k ∷ ks) (k ∷ rest)) (k ∷ ks)
has_put_if Less id k ks rest h = inr (has_self (k ∷ ks))
has_put_if Equal id k ks rest h = has_self (k ∷ ks)
has_put_if Greater id k ks rest h = inl (refl, h)

has_put : (ks : List (List ℕ)) (id : List ℕ) → Has (put_key ks id) ks
has_put [] id = tt
has_put (k ∷ ks) id = has_put_if (slice_cmp nat_cmp id k) id k ks (put_key ks id) (has_put ks id)

-- those that are there stay in their order
has_put_all : (ids ks : List (List ℕ)) → Has (put_keys ids ks) ks
has_put_all [] ks = has_self ks
has_put_all (id ∷ ids) ks = has_all (put_keys ids (put_key ks id)) (put_key ks id) ks (has_put_all ids (put_key ks id)) (has_put ks id)

put_both : (ids more ks : List (List ℕ)) → put_keys (ids ++ more) ks ≡ put_keys more (put_keys ids ks)
put_both [] more ks = refl
put_both (id ∷ ids) more ks = put_both ids more (put_key ks id)

-- ---- each shard beside its id

abbrev AreKeyed : List (List ℕ × ShardSpec) → Type 0
AreKeyed [] = ⊤
AreKeyed (e ∷ es) = (e.0 ≡ e.1.id) × AreKeyed es

keyed_if : (o : Ordering) (s : ShardSpec) (e : List ℕ × ShardSpec) (es rest : List (List ℕ × ShardSpec)) → is_eq o ≡ bytes_eq s.id e.0 → e.0 ≡ e.1.id → AreKeyed es → AreKeyed rest
    → AreKeyed (match_ordering o ((s.id, s) ∷ e ∷ es) ((e.0, s) ∷ es) (e ∷ rest))
keyed_if Less s e es rest is old keyed more = (refl, (old, keyed))
keyed_if Equal s e es rest is old keyed more = (sym ((bytes_eq-Decides s.id e.0).0 (sym is)), keyed)
keyed_if Greater s e es rest is old keyed more = (old, more)

keyed_inserted : (es : List (List ℕ × ShardSpec)) (s : ShardSpec) → AreKeyed es → AreKeyed (insert_entry (slice_cmp nat_cmp) es s.id s)
keyed_inserted [] s keyed = (refl, tt)
keyed_inserted (e ∷ es) s keyed =
    keyed_if (slice_cmp nat_cmp s.id e.0) s e es (insert_entry (slice_cmp nat_cmp) es s.id s) (is_eq-slice_cmp s.id e.0) keyed.0 keyed.1 (keyed_inserted es s keyed.1)

keyed_put : (ss : List ShardSpec) (es : List (List ℕ × ShardSpec)) → AreKeyed es → AreKeyed (put_shards ss es)
keyed_put [] es keyed = keyed
keyed_put (s ∷ ss) es keyed = keyed_put ss (insert_entry (slice_cmp nat_cmp) es s.id s) (keyed_inserted es s keyed)

ids_keyed : (es : List (List ℕ × ShardSpec)) → AreKeyed es → ids_said (map defined es) ≡ keys_of es
ids_keyed [] keyed = refl
ids_keyed (e ∷ es) keyed = rw (keyed.0, ids_keyed es keyed.1) refl

-- the ids of the definitions, in their order
ids_in_order : (ss : List ShardSpec) → ids_said (definitions_of ss) ≡ put_keys (map id_of_shard ss) []
ids_in_order ss = ids_keyed (in_id_order ss) (keyed_put ss [] tt) ∙ keys_put ss []

-- ---- more shards

-- Shards that are as specifications say come in their order among those of all specifications.
pub continues_joined : (old more : List ShardSpec) (ss : List Shard) → map definition_of ss ≡ definitions_of old → continues (definitions_of (joined id_of_shard old more)) ss ≡ true
continues_joined old more ss same =
    let new = new_names id_of_shard old more in
    let before : ids_of ss ≡ put_keys (map id_of_shard old) [] = ids_defined ss ∙ ap (λ (ds : List Definition). ids_said ds) same ∙ ids_in_order old in
    let after : ids_said (definitions_of (joined id_of_shard old more)) ≡ put_keys new (put_keys (map id_of_shard old) []) =
    ids_in_order (joined id_of_shard old more) ∙ ap (λ (ids : List (List ℕ)). put_keys ids []) (joined_names id_of_shard old more) ∙ put_both (map id_of_shard old) new [] in
    let P : List (List ℕ) → Type 0 = λ ids. Has ids (ids_of ss) in
    let Q : List (List ℕ) → Type 0 = λ ids. Has (put_keys new (put_keys (map id_of_shard old) [])) ids in
    comes (definitions_of (joined id_of_shard old more)) ss (subst P (sym after) (subst Q (sym before) (has_put_all new (put_keys (map id_of_shard old) []))))
