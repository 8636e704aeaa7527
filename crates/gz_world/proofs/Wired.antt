-- How shards are wired: each journal's writers come before its readers.
use Rattle.std.proofs.Common.{◌≡◌, ◌⊎◌, inl, inr, ◌||◌, ℕ, suc, ◌+◌, ◌<◌, List, [], ◌∷◌, ◌++◌, length, map, refl, sym, ap, ◌∙◌, subst, Bool, true, false, Ordering, Less, Equal, Greater, arith}
use Rattle.std.specs.Prelude.{⊤}
use Rattle.std.specs.List.{list_any, IsAmong}
use Rattle.std.specs.Str.{bytes_eq}
use Rattle.std.specs.Ordering.{nat_cmp, match_ordering, is_eq}
use Rattle.std.specs.Cmp.Lexicographic.{slice_cmp}
use Rattle.std.specs.BTreeMap.{insert_entry}
use Rattle.std.proofs.lemmas.Map.Text.{is_eq-slice_cmp}
use Rattle.std.proofs.lemmas.Slice.Eq.{bytes_eq-Decides}
use Rattle.gz_links.specs.Cycles.{feeds, AreRanked}
use Rattle.gz_links.specs.Links.{outputs_of}
use Rattle.gz_fields.specs.Lists.{is_used}
use Rattle.gz_spec.specs.Specs.{id_of_shard}
use Rattle.gz_spec.specs.Valid.{are_fresh}
use Rattle.gz_spec.specs.Records.{SourceSpec, ShardSpec}
use Rattle.gz_plain.specs.Definitions as plain
use Rattle.gz_plain.specs.Definitions.{Definition}
use Rattle.gz_promise.specs.Order.{Wiring, IsBeside, AreBefore, AllBefore, AllBelow, AreInOrder}
use Rattle.gz_plain.specs.Rests.{wiring_of, wirings_of}
use Rattle.gz_promise.specs.Names.{Apart}
use Rattle.gz_plain.specs.Shards.{Shard}
use Rattle.gz_plain.proofs.Starts.{unequal}
use Rattle.gz_world.specs.Starts.{source_of, definition_of, defined, put_shards, in_id_order, definitions_of}
use Rattle.gz_world.proofs.Order.{Shards, Each, each_in_order}
use Rattle.gz_world.proofs.Used.{not_parts, other_name, used_more, used_last}

-- ---- how many there are

abbrev keys_used : List (List ℕ) → List (List ℕ × ShardSpec) → Type 0
keys_used used [] = ⊤
keys_used used (e ∷ es) = (is_used used e.0 ≡ true) × keys_used used es

longer_if : (o : Ordering) (id : List ℕ) (s : ShardSpec) (e : List ℕ × ShardSpec) (es rest : List (List ℕ × ShardSpec)) → is_eq o ≡ false → length rest ≡ suc (length es)
    → length (match_ordering o ((id, s) ∷ e ∷ es) ((e.0, s) ∷ es) (e ∷ rest)) ≡ suc (suc (length es))
longer_if Less id s e es rest other more = refl
longer_if Equal id s e es rest other more = absurd (cc)
longer_if Greater id s e es rest other more = ap (λ (n : ℕ). suc n) more

-- a shard of a new id makes one more
longer : (used : List (List ℕ)) (id : List ℕ) (s : ShardSpec) (es : List (List ℕ × ShardSpec)) → is_used used id ≡ false → keys_used used es
    → length (insert_entry (slice_cmp nat_cmp) es id s) ≡ suc (length es)
longer used id s [] free keys = refl
longer used id s (e ∷ es) free keys =
    longer_if (slice_cmp nat_cmp id e.0) id s e es (insert_entry (slice_cmp nat_cmp) es id s)
    (is_eq-slice_cmp id e.0 ∙ other_name used id e.0 free keys.0) (longer used id s es free keys.1)

-- ---- ids that are used

keys_more : (used : List (List ℕ)) (id : List ℕ) (es : List (List ℕ × ShardSpec)) → keys_used used es → keys_used (used ++ id ∷ []) es
keys_more used id [] keys = tt
keys_more used id (e ∷ es) keys = (used_more used id e.0 keys.0, keys_more used id es keys.1)

keys_if : (used : List (List ℕ)) (o : Ordering) (id : List ℕ) (s : ShardSpec) (e : List ℕ × ShardSpec) (es rest : List (List ℕ × ShardSpec)) → is_used used id ≡ true → is_used used e.0 ≡ true
    → keys_used used es → keys_used used rest → keys_used used (match_ordering o ((id, s) ∷ e ∷ es) ((e.0, s) ∷ es) (e ∷ rest))
keys_if used Less id s e es rest new old keys more = (new, (old, keys))
keys_if used Equal id s e es rest new old keys more = (old, keys)
keys_if used Greater id s e es rest new old keys more = (old, more)

keys_inserted : (used : List (List ℕ)) (id : List ℕ) (s : ShardSpec) (es : List (List ℕ × ShardSpec)) → is_used used id ≡ true → keys_used used es → keys_used used (insert_entry (slice_cmp nat_cmp) es id s)
keys_inserted used id s [] new keys = (new, tt)
keys_inserted used id s (e ∷ es) new keys =
    keys_if used (slice_cmp nat_cmp id e.0) id s e es (insert_entry (slice_cmp nat_cmp) es id s) new keys.0 keys.1 (keys_inserted used id s es new keys.1)

put_length : (used : List (List ℕ)) (ss : List ShardSpec) (es : List (List ℕ × ShardSpec)) → are_fresh id_of_shard used ss ≡ true → keys_used used es → length (put_shards ss es) ≡ length ss + length es
put_length used [] es fresh keys = omega arith
put_length used (s ∷ ss) es fresh keys =
    let f = not_parts (is_used used s.id) (are_fresh id_of_shard (used ++ s.id ∷ []) ss) fresh in
    let one = longer used s.id s es f.0 keys in
    let rest = put_length (used ++ s.id ∷ []) ss (insert_entry (slice_cmp nat_cmp) es s.id s) f.1
    (keys_inserted (used ++ s.id ∷ []) s.id s es (used_last used s.id) (keys_more used s.id es keys)) in
    omega (arith, one, rest)

-- as many as there were, where no two have one id
pub length_in_order : (ss : List ShardSpec) → are_fresh id_of_shard [] ss ≡ true → length (in_id_order ss) ≡ length ss
length_in_order ss fresh = let all = put_length [] ss [] fresh tt in omega (arith, all)

-- ---- the shards themselves

among_more : (t : ShardSpec) (ts : List ShardSpec) (s : ShardSpec) → IsAmong ts s → IsAmong (t ∷ ts) s
among_more t ts s a = (suc a.0, (omega (arith, a.1.0), a.1.1))

each_more : (t : ShardSpec) (ts ss : List ShardSpec) → Each (IsAmong ts) ss → Each (IsAmong (t ∷ ts)) ss
each_more t ts [] each = tt
each_more t ts (s ∷ ss) each = (among_more t ts s each.0, each_more t ts ss each.1)

among_first : (s : ShardSpec) (ss : List ShardSpec) → IsAmong (s ∷ ss) s
among_first s ss = (0, (omega arith, refl))

pub each_among : (ss : List ShardSpec) → Each (IsAmong ss) ss
each_among [] = tt
each_among (s ∷ ss) = (among_first s ss, each_more s ss ss (each_among ss))

-- ---- how shards are wired

-- how a shard of this definition is wired
abbrev wiring_said : Definition → Wiring
wiring_said d = record { id = d.id; sources = d.sources; outputs = d.outputs }

wirings_said : (cs : List Shard) → wirings_of cs ≡ map wiring_said (map plain.definition_of cs)
wirings_said [] = refl
wirings_said (c ∷ cs) = ap (λ (us : List Wiring). wiring_of c ∷ us) (wirings_said cs)

-- ---- writers and readers

or_parts : (a b : Bool) → (a || b) ≡ false → (a ≡ false) × (b ≡ false)
or_parts true b is = absurd (cc)
or_parts false b is = (refl, is)

turned : (a b : List ℕ) → bytes_eq a b ≡ false → bytes_eq b a ≡ false
turned a b is = unequal b a (λ same. let wrong : true ≡ false = sym ((bytes_eq-Decides a b).1 (sym same)) ∙ is in cc)

-- the sources, of which none reads these outputs
abbrev NoneRead : List (List ℕ) → List SourceSpec → Type 0
NoneRead os [] = ⊤
NoneRead os (u ∷ us) = Apart u.journal os × NoneRead os us

add_output : (o : List ℕ) (os : List (List ℕ)) (us : List SourceSpec) → list_any (λ u. bytes_eq u.journal o) us ≡ false → NoneRead os us → NoneRead (o ∷ os) us
add_output o os [] none rest = tt
add_output o os (u ∷ us) none rest =
    let parts = or_parts (bytes_eq u.journal o) (list_any (λ v. bytes_eq v.journal o) us) none in
    ((parts.0, turned u.journal o parts.0, rest.0), add_output o os us parts.1 rest.1)

no_outputs : (us : List SourceSpec) → NoneRead [] us
no_outputs [] = tt
no_outputs (u ∷ us) = (tt, no_outputs us)

none_read : (os : List (List ℕ)) (us : List SourceSpec) → list_any (λ o. list_any (λ u. bytes_eq u.journal o) us) os ≡ false → NoneRead os us
none_read [] us none = no_outputs us
none_read (o ∷ os) us none =
    let parts = or_parts (list_any (λ u. bytes_eq u.journal o) us) (list_any (λ p. list_any (λ u. bytes_eq u.journal p) us) os) none in
    add_output o os us parts.0 (none_read os us parts.1)

beside : (os : List (List ℕ)) (us : List SourceSpec) → NoneRead os us → IsBeside os (map source_of us)
beside os [] none = tt
beside os (u ∷ us) none = (none.0, beside os us none.1)

before_if : (rank : List ℕ → ℕ) (s t : ShardSpec) (b : Bool) → feeds s t ≡ b → (feeds s t ≡ true → rank s.id < rank t.id) → IsBeside (outputs_of s) (map source_of t.sources) ⊎ (rank s.id < rank t.id)
before_if rank s t true is rises = inr (rises is)
before_if rank s t false is rises = inl (beside (outputs_of s) t.sources (none_read (outputs_of s) t.sources is))

are_before : (rank : List ℕ → ℕ) (ss : List ShardSpec) (es : List (List ℕ × ShardSpec)) (t : ShardSpec) → AreRanked rank ss → Shards (IsAmong ss) es → IsAmong ss t
    → AreBefore rank (map wiring_said (map defined es)) (wiring_said (definition_of t))
are_before rank ss [] t ranked all among = tt
are_before rank ss (e ∷ es) t ranked all among = (before_if rank e.1 t (feeds e.1 t) refl (ranked.rises e.1 t all.0 among), are_before rank ss es t ranked all.1 among)

all_before : (rank : List ℕ → ℕ) (ss : List ShardSpec) (es fs : List (List ℕ × ShardSpec)) → AreRanked rank ss → Shards (IsAmong ss) es → Shards (IsAmong ss) fs
    → AllBefore rank (map wiring_said (map defined es)) (map wiring_said (map defined fs))
all_before rank ss es [] ranked all each = tt
all_before rank ss es (f ∷ fs) ranked all each = (are_before rank ss es f.1 ranked all each.0, all_before rank ss es fs ranked all each.1)

all_below : (rank : List ℕ → ℕ) (ss : List ShardSpec) (es : List (List ℕ × ShardSpec)) → AreRanked rank ss → Shards (IsAmong ss) es → AllBelow rank (length ss) (map wiring_said (map defined es))
all_below rank ss [] ranked all = tt
all_below rank ss (e ∷ es) ranked all = (ranked.below e.1 all.0, all_below rank ss es ranked all.1)

-- ---- all of them

map_count : {A B : Type 0} (f : A → B) (xs : List A) → length (map f xs) ≡ length xs
map_count f [] = refl
map_count f (x ∷ xs) = ap (λ (n : ℕ). suc n) (map_count f xs)

pub definitions_count : (ss : List ShardSpec) → are_fresh id_of_shard [] ss ≡ true → length (definitions_of ss) ≡ length ss
definitions_count ss fresh = map_count defined (in_id_order ss) ∙ length_in_order ss fresh

wirings_in_order : (rank : List ℕ → ℕ) (ss : List ShardSpec) → are_fresh id_of_shard [] ss ≡ true → AreRanked rank ss → AreInOrder rank (map wiring_said (definitions_of ss))
wirings_in_order rank ss fresh ranked =
    let es = in_id_order ss in
    let all : Shards (IsAmong ss) es = each_in_order (IsAmong ss) ss (each_among ss) in
    let count : length (map wiring_said (definitions_of ss)) ≡ length ss = map_count wiring_said (definitions_of ss) ∙ definitions_count ss fresh in
    record {
      before = all_before rank ss es es ranked all all;
      below = subst (λ (n : ℕ). AllBelow rank n (map wiring_said (definitions_of ss))) (sym count) (all_below rank ss es ranked all);
    }

-- shards that are as ranked specifications say are in an order in which each journal's writers come before its readers
pub in_order : (rank : List ℕ → ℕ) (ss : List ShardSpec) (cs : List Shard) → are_fresh id_of_shard [] ss ≡ true → AreRanked rank ss → map plain.definition_of cs ≡ definitions_of ss
    → AreInOrder rank (wirings_of cs)
in_order rank ss cs fresh ranked same =
    subst (λ (us : List Wiring). AreInOrder rank us) (sym (wirings_said cs ∙ ap (λ (ds : List Definition). map wiring_said ds) same)) (wirings_in_order rank ss fresh ranked)
