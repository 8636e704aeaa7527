-- The start: few writes, and members of different names.
use Rattle.std.proofs.Common.{◌≡◌, ℕ, ◌+◌, ◌≤◌, ◌&&◌, ◌||◌, List, [], ◌∷◌, ◌++◌, length, map, suc, refl, ap, sym, ◌∙◌, subst, Bool, true, false, not, nat_le, arith}
use Rattle.std.specs.Prelude.{⊤}
use Rattle.std.proofs.lemmas.Grind.{common_steps}
use Rattle.std.proofs.lemmas.List.{length-append}
use Rattle.std.specs.List.{list_all}
use Rattle.std.specs.declared.cmp.Ordering.{Ordering}
use Rattle.std.specs.declared.cmp.Ordering.TheVariants.{Less, Equal, Greater}
use Rattle.std.specs.Ordering.{nat_cmp, match_ordering}
use Rattle.std.specs.Cmp.Lexicographic.{slice_cmp}
use Rattle.std.specs.Map.{values_of}
use Rattle.std.specs.BTreeMap.{insert_entry}
use Rattle.std.specs.Str.{bytes_eq}
use Rattle.gz_fields.specs.Lists.{is_used}
use Rattle.gz_spec.specs.Specs.{id_of_member}
use Rattle.gz_spec.specs.Valid.{is_member, are_fresh, are_journals, are_shards, are_members, are_specs}
use Rattle.gz_spec.specs.Records.{MemberSpec, Specs}
use Rattle.gz_fields.proofs.Used.{used_parts}
use Rattle.gz_keyspace.specs.declared.formats.Joined.{Joined}
use Rattle.gz_keyspace.specs.Keys.{same_key}
use Rattle.gz_keyspace.specs.Space.{Space, revision_of}
use Rattle.gz_keyspace.proofs.KeyLemmas.{same_laws}
use Rattle.gz_registry.specs.Keys.{journal_write, shard_write, member_named, put_named, in_order, writes_of, members_of}
use Rattle.gz_registry.specs.Registered.{seen, each_written, IsApart, AreNew, OnlyMembers}
use Rattle.gz_registry.proofs.Forms.{left, right}
use Rattle.gz_registry.proofs.Orders.{Each, Values, inserted, of_values, each_in_order, each_append, in_order_count}
use Rattle.gz_registry.proofs.Members.{only_after_each}
use Rattle.gz_registry.proofs.Elsewhere.{writes_elsewhere}
use Rattle.gz_registry.proofs.Spaces.{written_revision}

-- ---- how many

at_most : (n m : ℕ) → nat_le n m ≡ true → n ≤ m
at_most n m is = grind (arith, common_steps)

map_count : {A B : Type 0} (f : A → B) (xs : List A) → length (map f xs) ≡ length xs
map_count f [] = refl
map_count f (x ∷ xs) = ap (λ (n : ℕ). suc n) (map_count f xs)

pub few_writes : (specs : Specs) → are_specs specs ≡ true → length (writes_of specs) ≤ 1280
few_writes specs is =
    let js = at_most (length specs.journals) 1024 (left (nat_le (length specs.journals) 1024) _ (left (are_journals specs.journals) _ is)) in
    let ss = at_most (length specs.shards) 256 (left (nat_le (length specs.shards) 256) _ (left (are_shards specs.shards) _ (right (are_journals specs.journals) _ is))) in
    let both = length-append (in_order (map journal_write specs.journals)) (in_order (map shard_write specs.shards)) in
    let few_js = in_order_count (map journal_write specs.journals) in
    let few_ss = in_order_count (map shard_write specs.shards) in
    let same_js = map_count journal_write specs.journals in
    let same_ss = map_count shard_write specs.shards in
    omega (arith, js, ss, both, few_js, few_ss, same_js, same_ss)

-- the members of specifications that may be read
record AreGood (specs : Specs) : Type 0 where
  few : length specs.brokers + length specs.consumers ≤ 64
  brokers : list_all is_member specs.brokers ≡ true
  consumers : list_all is_member specs.consumers ≡ true
  fresh_brokers : are_fresh id_of_member [] specs.brokers ≡ true
  fresh_consumers : are_fresh id_of_member (map id_of_member specs.brokers) specs.consumers ≡ true

are_good : (specs : Specs) → are_specs specs ≡ true → AreGood specs
are_good specs is =
    let ms = right (are_shards specs.shards) _ (right (are_journals specs.journals) _ is) in
    let bs = left (are_members [] specs.brokers) (are_members (map id_of_member specs.brokers) specs.consumers) ms in
    let cs = right (are_members [] specs.brokers) (are_members (map id_of_member specs.brokers) specs.consumers) ms in
    let more_bs = right (nat_le (0 + length specs.brokers) 64) _ bs in
    let more_cs = right (nat_le (length (map id_of_member specs.brokers) + length specs.consumers) 64) _ cs in
    let few = at_most (length (map id_of_member specs.brokers) + length specs.consumers) 64 (left (nat_le (length (map id_of_member specs.brokers) + length specs.consumers) 64) _ cs) in
    let same = map_count id_of_member specs.brokers in
    record {
      few = omega (arith, few, same);
      brokers = left (list_all is_member specs.brokers) _ more_bs;
      consumers = left (list_all is_member specs.consumers) _ more_cs;
      fresh_brokers = right (list_all is_member specs.brokers) _ more_bs;
      fresh_consumers = right (list_all is_member specs.consumers) _ more_cs;
    }

pub few_members : (specs : Specs) → are_specs specs ≡ true → length (members_of specs) ≤ 64
few_members specs is =
    let good = are_good specs is in
    let few = good.few in
    let both = length-append (in_order (map (member_named false) specs.brokers)) (in_order (map (member_named true) specs.consumers)) in
    let few_bs = in_order_count (map (member_named false) specs.brokers) in
    let few_cs = in_order_count (map (member_named true) specs.consumers) in
    let same_bs = map_count (member_named false) specs.brokers in
    let same_cs = map_count (member_named true) specs.consumers in
    omega (arith, few, both, few_bs, few_cs, same_bs, same_cs)

-- ---- names that differ

-- the member has another name than this
abbrev pub IsNot : List ℕ → Joined → Type 0
IsNot name j = same_key name j.spec.id ≡ false

-- the specification has another id than this
abbrev pub IsNotId : List ℕ → MemberSpec → Type 0
IsNotId name m = same_key name m.id ≡ false

-- no two have one name
abbrev pub Differ : List Joined → Type 0
Differ [] = ⊤
Differ (j ∷ js) = Each (IsNot j.spec.id) js × Differ js

abbrev pub DifferValues : List (List ℕ × Joined) → Type 0
DifferValues [] = ⊤
DifferValues (e ∷ es) = Values (IsNot e.1.spec.id) es × DifferValues es

abbrev pub DifferIds : List MemberSpec → Type 0
DifferIds [] = ⊤
DifferIds (m ∷ ms) = Each (IsNotId m.id) ms × DifferIds ms

differ_by : (o : Ordering) (name : List ℕ) (j : Joined) (e : List ℕ × Joined) (es rest : List (List ℕ × Joined)) → Values (IsNot j.spec.id) (e ∷ es) → DifferValues (e ∷ es)
    → Values (IsNot e.1.spec.id) rest → DifferValues rest → DifferValues (match_ordering o ((name, j) ∷ e ∷ es) ((e.0, j) ∷ es) (e ∷ rest))
differ_by Less name j e es rest apart differ others more = (apart, differ)
differ_by Equal name j e es rest apart differ others more = (apart.1, differ.1)
differ_by Greater name j e es rest apart differ others more = (others, more)

turned : (a b : List ℕ) → same_key a b ≡ false → same_key b a ≡ false
turned a b other = same_laws.symm b a ∙ other

differ_inserted : (name : List ℕ) (j : Joined) (es : List (List ℕ × Joined)) → Values (IsNot j.spec.id) es → DifferValues es → DifferValues (insert_entry (slice_cmp nat_cmp) es name j)
differ_inserted name j [] apart differ = (tt, tt)
differ_inserted name j (e ∷ es) apart differ =
    differ_by (slice_cmp nat_cmp name e.0) name j e es (insert_entry (slice_cmp nat_cmp) es name j) apart differ
    (inserted (IsNot e.1.spec.id) name j es (turned j.spec.id e.1.spec.id apart.0) differ.0) (differ_inserted name j es apart.1 differ.1)

-- each of these has another name than each of those
abbrev pub Across : List MemberSpec → List (List ℕ × Joined) → Type 0
Across [] es = ⊤
Across (m ∷ ms) es = Values (IsNot m.id) es × Across ms es

across_inserted : (consumer : Bool) (m : MemberSpec) (ms : List MemberSpec) (es : List (List ℕ × Joined)) → Each (IsNotId m.id) ms → Across ms es
    → Across ms (insert_entry (slice_cmp nat_cmp) es m.id (record { consumer = consumer; spec = m }))
across_inserted consumer m [] es apart across = tt
across_inserted consumer m (k ∷ ks) es apart across =
    (inserted (IsNot k.id) m.id (record { consumer = consumer; spec = m }) es (turned m.id k.id apart.0) across.0, across_inserted consumer m ks es apart.1 across.1)

differ_put : (consumer : Bool) (ms : List MemberSpec) (es : List (List ℕ × Joined)) → DifferIds ms → Across ms es → DifferValues es → DifferValues (put_named (map (member_named consumer) ms) es)
differ_put consumer [] es apart across differ = differ
differ_put consumer (m ∷ ms) es apart across differ =
    let j : Joined = record { consumer = consumer; spec = m } in
    differ_put consumer ms (insert_entry (slice_cmp nat_cmp) es m.id j) apart.1 (across_inserted consumer m ms es apart.0 across.1) (differ_inserted m.id j es across.0 differ)

across_none : (ms : List MemberSpec) → Across ms []
across_none [] = tt
across_none (m ∷ ms) = (tt, across_none ms)

differ_values : (es : List (List ℕ × Joined)) → DifferValues es → Differ (values_of es)
differ_values [] differ = tt
differ_values (e ∷ es) differ = (of_values (IsNot e.1.spec.id) es differ.0, differ_values es differ.1)

differ_in_order : (consumer : Bool) (ms : List MemberSpec) → DifferIds ms → Differ (in_order (map (member_named consumer) ms))
differ_in_order consumer ms apart = differ_values (put_named (map (member_named consumer) ms) []) (differ_put consumer ms [] apart (across_none ms) tt)

-- ---- ids that were read

unused_here : (a b : Bool) → (not a && b) ≡ true → a ≡ false
unused_here true b is = absurd (cc)
unused_here false b is = refl

unused_ids : (used : List (List ℕ)) (ms : List MemberSpec) → are_fresh id_of_member used ms ≡ true → Each (λ m. is_used used m.id ≡ false) ms
unused_ids used [] fresh = tt
unused_ids used (m ∷ ms) fresh =
    let rest = unused_ids (used ++ m.id ∷ []) ms (right (not (is_used used m.id)) (are_fresh id_of_member (used ++ m.id ∷ []) ms) fresh) in
    (unused_here (is_used used m.id) (are_fresh id_of_member (used ++ m.id ∷ []) ms) fresh, earlier used m.id ms rest)
  where
    earlier : (used : List (List ℕ)) (id : List ℕ) (ms : List MemberSpec) → Each (λ m. is_used (used ++ id ∷ []) m.id ≡ false) ms → Each (λ m. is_used used m.id ≡ false) ms
    earlier used id [] each = tt
    earlier used id (m ∷ ms) each = ((used_parts used id m.id each.0).0, earlier used id ms each.1)

not_last : (used : List (List ℕ)) (id : List ℕ) (ms : List MemberSpec) → Each (λ m. is_used (used ++ id ∷ []) m.id ≡ false) ms → Each (IsNotId id) ms
not_last used id [] each = tt
not_last used id (m ∷ ms) each = (turned m.id id (used_parts used id m.id each.0).1, not_last used id ms each.1)

differ_ids : (used : List (List ℕ)) (ms : List MemberSpec) → are_fresh id_of_member used ms ≡ true → DifferIds ms
differ_ids used [] fresh = tt
differ_ids used (m ∷ ms) fresh =
    let rest = right (not (is_used used m.id)) (are_fresh id_of_member (used ++ m.id ∷ []) ms) fresh in
    (not_last used m.id ms (unused_ids (used ++ m.id ∷ []) ms rest), differ_ids (used ++ m.id ∷ []) ms rest)

neither : (a b : Bool) → (a || b) ≡ false → (a ≡ false) × (b ≡ false)
neither true b none = absurd (cc)
neither false b none = (refl, none)

-- an id that no broker has
other_brokers : (consumer : Bool) (id : List ℕ) (bs : List MemberSpec) → is_used (map id_of_member bs) id ≡ false → Values (IsNot id) (map (member_named consumer) bs)
other_brokers consumer id [] none = tt
other_brokers consumer id (b ∷ bs) none =
    let parts = neither (bytes_eq id b.id) (is_used (map id_of_member bs) id) none in
    (parts.0, other_brokers consumer id bs parts.1)

-- each of these has another name than each of those
abbrev pub IsNotOne : List Joined → Joined → Type 0
IsNotOne js k = Each (IsNot k.spec.id) js

others_each : (bs : List MemberSpec) (cs : List MemberSpec) → Each (λ m. is_used (map id_of_member bs) m.id ≡ false) cs → Values (IsNotOne (in_order (map (member_named false) bs))) (map (member_named true) cs)
others_each bs [] each = tt
others_each bs (c ∷ cs) each = (each_in_order (IsNot c.id) (map (member_named false) bs) (other_brokers false c.id bs each.0), others_each bs cs each.1)

-- those before others
prefix_apart : (j : Joined) (js ks : List Joined) → Each (IsNotOne (j ∷ js)) ks → Each (IsNot j.spec.id) ks × Each (IsNotOne js) ks
prefix_apart j js [] each = (tt, tt)
prefix_apart j js (k ∷ ks) each =
    let rest = prefix_apart j js ks each.1 in
    ((turned k.spec.id j.spec.id each.0.0, rest.0), (each.0.1, rest.1))

differ_append : (js ks : List Joined) → Differ js → Differ ks → Each (IsNotOne js) ks → Differ (js ++ ks)
differ_append [] ks prefix back across = back
differ_append (j ∷ js) ks prefix back across =
    let parts = prefix_apart j js ks across in
    (each_append (IsNot j.spec.id) js ks prefix.0 parts.0, differ_append js ks prefix.1 back parts.1)

apart_each : (name : List ℕ) (js : List Joined) → Each (IsNot name) js → IsApart name js
apart_each name [] each = tt
apart_each name (j ∷ js) each = (each.0, apart_each name js each.1)

new_each : (js : List Joined) → Differ js → AreNew js []
new_each [] differ = tt
new_each (j ∷ js) differ = (refl, apart_each j.spec.id js differ.0, new_each js differ.1)

pub new_members : (specs : Specs) → are_specs specs ≡ true → AreNew (members_of specs) []
new_members specs is =
    let good = are_good specs is in
    let bs = in_order (map (member_named false) specs.brokers) in
    let cs = in_order (map (member_named true) specs.consumers) in
    new_each (members_of specs)
    (differ_append bs cs (differ_in_order false specs.brokers (differ_ids [] specs.brokers good.fresh_brokers)) (differ_in_order true specs.consumers (differ_ids (map id_of_member specs.brokers) specs.consumers good.fresh_consumers))
    (each_in_order (IsNotOne bs) (map (member_named true) specs.consumers) (others_each specs.brokers specs.consumers (unused_ids (map id_of_member specs.brokers) specs.consumers good.fresh_consumers))))

-- ---- the key space

pub only_begun : (specs : Specs) (keys : Space) → keys ≡ each_written (writes_of specs) (record { changes = []; leases = [] }) → OnlyMembers (seen keys [])
only_begun specs keys is = subst (λ (k : Space). OnlyMembers (seen k [])) (sym is) (only_after_each (writes_of specs) (record { changes = []; leases = [] }) [] (writes_elsewhere specs) (λ id none. refl))

pub begun_revision : (specs : Specs) (keys : Space) → length (writes_of specs) ≤ 1280 → keys ≡ each_written (writes_of specs) (record { changes = []; leases = [] }) → revision_of keys.changes ≤ 1280
begun_revision specs keys few is =
    let count = ap (λ (k : Space). revision_of k.changes) is ∙ written_revision (writes_of specs) (record { changes = []; leases = [] }) in
    omega (arith, count, few)
