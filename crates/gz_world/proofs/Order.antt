-- Shards in the order of their ids.
use Rattle.std.proofs.Common.{◌≡◌, ◌&&◌, ℕ, List, [], ◌∷◌, refl, Bool, true, false}
use Rattle.std.specs.Prelude.{⊤}
use Rattle.std.specs.List.{list_all}
use Rattle.std.specs.declared.cmp.Ordering.{Ordering}
use Rattle.std.specs.declared.cmp.Ordering.TheVariants.{Less, Equal, Greater}
use Rattle.std.specs.Ordering.{nat_cmp, match_ordering}
use Rattle.std.specs.Cmp.Lexicographic.{slice_cmp}
use Rattle.std.specs.BTreeMap.{insert_entry}
use Rattle.gz_spec.specs.Records.{ShardSpec}
use Rattle.gz_spec.specs.Valid.{is_shard}
use Rattle.gz_world.specs.Starts.{put_shards, in_id_order}

-- the shard of an entry is one that may be read
abbrev pub is_shard_entry : List ℕ × ShardSpec → Bool
is_shard_entry e = is_shard e.1

-- ---- what holds of each shard

-- the fact holds of the shard of each entry
abbrev pub Shards : (ShardSpec → Type 0) → List (List ℕ × ShardSpec) → Type 0
Shards P [] = ⊤
Shards P (e ∷ es) = P e.1 × Shards P es

abbrev pub Each : (ShardSpec → Type 0) → List ShardSpec → Type 0
Each P [] = ⊤
Each P (s ∷ ss) = P s × Each P ss

inserted_if : (P : ShardSpec → Type 0) (o : Ordering) (id : List ℕ) (s : ShardSpec) (e : List ℕ × ShardSpec) (es rest : List (List ℕ × ShardSpec)) → P s → P e.1 → Shards P es → Shards P rest
    → Shards P (match_ordering o ((id, s) ∷ e ∷ es) ((e.0, s) ∷ es) (e ∷ rest))
inserted_if P Less id s e es rest new old each others = (new, (old, each))
inserted_if P Equal id s e es rest new old each others = (new, each)
inserted_if P Greater id s e es rest new old each others = (old, others)

inserted : (P : ShardSpec → Type 0) (id : List ℕ) (s : ShardSpec) (es : List (List ℕ × ShardSpec)) → P s → Shards P es → Shards P (insert_entry (slice_cmp nat_cmp) es id s)
inserted P id s [] new each = (new, tt)
inserted P id s (e ∷ es) new each =
    inserted_if P (slice_cmp nat_cmp id e.0) id s e es (insert_entry (slice_cmp nat_cmp) es id s) new each.0 each.1 (inserted P id s es new each.1)

put_each : (P : ShardSpec → Type 0) (ss : List ShardSpec) (es : List (List ℕ × ShardSpec)) → Each P ss → Shards P es → Shards P (put_shards ss es)
put_each P [] es new each = each
put_each P (s ∷ ss) es new each = put_each P ss (insert_entry (slice_cmp nat_cmp) es s.id s) new.1 (inserted P s.id s es new.0 each)

-- what holds of each shard holds of each in the order of their ids
pub each_in_order : (P : ShardSpec → Type 0) (ss : List ShardSpec) → Each P ss → Shards P (in_id_order ss)
each_in_order P ss each = put_each P ss [] each tt

-- ---- shards that may be read

and_parts : (a b : Bool) → (a && b) ≡ true → (a ≡ true) × (b ≡ true)
and_parts true b is = (refl, is)
and_parts false b is = absurd (cc)

each_shard : (ss : List ShardSpec) → list_all is_shard ss ≡ true → Each (λ s. is_shard s ≡ true) ss
each_shard [] all = tt
each_shard (s ∷ ss) all = let parts = and_parts (is_shard s) (list_all is_shard ss) all in (parts.0, each_shard ss parts.1)

all_entries : (es : List (List ℕ × ShardSpec)) → Shards (λ s. is_shard s ≡ true) es → list_all is_shard_entry es ≡ true
all_entries [] each = refl
all_entries (e ∷ es) each = rw (each.0, all_entries es each.1) refl

pub are_shards_in_order : (ss : List ShardSpec) → list_all is_shard ss ≡ true → list_all is_shard_entry (in_id_order ss) ≡ true
are_shards_in_order ss all = all_entries (in_id_order ss) (each_in_order (λ s. is_shard s ≡ true) ss (each_shard ss all))
