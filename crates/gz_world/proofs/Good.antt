-- What is known of specifications that were read.
use Rattle.std.proofs.Common.{◌≡◌, ◌&&◌, ℕ, ◌≤◌, List, [], length, map, nat_le, refl, Bool, true, false, arith}
use Rattle.std.specs.List.{list_all}
use Rattle.std.proofs.lemmas.Grind.{common_steps}
use Rattle.gz_spec.specs.Specs.{name_of_journal, id_of_shard, id_of_member}
use Rattle.gz_spec.specs.Valid.{are_fresh, is_journal, is_shard, are_journals, are_shards, are_members, are_specs}
use Rattle.gz_spec.specs.Records.{Specs, ShardSpec}
use Rattle.gz_promise.specs.Names.{Distinct}
use Rattle.gz_world.specs.Starts.{definitions_of}
use Rattle.gz_world.proofs.Used.{distinct_fresh}
use Rattle.gz_world.proofs.Wired.{definitions_count}

pub and_parts : (a b : Bool) → (a && b) ≡ true → (a ≡ true) × (b ≡ true)
and_parts true b is = (refl, is)
and_parts false b is = absurd (cc)

at_most : (n m : ℕ) → nat_le n m ≡ true → n ≤ m
at_most n m is = grind (arith, common_steps)

-- what is known of the shards of specifications that were read
pub record AreGood (ss : List ShardSpec) : Type 0 where
  pub few : length ss ≤ 256
  pub each : list_all is_shard ss ≡ true
  pub fresh : are_fresh id_of_shard [] ss ≡ true

pub are_good : (specs : Specs) → are_specs specs ≡ true → AreGood specs.shards
are_good specs valid =
    let a = and_parts (are_journals specs.journals) _ valid in
    let b = and_parts (are_shards specs.shards) (are_members [] specs.brokers && are_members (map id_of_member specs.brokers) specs.consumers) a.1 in
    let c = and_parts (nat_le (length specs.shards) 256) (list_all is_shard specs.shards && are_fresh id_of_shard [] specs.shards) b.0 in
    let d = and_parts (list_all is_shard specs.shards) (are_fresh id_of_shard [] specs.shards) c.1 in
    record { few = at_most (length specs.shards) 256 c.0; each = d.0; fresh = d.1 }

-- no two journals have one name
pub distinct_names : (specs : Specs) → are_specs specs ≡ true → Distinct (map name_of_journal specs.journals)
distinct_names specs valid =
    let a = and_parts (are_journals specs.journals) _ valid in
    let b = and_parts (nat_le (length specs.journals) 1024) (list_all is_journal specs.journals && are_fresh name_of_journal [] specs.journals) a.0 in
    distinct_fresh [] specs.journals (and_parts (list_all is_journal specs.journals) (are_fresh name_of_journal [] specs.journals) b.1).1

pub few_definitions : (ss : List ShardSpec) → AreGood ss → length (definitions_of ss) ≤ 256
few_definitions ss good = let n = definitions_count ss good.fresh in let few = good.few in omega (arith, n, few)
