-- Specifications as contracts see them. Which are ones that a type holds is said in `Valid`.
use Rattle.std.specs.Prelude.{ℕ, List, Bool}
use Rattle.gz_label.specs.declared.label.Label.{Label}

pub record JournalSpec : Type 0 where
  pub name : List ℕ
  pub replication : ℕ
  pub labels : List Label
  pub fragment_length : ℕ

pub record SourceSpec : Type 0 where
  pub journal : List ℕ
  pub min_offset : ℕ

pub record ShardSpec : Type 0 where
  pub id : List ℕ
  pub sources : List SourceSpec
  pub recovery_log_prefix : List ℕ
  pub hint_prefix : List ℕ
  pub hint_backups : ℕ
  pub hot_standbys : ℕ
  pub disable : Bool
  pub labels : List Label

-- a broker or a consumer
pub record MemberSpec : Type 0 where
  pub id : List ℕ
  pub zone : List ℕ
  pub limit : ℕ

-- the specifications of a cluster, or a part of them
pub record Specs : Type 0 where
  pub journals : List JournalSpec
  pub shards : List ShardSpec
  pub brokers : List MemberSpec
  pub consumers : List MemberSpec
