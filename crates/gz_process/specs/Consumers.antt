-- A consumer: a node with a mirror of the keys, and a process of each shard that the mirror gives it.
use Rattle.std.specs.Prelude.{ℕ, List, [], Bool, Option}
use Rattle.std.specs.Ordering.{nat_cmp}
use Rattle.std.specs.Cmp.Lexicographic.{slice_cmp}
use Rattle.std.specs.Map.{lookup, remove_entry}
use Rattle.std.specs.BTreeMap.{insert_entry, is_at}
use Rattle.gz_wire.specs.declared.msg.Msg.{Msg}
use Rattle.gz_wire.specs.declared.msg.Send.{Send}
use Rattle.gz_keyspace.specs.Mirrors.{Mirrored}
use Rattle.gz_process.specs.Processes.{Process}

-- processes, each beside its shard's id, in the order of these
abbrev pub Processes : Type 0
Processes = List (List ℕ × Process)

pub record Consumer : Type 0 where
  pub name : List ℕ
  pub mirror : Mirrored
  pub processes : Processes
  -- how many requests it has numbered
  pub requests : ℕ

abbrev pub new_consumer : List ℕ → Mirrored → Consumer
new_consumer name mirror = record { name = name; mirror = mirror; processes = []; requests = 0 }

-- what a consumer takes: a message, a command, or that its requests are given up
pub data Item : Type 0 where
  Deliver : (from : List ℕ) (client : Bool) (msg : Msg) → Item
  Watch : Item
  Poll : (shard : List ℕ) (now : ℕ) → Item
  GiveUp : Item
  Restart : (shard : List ℕ) → Item

-- what a step gives: the consumer after it, and what it sends
pub record Outcome : Type 0 where
  pub consumer : Consumer
  pub sends : List Send

abbrev pub idle : Consumer → Outcome
idle c = record { consumer = c; sends = [] }

-- ---- processes by shard

abbrev pub process_of : List ℕ → Processes → Option Process
process_of shard ps = lookup (is_at (slice_cmp nat_cmp shard)) ps

abbrev pub with_process : List ℕ → Process → Processes → Processes
with_process shard p ps = insert_entry (slice_cmp nat_cmp) ps shard p

abbrev pub without_process : List ℕ → Processes → Processes
without_process shard ps = remove_entry (is_at (slice_cmp nat_cmp shard)) ps
