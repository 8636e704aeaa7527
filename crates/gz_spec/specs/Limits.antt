-- How many a cluster has at most.
use Rattle.std.specs.Prelude.{ℕ}

abbrev pub max_journals : ℕ
max_journals = 1024

abbrev pub max_shards : ℕ
max_shards = 256

-- brokers and consumers together
abbrev pub max_members : ℕ
max_members = 64

-- items of a member
abbrev pub max_limit : ℕ
max_limit = 1024
