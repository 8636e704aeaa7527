-- A table of keys, and the writes that change it.
use Rattle.std.specs.Prelude.{ℕ, List, [], ◌∷◌, map, fold, Option, option_map, if◌then◌else◌}
use Rattle.std.specs.Map.{remove_entry}
use Rattle.gz_label.specs.declared.keys.KeyWrite.{KeyWrite}
use Rattle.gz_keyspace.specs.declared.table.Held.{Held}
use Rattle.gz_keyspace.specs.declared.table.Prepared.{Prepared}
use Rattle.gz_keyspace.specs.Keys.{same_key}

-- what a write of this value gives its key
abbrev pub prepared_value : ℕ → Option (List ℕ) → Option Held
prepared_value revision value = option_map (λ v. record { value = v; mod_revision = revision }) value

-- what the writes of a change give their keys
abbrev pub prepared_of : ℕ → List KeyWrite → List Prepared
prepared_of revision writes = map (λ write. record { key = write.key; held = prepared_value revision write.value }) writes

-- what a key has after these writes, where it had this before them
abbrev pub puts : List ℕ → List Prepared → Option Held → Option Held
puts key [] had = had
puts key (w ∷ ws) had = puts key ws (if same_key w.key key then w.held else had)

-- the leases without that of each prepared key
abbrev pub releases : List Prepared → List (List ℕ × ℕ) → List (List ℕ × ℕ)
releases ws leases = fold (λ leases w. remove_entry (same_key w.key) leases) leases ws
