-- What a key space answers.
use Rattle.std.proofs.Common.{◌≡◌, ℕ, ◌+◌, List, [], ◌∷◌, length, ap, ◌∙◌, arith}
use Rattle.std.proofs.lemmas.List.{length-append}
use Rattle.gz_label.specs.declared.keys.KeyWrite.{KeyWrite}
use Rattle.gz_label.specs.declared.keys.Change.{Change}
use Rattle.gz_keyspace.specs.Space.{Space, revision_of, with_change, after_txn}
use Rattle.gz_registry.specs.Registered.{each_written}

pub longer : (ws : List KeyWrite) (changes : List Change) → revision_of (with_change ws changes) ≡ revision_of changes + 1
longer ws changes = length-append changes _

-- each write in a transaction of its own takes the revision on by one
pub written_revision : (ws : List KeyWrite) (keys : Space) → revision_of (each_written ws keys).changes ≡ revision_of keys.changes + length ws
written_revision [] keys = omega arith
written_revision (w ∷ ws) keys =
    let more = longer (w ∷ []) keys.changes in
    let rest = written_revision ws (after_txn (w ∷ []) keys) in
    omega (arith, more, rest)

pub longer_txn : (w : KeyWrite) (keys new : Space) (n : ℕ) → new ≡ after_txn (w ∷ []) keys → revision_of keys.changes ≡ n → revision_of new.changes ≡ n + 1
longer_txn w keys new n is was = ap (λ (s : Space). revision_of s.changes) is ∙ longer (w ∷ []) keys.changes ∙ ap (λ (k : ℕ). k + 1) was
