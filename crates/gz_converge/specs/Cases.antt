-- What a converge makes of one route, and of one shard's list.
use Rattle.std.specs.Prelude.{ℕ, ◌==◌, ◌++◌, List, [], ◌∷◌, filter, not, Bool, false, Option, Some, None, if◌then◌else◌}
use Rattle.std.specs.List.{list_all}
use Rattle.std.specs.Cmp.Lexicographic.{pointwise}
use Rattle.gz_keyspace.specs.Keys.{same_key}
use Rattle.gz_keyspace.specs.Formats.{is_in}
use Rattle.gz_converge.specs.declared.view.Listed.{Listed}
use Rattle.gz_converge.specs.declared.view.Synced.{Synced}

-- ---- lists of ids

-- those of the first list that are in the second, in the order of the first
abbrev pub within : List (List ℕ) → List (List ℕ) → List (List ℕ)
within ids others = filter (λ id. is_in id others) ids

-- those of the first list that aren't in the second, in the order of the first
abbrev pub without : List (List ℕ) → List (List ℕ) → List (List ℕ)
without ids others = filter (λ id. not (is_in id others)) ids

-- all of the first list are in the second
abbrev pub are_within : List (List ℕ) → List (List ℕ) → Bool
are_within ids others = list_all (λ id. is_in id others) ids

abbrev pub same_ids : List (List ℕ) → List (List ℕ) → Bool
same_ids = pointwise same_key

-- ---- a journal's route

-- the sync key says this epoch
abbrev pub is_synced : Option Synced → ℕ → Bool
is_synced None epoch = false
is_synced (Some sync) epoch = sync.epoch == epoch

-- What becomes of a route whose members all have their keys. It stays until the sync key says its epoch. Then the placed
-- members come to it, and once they are there, and the sync key says so, the others leave it.
abbrev pub settled_route : List (List ℕ) → List (List ℕ) → Bool → Option (List (List ℕ))
settled_route placed route synced =
    if not synced then None
    else (if not (are_within placed route) then Some (route ++ without placed route)
    else (if not (are_within route placed) then Some (within route placed)
    else None))

-- What becomes of a route: members whose key is gone leave it, and the placed ones come.
abbrev pub changed_route : List (List ℕ) → List (List ℕ) → List (List ℕ) → Bool → Option (List (List ℕ))
changed_route members placed route synced =
    if not (are_within route members) then Some (within route members ++ without placed route)
    else settled_route placed route synced

-- A journal without a route gets the placed members as one.
abbrev pub placed_route : List (List ℕ) → List (List ℕ) → Option Listed → Option Synced → Option (List (List ℕ))
placed_route members placed None sync = Some placed
placed_route members placed (Some route) sync = changed_route members placed route.ids (is_synced sync route.revision)

-- A journal's next route, None where it stays, from the members that have their keys and those on which it is placed. A
-- journal that is placed on none stays as it is.
abbrev pub next_route : List (List ℕ) → List (List ℕ) → Option Listed → Option Synced → Option (List (List ℕ))
next_route members [] route sync = None
next_route members (p ∷ placed) route sync = placed_route members (p ∷ placed) route sync

-- ---- a shard's list

-- the ids of a list, none where there is no key
abbrev pub ids_in : Option Listed → List (List ℕ)
ids_in None = []
ids_in (Some list) = list.ids

-- the members that stay placed, in the old order, and then the others that are placed
abbrev pub new_list : List (List ℕ) → List (List ℕ) → List (List ℕ)
new_list placed old = within old placed ++ without placed old

-- a shard's next list, None where it stays
abbrev pub next_list : List (List ℕ) → Option Listed → Option (List (List ℕ))
next_list placed list =
    let new = new_list placed (ids_in list) in
    if same_ids new (ids_in list) then None else Some new
