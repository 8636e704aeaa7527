-- The transactions of a converge: each puts one list at a key of a journal's route or of a shard's assignment, and compares
-- that key with what was seen, which is of no later revision than the last one. So of a converge's transactions at most one
-- writes a journal's route: behind it the route is of a later revision than any of them compares with.
use Rattle.std.proofs.Common.{◌≡◌, ℕ, ◌+◌, ◌≤◌, ◌⊎◌, List, [], ◌∷◌, length, refl, sym, arith, subst, inl, inr, Option, Some, None}
use Rattle.std.specs.Prelude.{if◌then◌else◌, filter_map, option_map, option_and_then, codes}
use Rattle.std.specs.List.{cons_option}
use Rattle.std.specs.Option.{option_map_or}
use Rattle.std.proofs.lemmas.Bool.{cond_both}
use Rattle.gz_label.specs.declared.keys.KeyWrite.{KeyWrite}
use Rattle.gz_label.specs.declared.keys.Change.{Change}
use Rattle.gz_spec.specs.Records.{JournalSpec, ShardSpec}
use Rattle.gz_keyspace.specs.declared.table.Held.{Held}
use Rattle.gz_keyspace.specs.Keys.{same_key, KeyMap, held_at, mod_revision_of, after_writes, after_changes, keys_after, IsNumbered, IsNumberedFrom}
use Rattle.gz_keyspace.specs.Table.{puts, prepared_of, prepared_value}
use Rattle.gz_keyspace.specs.Formats.{ids_of}
use Rattle.gz_keyspace.proofs.KeyLemmas.{held_at-after_writes}
use Rattle.gz_alloc.specs.Names.{is_problem}
use Rattle.gz_converge.specs.declared.txn.Txn.{Txn}
use Rattle.gz_converge.specs.declared.view.Listed.{Listed}
use Rattle.gz_converge.specs.declared.view.JournalView.{JournalView}
use Rattle.gz_converge.specs.declared.view.ShardView.{ShardView}
use Rattle.gz_converge.specs.Views.{view_of, listed, list_at, behind, route_key, assign_key, journal_named, shard_named, journal_with, journal_at, shard_with, shard_at, journal_in, shard_in}
use Rattle.gz_converge.specs.Cases.{next_route, next_list}
use Rattle.gz_converge.specs.Converged.{Pairs, ids, placed_on, revision_of, txn_of, ids_text, journal_txn, shard_txn, journal_txns, shard_txns, txns_of, shards_asked}
use Rattle.gz_lineage.specs.Lists.{Each}
use Rattle.gz_lineage.proofs.Listed.{each_append}

-- ---- no key is of a later revision than the last one

abbrev pub revision_in : Option Held → ℕ
revision_in h = option_map_or (λ (x : Held). x.mod_revision) h 0

abbrev AllBy : ℕ → KeyMap → Type 0
AllBy n keys = (key : List ℕ) → revision_in (held_at key keys) ≤ n

by_value : (n revision : ℕ) (value : Option (List ℕ)) → revision ≤ n → revision_in (prepared_value revision value) ≤ n
by_value n revision None l = omega arith
by_value n revision (Some v) l = l

by_puts : (n revision : ℕ) (key : List ℕ) (ws : List KeyWrite) (had : Option Held) → revision ≤ n → revision_in had ≤ n → revision_in (puts key (prepared_of revision ws) had) ≤ n
by_puts n revision key [] had l a = a
by_puts n revision key (w ∷ ws) had l a = by_puts n revision key ws (if same_key w.key key then prepared_value revision w.value else had) l
    (cond_both (same_key w.key key) (prepared_value revision w.value) had (λ h. revision_in h ≤ n) (λ _. by_value n revision w.value l) (λ _. a))

by_writes : (n revision : ℕ) (keys : KeyMap) (ws : List KeyWrite) → revision ≤ n → AllBy n keys → AllBy n (after_writes revision keys ws)
by_writes n revision keys ws l a key =
    subst (λ h. revision_in h ≤ n) (sym (held_at-after_writes revision key ws keys)) (by_puts n revision key ws (held_at key keys) l (a key))

by_changes : (cs : List Change) (keys : KeyMap) (n : ℕ) → IsNumberedFrom n cs → AllBy n keys → AllBy (n + length cs) (after_changes keys cs)
by_changes [] keys n b a key = omega (arith, a key)
by_changes (c ∷ cs) keys n b a key =
    let up : AllBy (n + 1) keys = λ k. omega (arith, a k) in
    let next = by_changes cs (after_writes c.revision keys c.writes) (n + 1) b.1 (by_writes (n + 1) c.revision keys c.writes (omega (arith, b.0)) up) key in
    omega (arith, next)

pub revision_past : (changes : List Change) → IsNumbered changes → (key : List ℕ) → mod_revision_of key (keys_after changes) ≤ length changes
revision_past changes a key = omega (arith, by_changes changes [] 0 a (λ k. omega arith) key)

-- ---- transactions

-- one list is put at a key of a route or of an assignment, where that is of this revision or an earlier one
pub record IsMove (last : ℕ) (t : Txn) : Type 0 where
  pub same : t.compare.key ≡ t.write.key
  pub past : t.compare.mod_revision ≤ last
  pub text : List ℕ
  pub value : t.write.value ≡ Some text
  pub name : List ℕ
  pub of : (t.write.key ≡ route_key name) ⊎ (t.write.key ≡ assign_key name)

-- what holds of the value, if there is one, and of the others
given_by : {B : Type 0} (Q : B → Type 0) (o : Option B) (rest : List B) → ((y : B) → o ≡ Some y → Q y) → Each Q rest → Each Q (cons_option o rest)
given_by Q None rest g a = a
given_by Q (Some y) rest g a = (g y refl, a)

-- what holds of each value that the function gives
each_given : {A B : Type 0} (P : A → Type 0) (Q : B → Type 0) (f : A → Option B) → ((x : A) (y : B) → P x → f x ≡ Some y → Q y) → (xs : List A) → Each P xs → Each Q (filter_map f xs)
each_given P Q f g [] a = tt
each_given P Q f g (x ∷ xs) a = given_by Q (f x) (filter_map f xs) (λ y e. g x y a.0 e) (each_given P Q f g xs a.1)

-- each of a list has what holds of everything
each_any : {A : Type 0} (xs : List A) → Each (λ (x : A). Unit {0}) xs
each_any [] = tt
each_any (x ∷ xs) = (tt, each_any xs)

module _ (changes : List Change) (numbered : IsNumbered changes) where
  abbrev keys : KeyMap
  keys = keys_after changes

  -- a list that was seen at a key is of the revision that the key has
  list_past : (key : List ℕ) → revision_of (list_at keys key) ≤ length changes
  list_past key = omega (arith, of_held (held_at key keys), revision_past changes numbered key)
    where
      of_ids : (h : Held) (o : Option (List (List ℕ))) → revision_of (option_map (λ (is : List (List ℕ)). let l : Listed = record { ids = is; revision = h.mod_revision } in l) o) ≤ h.mod_revision
      of_ids h None = omega arith
      of_ids h (Some is) = omega arith

      of_held : (h : Option Held) → revision_of (option_and_then listed h) ≤ revision_in h
      of_held None = omega arith
      of_held (Some h) = of_ids h (ids_of h.value)

  -- a put at such a key
  move_is : (key name : List ℕ) → ((key ≡ route_key name) ⊎ (key ≡ assign_key name)) → (old : Option Listed) → old ≡ list_at keys key → (new : Option (List (List ℕ))) (t : Txn) → option_map (txn_of key old) new ≡ Some t → IsMove (length changes) t
  move_is key name k old e None t f = absurd (cc)
  move_is key name k old e (Some new) t f =
      let z : txn_of key old new ≡ t = cc in
      subst (λ (x : Txn). IsMove (length changes) x) z
      (record { same = refl; past = subst (λ o. revision_of o ≤ length changes) (sym e) (list_past key); text = ids_text new; value = refl; name = name; of = k })

  -- ---- journals

  abbrev RouteSaid : JournalView → Type 0
  RouteSaid j = j.route ≡ list_at keys (route_key j.spec.name)

  journal_said : (row : List ℕ × Held) (j : JournalView) → journal_in keys row ≡ Some j → RouteSaid j
  journal_said row j e = by_name (behind (codes "journal/") row.0) e
    where
      by_spec : (o : Option JournalSpec) → option_map (journal_with keys row.1.mod_revision) o ≡ Some j → RouteSaid j
      by_spec None f = absurd (cc)
      by_spec (Some spec) f = let z : journal_with keys row.1.mod_revision spec ≡ j = cc in subst RouteSaid z refl

      by_name : (o : Option (List ℕ)) → option_and_then (λ name. journal_at keys name row.1) o ≡ Some j → RouteSaid j
      by_name None f = absurd (cc)
      by_name (Some name) f = by_spec (journal_named name row.1.value) f

  journals_move : (members : List (List ℕ)) (placed : Pairs) → Each (λ t. IsMove (length changes) t) (filter_map (journal_txn members placed) (view_of keys).journals)
  journals_move members placed =
      each_given RouteSaid (λ t. IsMove (length changes) t) (journal_txn members placed)
      (λ j t said e. move_is (route_key j.spec.name) j.spec.name (inl refl) j.route said (next_route members (placed_on placed j.spec.name) j.route j.sync) t e)
      (view_of keys).journals
      (each_given (λ (row : List ℕ × Held). Unit {0}) RouteSaid (journal_in keys) (λ row j u e. journal_said row j e) keys (each_any keys))

  -- ---- shards

  abbrev ListSaid : ShardView → Type 0
  ListSaid s = s.list ≡ list_at keys (assign_key s.spec.id)

  shard_said : (row : List ℕ × Held) (s : ShardView) → shard_in keys row ≡ Some s → ListSaid s
  shard_said row s e = by_id (behind (codes "shard/") row.0) e
    where
      by_spec : (o : Option ShardSpec) → option_map (shard_with keys row.1.mod_revision) o ≡ Some s → ListSaid s
      by_spec None f = absurd (cc)
      by_spec (Some spec) f = let z : shard_with keys row.1.mod_revision spec ≡ s = cc in subst ListSaid z refl

      by_id : (o : Option (List ℕ)) → option_and_then (λ id. shard_at keys id row.1) o ≡ Some s → ListSaid s
      by_id None f = absurd (cc)
      by_id (Some id) f = by_spec (shard_named id row.1.value) f

  shards_move : (placed : Pairs) → Each (λ t. IsMove (length changes) t) (filter_map (shard_txn placed) (view_of keys).shards)
  shards_move placed =
      each_given ListSaid (λ t. IsMove (length changes) t) (shard_txn placed)
      (λ s t said e. move_is (assign_key s.spec.id) s.spec.id (inr refl) s.list said (next_list (placed_on placed s.spec.id) s.list) t e)
      (view_of keys).shards
      (each_given (λ (row : List ℕ × Held). Unit {0}) ListSaid (shard_in keys) (λ row s u e. shard_said row s e) keys (each_any keys))

  -- all of a converge's transactions are such
  pub all_moves : (journals shards : Pairs) → Each (λ t. IsMove (length changes) t) (txns_of (view_of keys) journals shards)
  all_moves journals shards =
      let view = view_of keys in
      each_append (λ t. IsMove (length changes) t) (journal_txns view journals) (shard_txns view shards)
      (journals_move (ids view.members) journals)
      (cond_both (is_problem (shards_asked view)) (filter_map (shard_txn shards) view.shards) [] (Each (λ t. IsMove (length changes) t)) (λ _. shards_move shards) (λ _. tt))
