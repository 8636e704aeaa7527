-- A converge, as a whole: of its transactions at most one writes this journal's route, which is a converge of the reduced
-- world; whether that hands the journal over is known only behind the last, so the keys are related first. Each other
-- transaction is of another key, or compares with a route that was written since and does nothing.
use Rattle.std.proofs.Common.{◌≡◌, ℕ, ◌+◌, ◌-◌, ◌<◌, ◌≤◌, ◌⊎◌, List, [], ◌∷◌, ◌++◌, length, refl, ap, sym, ◌∙◌, arith, subst, inl, inr, Option, Some, None, true, false, Bool}
use Rattle.std.specs.Prelude.{if◌then◌else◌, map, Ok, Err, ◌==◌}
use Rattle.std.specs.Option.{option_map_or}
use Rattle.std.specs.Str.{bytes_eq}
use Rattle.std.proofs.lemmas.Bool.{cases_Bool, eqb-true, eqb-false}
use Rattle.std.specs.Cmp.Lexicographic.{same_text}
use Rattle.gz_model.specs.Steps.{◌>>=◌}
use Rattle.gz_label.specs.declared.keys.KeyWrite.{KeyWrite}
use Rattle.gz_label.specs.declared.keys.Change.{Change}
use Rattle.gz_wire.specs.declared.msg.Msg.TheVariants.{KsChange}
use Rattle.gz_keyspace.specs.declared.table.Held.{Held}
use Rattle.gz_keyspace.specs.declared.error.KeyError.TheVariants.{CompareFailed, KeysEnd}
use Rattle.gz_keyspace.specs.Keys.{held_at, mod_revision_of, keys_after}
use Rattle.gz_keyspace.specs.Table.{prepared_value}
use Rattle.gz_keyspace.specs.Space.{last_revision, after_txn}
use Rattle.gz_keyspace.specs.Formats.{ids_of}
use Rattle.gz_replica.specs.Member.{to_each}
use Rattle.gz_replica.specs.Opening.{keys, route_key, sync_key}
use Rattle.gz_converge.specs.declared.txn.Txn.{Txn}
use Rattle.gz_converge.specs.Views as views
use Rattle.gz_cluster.specs.Keeper.{makes_as, names_of}
use Rattle.gz_cluster.specs.Cluster.{Letter, Cluster, Moved, keeper_moves, letters_from, count_of}
use Rattle.gz_cluster.specs.Events.{txn_moves, txns_move}
use Rattle.gz_cluster.specs.Handover.{changes_of}
use Rattle.gz_lineage.specs.Lists.{Each}
use Rattle.gz_lineage.specs.World.{World}
use Rattle.gz_lineage.specs.World as world
use Rattle.gz_lineage.proofs.Listed.{each_append}
use Rattle.gz_lineage.proofs.Invariant.{Inv}
use Rattle.gz_carry.proofs.Numbers.{same_bytes}
use Rattle.gz_steps.specs.Carrying.{journal_in}
use Rattle.gz_carried.specs.Keys.{KeysCarried}
use Rattle.gz_carried.proofs.KeyChanges.{held_new, held_same, other_change, bad_route, converge_keys}
use Rattle.gz_carried.proofs.Moves.{IsMove}

-- letters that no relation of one journal speaks of
abbrev pub AreQuiet : List Letter → Type 0
AreQuiet ls = Each (λ (x : Letter). journal_in x.msg ≡ None) ls

-- a change that is told is such
pub told_quiet : (sent count : ℕ) (ms : List (List ℕ)) (revision : ℕ) (ws : List KeyWrite) → AreQuiet (letters_from sent keys count (to_each (KsChange revision ws) ms))
told_quiet sent count [] revision ws = tt
told_quiet sent count (m ∷ ms) revision ws = (refl, told_quiet (sent + 1) (count + 1) ms revision ws)

-- only the keys, the flight and the counts of messages move
pub record OnlyKeys (c : Cluster) (m : Moved) : Type 0 where
  pub brokers : m.cluster.brokers ≡ c.brokers
  pub stopped : m.cluster.stopped ≡ c.stopped
  pub indexes : m.cluster.indexes ≡ c.indexes
  pub said : AreQuiet m.said

-- there is room for one more change
pub room_for : (changes : List Change) → length changes ≤ last_revision → (length changes == last_revision) ≡ false → length changes < last_revision
room_for changes l d = let z = eqb-false (length changes) last_revision d in omega (arith, l, z)

-- ---- one transaction, by whether its compare holds and whether the key space has reached its last revision

abbrev moves_by : Txn → Cluster → Bool → Bool → Moved
moves_by t c holds ended =
    keeper_moves [] c (makes_as (t.write ∷ []) c.keeper
    ((if holds then Ok (tt {0}) else Err (CompareFailed t.compare.key (mod_revision_of t.compare.key (keys_after (changes_of c)))))
    >>= λ _. (if ended then Err KeysEnd else Ok (length (changes_of c) + 1))))

abbrev holds_now : Txn → Cluster → Bool
holds_now t c = mod_revision_of t.compare.key (keys_after (changes_of c)) == t.compare.mod_revision

abbrev ended_now : Cluster → Bool
ended_now c = length (changes_of c) == last_revision

only_by : (t : Txn) (c : Cluster) (holds ended : Bool) → OnlyKeys c (moves_by t c holds ended)
only_by t c false ended = record { brokers = refl; stopped = refl; indexes = refl; said = tt }
only_by t c true true = record { brokers = refl; stopped = refl; indexes = refl; said = tt }
only_by t c true false = record {
  brokers = refl;
  stopped = refl;
  indexes = refl;
  said = told_quiet c.sent (count_of keys c.counts) (names_of c.keeper.registry) (length (after_txn (t.write ∷ []) c.keeper.registry.keys).changes) (t.write ∷ []);
}

txn_only : (t : Txn) (c : Cluster) → OnlyKeys c (txn_moves t c)
txn_only t c = only_by t c (holds_now t c) (ended_now c)

pub txns_only : (ts : List Txn) (c : Cluster) → OnlyKeys c (txns_move ts c)
txns_only [] c = record { brokers = refl; stopped = refl; indexes = refl; said = tt }
txns_only (t ∷ ts) c =
    let one = txn_only t c in
    let first = txn_moves t c in
    let rest = txns_only ts first.cluster in
    record {
      brokers = rest.brokers ∙ one.brokers;
      stopped = rest.stopped ∙ one.stopped;
      indexes = rest.indexes ∙ one.indexes;
      said = each_append (λ (x : Letter). journal_in x.msg ≡ None) first.said (txns_move ts first.cluster).said one.said rest.said;
    }

module _ (num : List ℕ → ℕ) (j : List ℕ) where
  -- it stays, or a converge of the reduced world is behind it
  abbrev pub After : List Change → World → Type 0
  After changes w = KeysCarried num j changes w ⊎ ((more lead : ℕ) × (others : List ℕ) × KeysCarried num j changes (world.happens w (world.Converge more lead others)))

  -- ---- of another key

  other_by : (t : Txn) (c : Cluster) (v : World) → KeysCarried num j (changes_of c) v → bytes_eq t.write.key (route_key j) ≡ false → (last : ℕ) → IsMove last t → (holds ended : Bool) → ended_now c ≡ ended →
      KeysCarried num j (changes_of (moves_by t c holds ended).cluster) v
  other_by t c v a d last m false ended e = a
  other_by t c v a d last m true true e = a
  other_by t c v a d last m true false e =
      other_change num j (changes_of c) v a (t.write ∷ []) (room_for (changes_of c) a.small e) (d, tt) (sync_apart m.of, tt) (inr (t.write, refl))
    where
      sync_apart : ((t.write.key ≡ views.route_key m.name) ⊎ (t.write.key ≡ views.assign_key m.name)) → bytes_eq t.write.key (sync_key j) ≡ false
      sync_apart (inl f) = ap (λ k. bytes_eq k (sync_key j)) f
      sync_apart (inr f) = ap (λ k. bytes_eq k (sync_key j)) f

  other_txn : (t : Txn) (c : Cluster) (v : World) → KeysCarried num j (changes_of c) v → bytes_eq t.write.key (route_key j) ≡ false → (last : ℕ) → IsMove last t → KeysCarried num j (changes_of (txn_moves t c).cluster) v
  other_txn t c v a d last m = other_by t c v a d last m (holds_now t c) (ended_now c) refl

  -- ---- of this journal's route, which was written since: nothing happens

  abbrev Later : ℕ → Cluster → Type 0
  Later last c = last < mod_revision_of (route_key j) (keys_after (changes_of c))

  -- ---- of this journal's route, the first time

  own_by : (t : Txn) (c : Cluster) (w : World) (i : Inv w) (a : KeysCarried num j (changes_of c) w) → t.write.key ≡ route_key j → (text : List ℕ) → t.write.value ≡ Some text → (holds ended : Bool) → ended_now c ≡ ended →
      After (changes_of (moves_by t c holds ended).cluster) w
  own_by t c w i a key text value false ended e = inl a
  own_by t c w i a key text value true true e = inl a
  own_by t c w i a key text value true false e =
      subst (λ (x : KeyWrite). After (changes_of c ++ record { revision = length (changes_of c) + 1; writes = x ∷ [] } ∷ []) w) (sym (write_is t.write key value))
      (by_ids (ids_of text) refl (room_for (changes_of c) a.small e))
    where
      write_is : (x : KeyWrite) → x.key ≡ route_key j → x.value ≡ Some text → x ≡ record { key = route_key j; value = Some text }
      write_is x f g = ap (λ k. let y : KeyWrite = record { key = k; value = x.value } in y) f ∙ ap (λ v. let y : KeyWrite = record { key = route_key j; value = v } in y) g

      by_ids : (ids : Option (List (List ℕ))) → ids_of text ≡ ids → (room : length (changes_of c) < last_revision) →
          After (changes_of c ++ record { revision = length (changes_of c) + 1; writes = record { key = route_key j; value = Some text } ∷ [] } ∷ []) w
      by_ids None f room = inl (bad_route num j (changes_of c) w i a text room (λ first os x. absurd (let z = sym f ∙ x in cc)))
      by_ids (Some []) f room = inl (bad_route num j (changes_of c) w i a text room (λ first os x. absurd (let z = sym f ∙ x in cc)))
      by_ids (Some (first ∷ os)) f room = inr (length (changes_of c) - world.latest w.state.routes, num first, map num os, converge_keys num j (changes_of c) w i a text room first os f)

  -- where the transaction isn't made, the keys stay
  unmade : (t : Txn) (c : Cluster) (v : World) → KeysCarried num j (changes_of c) v → holds_now t c ≡ false → KeysCarried num j (changes_of (txn_moves t c).cluster) v
  unmade t c v a e = subst (λ b. KeysCarried num j (changes_of (moves_by t c b (ended_now c)).cluster) v) (sym e) a

  -- no change is taken back
  longer_by : (t : Txn) (c : Cluster) (holds ended : Bool) → length (changes_of c) ≤ length (changes_of (moves_by t c holds ended).cluster)
  longer_by t c false ended = omega arith
  longer_by t c true true = omega arith
  longer_by t c true false = more (changes_of c)
    where
      more : (xs : List Change) → length xs ≤ length (xs ++ record { revision = length (changes_of c) + 1; writes = t.write ∷ [] } ∷ [])
      more [] = omega arith
      more (x ∷ xs) = omega (arith, more xs)

  -- ---- all of them, behind one that wrote the route

  later_by : (t : Txn) (c : Cluster) (v : World) (a : KeysCarried num j (changes_of c) v) → bytes_eq t.write.key (route_key j) ≡ false → (last : ℕ) → Later last c → (holds ended : Bool) → ended_now c ≡ ended → Later last (moves_by t c holds ended).cluster
  later_by t c v a d last l false ended e = l
  later_by t c v a d last l true true e = l
  later_by t c v a d last l true false e =
      let same = held_same num j (changes_of c) v a (t.write ∷ []) (room_for (changes_of c) a.small e) (route_key j) (d, tt) in
      omega (arith, l, ap (λ h. option_map_or (λ (x : Held). x.mod_revision) h 0) same)

  -- a compare with an earlier revision doesn't hold
  not_held : (t : Txn) (c : Cluster) (last : ℕ) → IsMove last t → t.write.key ≡ route_key j → Later last c → holds_now t c ≡ false
  not_held t c last m key l = elim (cases_Bool (holds_now t c)) [
    | inr e ↦ e
    | inl e ↦ absurd (let z = eqb-true (mod_revision_of t.compare.key (keys_after (changes_of c))) t.compare.mod_revision e in
        omega (arith, z, l, m.past, ap (λ k. mod_revision_of k (keys_after (changes_of c))) (m.same ∙ key)))
  ]

  later_all : (ts : List Txn) (last : ℕ) → Each (λ t. IsMove last t) ts → (c : Cluster) (v : World) → KeysCarried num j (changes_of c) v → Later last c → KeysCarried num j (changes_of (txns_move ts c).cluster) v
  later_all [] last ms c v a l = a
  later_all (t ∷ ts) last ms c v a l = elim (cases_Bool (bytes_eq t.write.key (route_key j))) [
    | inr d ↦ later_all ts last ms.1 (txn_moves t c).cluster v (other_txn t c v a d last ms.0) (later_by t c v a d last l (holds_now t c) (ended_now c) refl)
    | inl s ↦ (let key : t.write.key ≡ route_key j = same_text t.write.key (route_key j) (sym s) in
        let no = not_held t c last ms.0 key l in
        later_all ts last ms.1 (txn_moves t c).cluster v (unmade t c v a no)
        (subst (λ b. Later last (moves_by t c b (ended_now c)).cluster) (sym no) l))
  ]

  -- ---- all of them

  -- the route is of the new revision
  now_later : (t : Txn) (c : Cluster) (v : World) (a : KeysCarried num j (changes_of c) v) → t.write.key ≡ route_key j → (text : List ℕ) → t.write.value ≡ Some text → (last : ℕ) → last ≤ length (changes_of c) → ended_now c ≡ false →
      Later last (moves_by t c true false).cluster
  now_later t c v a key text value last low e =
      let held = held_new num j (changes_of c) v a (t.write ∷ []) (room_for (changes_of c) a.small e) (route_key j) in
      let is : bytes_eq t.write.key (route_key j) ≡ true = ap (λ k. bytes_eq k (route_key j)) key ∙ same_bytes (route_key j) in
      let here = held
      ∙ ap (λ (b : Bool). if b then prepared_value (length (changes_of c) + 1) t.write.value else held_at (route_key j) (keys_after (changes_of c))) is
      ∙ ap (prepared_value (length (changes_of c) + 1)) value in
      omega (arith, low, ap (λ h. option_map_or (λ (x : Held). x.mod_revision) h 0) here)

  pub converge_all : (ts : List Txn) (last : ℕ) → Each (λ t. IsMove last t) ts → (c : Cluster) → last ≤ length (changes_of c) → (w : World) (i : Inv w) → KeysCarried num j (changes_of c) w → After (changes_of (txns_move ts c).cluster) w
  converge_all [] last ms c low w i a = inl a
  converge_all (t ∷ ts) last ms c low w i a =
      let next = (txn_moves t c).cluster in
      let longer : last ≤ length (changes_of next) = omega (arith, low, longer_by t c (holds_now t c) (ended_now c)) in
      elim (cases_Bool (bytes_eq t.write.key (route_key j))) [
        | inr d ↦ converge_all ts last ms.1 next longer w i (other_txn t c w a d last ms.0)
        | inl s ↦ (let key : t.write.key ≡ route_key j = same_text t.write.key (route_key j) (sym s) in
            let m = ms.0 in
            elim (cases_Bool (holds_now t c)) [
              | inr missed ↦ converge_all ts last ms.1 next longer w i (unmade t c w a missed)
              | inl met ↦ elim (cases_Bool (ended_now c)) [
                | inl end ↦ converge_all ts last ms.1 next longer w i (subst (λ b. KeysCarried num j (changes_of (moves_by t c b (ended_now c)).cluster) w) (sym met) (subst (λ b. KeysCarried num j (changes_of (moves_by t c true b).cluster) w) (sym end) a))
                | inr room ↦ (let done : After (changes_of next) w = subst (λ b. After (changes_of (moves_by t c b (ended_now c)).cluster) w) (sym met) (subst (λ b. After (changes_of (moves_by t c true b).cluster) w) (sym room) (own_by t c w i a key m.text m.value true false room)) in
                    let later : Later last next = subst (λ b. Later last (moves_by t c b (ended_now c)).cluster) (sym met) (subst (λ b. Later last (moves_by t c true b).cluster) (sym room) (now_later t c w a key m.text m.value last low room)) in
                    elim done [
                      | inl x ↦ converge_all ts last ms.1 next longer w i x
                      | inr x ↦ inr (x.0, x.1, x.2, later_all ts last ms.1 next (world.happens w (world.Converge x.0 x.1 x.2)) x.3 later)
                    ])
              ]
            ])
      ]
