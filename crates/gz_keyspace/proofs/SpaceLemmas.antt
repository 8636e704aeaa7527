-- What stays true of a space of keys.
use Rattle.std.proofs.Common.{◌≡◌, ◌≢◌, ℕ, ◌+◌, ◌==◌, ◌<◌, ◌≤◌, List, [], ◌∷◌, ◌++◌, Bool, true, false, cond, refl, ap, sym, ◌∙◌, Option, Some, None, Result, Ok, Err, length, filter, drop, add-one, slice_get, nat_lt, arith, eq-eqb, lt-ltb, true≢false, subst, unwrap_or, zero, suc, is_ok, is_some, IsOk, OnOk}
use Rattle.std.proofs.lemmas.Bool.Decides.{nat_tests}
use Rattle.std.specs.Map.{lookup, keys_of}
use Rattle.std.specs.List.{IsDistinct}
use Rattle.std.proofs.lemmas.Map.{lookup-remove_entry}
use Rattle.std.proofs.lemmas.List.{length-append}
use Rattle.gz_label.specs.declared.keys.KeyWrite.{KeyWrite}
use Rattle.gz_label.specs.declared.keys.Change.{Change}
use Rattle.gz_keyspace.specs.declared.error.KeyError.{KeyError}
use Rattle.gz_keyspace.specs.declared.error.KeyError.TheVariants.{KeysEnd}
use Rattle.gz_keyspace.specs.declared.table.Held.{Held}
use Rattle.gz_keyspace.specs.Keys.{same_key, held_at, keys_after, IsNumbered, IsNumberedFrom}
use Rattle.gz_keyspace.specs.Table.{puts, prepared_of}
use Rattle.gz_keyspace.specs.Space.{Leases, last_revision, revision_of, next_revision, with_change, without, without_written, key_of_lease}
use Rattle.gz_keyspace.proofs.KeyLemmas.{one_more, same_laws}

numbered_more : (n : ℕ) (changes : List Change) (ws : List KeyWrite) → IsNumberedFrom n changes
    → IsNumberedFrom n (changes ++ record { revision = n + length changes + 1; writes = ws } ∷ [])
numbered_more n [] ws all = (omega arith, tt)
numbered_more n (c ∷ cs) ws all =
    let e : n + length (c ∷ cs) ≡ n + 1 + length cs = omega arith in
    let P : ℕ → Type 0 = λ m. IsNumberedFrom (n + 1) (cs ++ record { revision = m + 1; writes = ws } ∷ []) in
    (all.0, subst P (sym e) (numbered_more (n + 1) cs ws all.1))

numbered : (changes : List Change) (ws : List KeyWrite) → IsNumbered changes → IsNumbered (with_change ws changes)
numbered changes ws all =
    let e : 0 + length changes ≡ length changes = omega arith in
    let P : ℕ → Type 0 = λ m. IsNumberedFrom 0 (changes ++ record { revision = m + 1; writes = ws } ∷ []) in
    subst P e (numbered_more 0 changes ws all)

not_last : (n revision : ℕ) (b : Bool) → b ≡ (n == last_revision) → cond b (let e : Result ℕ KeyError = Err KeysEnd in e) (Ok (n + 1)) ≡ Ok revision → n ≢ last_revision
not_last n revision true is answer same = true≢false (sym (ap is_ok answer))
not_last n revision false is answer same = true≢false (sym (eq-eqb n last_revision same) ∙ sym is)

-- One more change keeps what is known of the changes and of what keys have.
pub kept : (old new : List Change) (ws : List KeyWrite) (had got : List ℕ → Option Held) (revision : ℕ)
    → ((key : List ℕ) → had key ≡ held_at key (keys_after old)) × IsNumbered old × (length old ≤ last_revision)
    → next_revision old ≡ Ok revision
    → new ≡ with_change ws old
    → ((key : List ℕ) → got key ≡ puts key (prepared_of (revision_of new) ws) (had key))
    → ((key : List ℕ) → got key ≡ held_at key (keys_after new)) × IsNumbered new × (length new ≤ last_revision)
kept old new ws had got revision was answer more puts_is =
    let long : length (with_change ws old) ≡ length old + 1 = length-append old _ in
    let now : length new ≡ length old + 1 = ap length more ∙ long in
    let below : length old ≢ last_revision = not_last (length old) revision (length old == last_revision) refl answer in (
      λ key.
          puts_is key
          ∙ ap (λ n. puts key (prepared_of n ws) (had key)) now
          ∙ ap (puts key (prepared_of (length old + 1) ws)) (was.0 key)
          ∙ one_more old (record { revision = length old + 1; writes = ws }) key
          ∙ ap (λ cs. held_at key (keys_after cs)) (sym more),
      subst IsNumbered (sym more) (numbered old ws was.1),
      omega (arith, now, below, was.2),
    )

-- Where the lease of a key is taken away, the key has none.
pub lease_gone : (key : List ℕ) (leases : Leases) → IsDistinct same_key (keys_of leases) → lookup (same_key key) (without key leases) ≡ None
lease_gone key leases distinct =
    lookup-remove_entry same_laws (same_key key) (same_laws.congr key) key leases distinct
    ∙ ap (λ b. cond b None (lookup (same_key key) leases)) (same_laws.refl key)

-- One lease at a place, and the rest.
lease_step : (es : Leases) (i : ℕ) (key : List ℕ) (at lease : ℕ) → slice_get es i ≡ Some (key, at)
    → key_of_lease lease (drop i es) ≡ cond (at == lease) (Some key) (key_of_lease lease (drop (suc i) es))
lease_step [] i key at lease here = absurd (true≢false (sym (ap is_some here)))
lease_step (e ∷ es) zero key at lease here =
    let pair : e ≡ (key, at) = ap (λ (o : Option (List ℕ × ℕ)). unwrap_or o e) here in
    ap (λ (p : List ℕ × ℕ). cond (p.1 == lease) (Some p.0) (key_of_lease lease es)) pair
lease_step (e ∷ es) (suc i) key at lease here = lease_step es i key at lease here

pub lease_found : (es : Leases) (i : ℕ) (key : List ℕ) (at lease : ℕ) → slice_get es i ≡ Some (key, at) → at ≡ lease → key_of_lease lease (drop i es) ≡ Some key
lease_found es i key at lease here same = rw (lease_step es i key at lease here, eq-eqb at lease same) refl

pub lease_passed : (es : Leases) (i : ℕ) (key : List ℕ) (at lease : ℕ) → slice_get es i ≡ Some (key, at) → at ≢ lease
    → key_of_lease lease (drop i es) ≡ key_of_lease lease (drop (i + 1) es)
lease_passed es i key at lease here other =
    let no : (at == lease) ≡ false = grind (arith, nat_tests) in
    rw (lease_step es i key at lease here, no, add-one i) refl

-- The lease of the key that a change has written is gone.
pub lease_gone_after : (key kept : List ℕ) (value : Option (List ℕ)) (ws : List KeyWrite) (start mid leases : Leases)
    → IsDistinct same_key (keys_of start) → kept ≡ key → ws ≡ record { key = key; value = value } ∷ [] → mid ≡ start
    → leases ≡ without_written ws mid → lookup (same_key kept) leases ≡ None
lease_gone_after key kept value ws start mid leases distinct kept_is ws_is mid_is more =
    let P : List ℕ → Type 0 = λ k. lookup (same_key k) leases ≡ None in
    subst P (sym kept_is)
    (ap (lookup (same_key key)) (more ∙ ap (λ w. without_written w mid) ws_is ∙ ap (without key) mid_is) ∙ lease_gone key start distinct)

pub on_ok : {X E : Type 0} (r : Result X E) (P : Type 0) → IsOk r → OnOk r P → P
on_ok (Ok x) P ok fact = fact
on_ok (Err e) P ok fact = absurd (true≢false (sym ok))

all_later : (n after : ℕ) (changes : List Change) → IsNumberedFrom n changes → after ≤ n → filter (λ change. nat_lt after change.revision) changes ≡ changes
all_later n after [] all below = refl
all_later n after (c ∷ cs) all below =
    let lt : after < c.revision = omega (arith, all.0) in
    let le : after ≤ n + 1 = omega arith in
    rw (lt-ltb after c.revision lt, all_later (n + 1) after cs all.1 le) refl

later_from : (changes : List Change) (n k : ℕ) → IsNumberedFrom n changes → filter (λ change. nat_lt (n + k) change.revision) changes ≡ drop k changes
later_from changes n zero all =
    let le : n + 0 ≤ n = omega arith in
    all_later n (n + 0) changes all le
later_from [] n (suc k) all = refl
later_from (c ∷ cs) n (suc k) all =
    let no : nat_lt (n + suc k) c.revision ≡ false = grind (arith, nat_tests, all.0) in
    let e : n + suc k ≡ n + 1 + k = omega arith in
    rw no (ap (λ m. filter (λ change. nat_lt m change.revision) cs) e ∙ later_from cs (n + 1) k all.1)

-- The changes above a revision are those behind its place.
pub later : (after : ℕ) (changes : List Change) → IsNumbered changes → drop after changes ≡ filter (λ change. nat_lt after change.revision) changes
later after changes all =
    let e : 0 + after ≡ after = omega arith in
    sym (ap (λ m. filter (λ change. nat_lt m change.revision) changes) (sym e) ∙ later_from changes 0 after all)
