-- What a key has after puts, deletes and changes.
use Rattle.std.proofs.Common.{◌≡◌, ℕ, List, [], ◌∷◌, ◌++◌, Bool, true, false, cond, not, refl, ap, sym, ◌∙◌, Option, Some, None}
use Rattle.std.specs.Cmp.{IsEquivalence}
use Rattle.std.specs.Cmp.Lexicographic.{slice_cmp, nat_list_eq_equiv, texts_ties}
use Rattle.std.specs.Ordering.{nat_cmp, match_ordering, is_eq}
use Rattle.std.specs.declared.cmp.Ordering.{Ordering}
use Rattle.std.specs.declared.cmp.Ordering.TheVariants.{Less, Equal, Greater}
use Rattle.std.proofs.lemmas.Map.Entries.{lookup-filter-keys}
use Rattle.gz_label.specs.declared.keys.KeyWrite.{KeyWrite}
use Rattle.gz_label.specs.declared.keys.Change.{Change}
use Rattle.gz_keyspace.specs.declared.table.Held.{Held}
use Rattle.gz_keyspace.specs.Keys.{same_key, KeyMap, held_at, put, delete, after_value, after_writes, after_changes, keys_after}
use Rattle.gz_keyspace.specs.Table.{puts, prepared_of, prepared_value}

abbrev pub same_laws : IsEquivalence same_key
same_laws = nat_list_eq_equiv

-- a choice by the same test twice
inner : {A : Type 0} (b : Bool) (x y z : A) → cond b x z ≡ cond b x (cond b y z)
inner true x y z = refl
inner false x y z = refl

-- two choices by tests that don't both hold
exchanged : {A : Type 0} (b c : Bool) (x y z : A) → (b ≡ true → c ≡ false) → cond c y (cond b x z) ≡ cond b x (cond c y z)
exchanged true c x y z apart = rw (apart refl) refl
exchanged false c x y z apart = refl

-- keys that the order tells apart aren't equal
differ : (a b : List ℕ) (o : Ordering) → o ≡ slice_cmp nat_cmp a b → is_eq o ≡ same_key a b
differ a b o e = ap is_eq e ∙ sym (texts_ties a b)

module _ (key : List ℕ) (held : Held) (k : List ℕ) where
  beside : (o : Ordering) (e : List ℕ × Held) (es rest : KeyMap) → o ≡ slice_cmp nat_cmp key e.0
      → held_at k rest ≡ cond (same_key key k) (Some held) (held_at k es)
      → held_at k (match_ordering o ((key, held) ∷ e ∷ es) ((e.0, held) ∷ es) (e ∷ rest)) ≡ cond (same_key key k) (Some held) (held_at k (e ∷ es))
  beside Less e es rest is ih = ap (λ b. cond b (Some held) (held_at k (e ∷ es))) (same_laws.symm k key)
  beside Equal e es rest is ih =
      let same : same_key key k ≡ same_key k e.0 = same_laws.congr key e.0 k (sym (differ key e.0 Equal is)) ∙ same_laws.symm e.0 k in
      rw same (inner (same_key k e.0) (Some held) (Some e.1) (held_at k es))
  beside Greater e es rest is ih =
      ap (cond (same_key k e.0) (Some e.1)) ih
      ∙ exchanged (same_key key k) (same_key k e.0) (Some held) (Some e.1) (held_at k es)
      (λ both. sym (same_laws.congr key k e.0 both) ∙ sym (differ key e.0 Greater is))

  -- after a put the key has this, and each other key what it had
  pub held_at-put : (keys : KeyMap) → held_at k (put key held keys) ≡ cond (same_key key k) (Some held) (held_at k keys)
  held_at-put [] = ap (λ b. cond b (Some held) None) (same_laws.symm k key)
  held_at-put (e ∷ es) = beside (slice_cmp nat_cmp key e.0) e es (put key held es) refl (held_at-put es)

deleted : (key k : List ℕ) (keys : KeyMap) (b : Bool) → b ≡ same_key key k → held_at k (delete key keys) ≡ cond b None (held_at k keys)
deleted key k keys true is =
    lookup-filter-keys (same_key k) (λ q. not (same_key key q)) false
    (λ q same. ap not (sym (same_laws.congr k key q (same_laws.symm k key ∙ sym is)) ∙ same)) keys
deleted key k keys false is =
    lookup-filter-keys (same_key k) (λ q. not (same_key key q)) true
    (λ q same. ap not (same_laws.symm key q ∙ sym (same_laws.congr k q key same) ∙ same_laws.symm k key ∙ sym is)) keys

-- after a delete the key has nothing, and each other key what it had
pub held_at-delete : (key k : List ℕ) (keys : KeyMap) → held_at k (delete key keys) ≡ cond (same_key key k) None (held_at k keys)
held_at-delete key k keys = deleted key k keys (same_key key k) refl

pub held_at-after_value : (revision : ℕ) (key k : List ℕ) (value : Option (List ℕ)) (keys : KeyMap)
    → held_at k (after_value revision key value keys) ≡ cond (same_key key k) (prepared_value revision value) (held_at k keys)
held_at-after_value revision key k None keys = held_at-delete key k keys
held_at-after_value revision key k (Some value) keys = held_at-put key (record { value = value; mod_revision = revision }) k keys

-- the writes of a change do to each key what was prepared
pub held_at-after_writes : (revision : ℕ) (k : List ℕ) (ws : List KeyWrite) (keys : KeyMap)
    → held_at k (after_writes revision keys ws) ≡ puts k (prepared_of revision ws) (held_at k keys)
held_at-after_writes revision k [] keys = refl
held_at-after_writes revision k (w ∷ ws) keys =
    held_at-after_writes revision k ws (after_value revision w.key w.value keys)
    ∙ ap (λ had. puts k (prepared_of revision ws) had) (held_at-after_value revision w.key k w.value keys)

pub after_changes-snoc : (changes : List Change) (keys : KeyMap) (c : Change)
    → after_changes keys (changes ++ c ∷ []) ≡ after_writes c.revision (after_changes keys changes) c.writes
after_changes-snoc [] keys c = refl
after_changes-snoc (x ∷ xs) keys c = after_changes-snoc xs (after_writes x.revision keys x.writes) c

-- one more change does to each key what was prepared
pub one_more : (changes : List Change) (c : Change) (k : List ℕ)
    → puts k (prepared_of c.revision c.writes) (held_at k (keys_after changes)) ≡ held_at k (keys_after (changes ++ c ∷ []))
one_more changes c k = sym (ap (held_at k) (after_changes-snoc changes [] c) ∙ held_at-after_writes c.revision k c.writes (keys_after changes))
