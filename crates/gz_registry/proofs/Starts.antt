-- The start: members that join one after another.
use Rattle.std.proofs.Common.{◌≡◌, ℕ, ◌+◌, ◌<◌, List, [], ◌∷◌, ◌++◌, length, drop, drop-cons, get_or, add-one, refl, ap, sym, ◌∙◌, subst, arith}
use Rattle.gz_keyspace.specs.declared.formats.Joined.{Joined}
use Rattle.gz_keyspace.specs.Formats.{member_text}
use Rattle.gz_keyspace.specs.Space.{revision_of, put_of}
use Rattle.gz_keyspace.proofs.KeyLemmas.{same_laws}
use Rattle.gz_registry.specs.Keys.{member_key}
use Rattle.gz_registry.specs.Registered.{Member, Registered, after_join, each_joined, OnlyMembers, AreNew, IsApart}
use Rattle.gz_registry.proofs.Members.{still_none, only_after_join}
use Rattle.gz_registry.proofs.Spaces.{longer}

new_more : (js : List Joined) (members : List Member) (m : Member) → AreNew js members → IsApart m.id js → AreNew js (members ++ m ∷ [])
new_more [] members m new apart = tt
new_more (j ∷ js) members m new apart =
    (still_none j.spec.id members m new.0 (same_laws.symm j.spec.id m.id ∙ apart.0), new.1, new_more js members m new.2 apart.1)

cut : (joined : List Joined) (i : ℕ) (j : Joined) → i < length joined → j ≡ get_or joined i j → drop i joined ≡ j ∷ drop (i + 1) joined
cut joined i j within is = rw (drop-cons joined i j within, ← is, add-one i) refl

join_revision : (j : Joined) (r new : Registered) → new ≡ after_join j r → revision_of new.keys.changes ≡ revision_of r.keys.changes + 1
join_revision j r new is = ap (λ (s : Registered). revision_of s.keys.changes) is ∙ longer (put_of (member_key j.spec.id) (member_text j) ∷ []) r.keys.changes

-- what is known once it has joined
pub has_joined : (joined : List Joined) (i n : ℕ) (j : Joined) (r new all : Registered) → i < length joined → j ≡ get_or joined i j → new ≡ after_join j r
    → each_joined (drop i joined) r ≡ all → AreNew (drop i joined) r.members → OnlyMembers r → revision_of r.keys.changes ≡ n + i
    → (each_joined (drop (i + 1) joined) new ≡ all) × (AreNew (drop (i + 1) joined) new.members × (OnlyMembers new × (revision_of new.keys.changes ≡ n + (i + 1))))
has_joined joined i n j r new all within is new_is value fresh only count =
    let c = cut joined i j within is in
    let here = subst (λ (js : List Joined). AreNew js r.members) c fresh in
    let more = join_revision j r new new_is in
    let rest : each_joined (drop (i + 1) joined) (after_join j r) ≡ all = ap (λ (js : List Joined). each_joined js r) (sym c) ∙ value in (
      ap (each_joined (drop (i + 1) joined)) new_is ∙ rest,
      (
        subst (λ (s : Registered). AreNew (drop (i + 1) joined) s.members) (sym new_is) (new_more (drop (i + 1) joined) r.members _ here.2 here.1),
        (subst OnlyMembers (sym new_is) (only_after_join j r only), omega (arith, more, count)),
      ),
    )
