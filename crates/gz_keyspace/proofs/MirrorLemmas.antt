-- Mirrors stay mirrors.
use Rattle.std.proofs.Common.{◌≡◌, ℕ, zero, suc, ◌+◌, ◌==◌, ◌≤◌, List, [], ◌∷◌, ◌++◌, Bool, true, false, cond, refl, ap, sym, ◌∙◌, Option, Some, length, filter, take, slice_get, nat_le, arith, true≢false, is_some, unwrap_or}
use Rattle.std.proofs.lemmas.Bool.Decides.{nat_tests}
use Rattle.gz_label.specs.declared.keys.Change.{Change}
use Rattle.gz_keyspace.specs.Keys.{after_writes, keys_after, keys_at, IsNumbered, IsNumberedFrom}
use Rattle.gz_keyspace.specs.Mirrors.{Mirrored, applied, after_given, IsMirrorOf, AreAmong, MirrorLaw}
use Rattle.gz_keyspace.proofs.KeyLemmas.{after_changes-snoc}

none_up_to : (n revision : ℕ) (changes : List Change) → IsNumberedFrom n changes → revision ≤ n → filter (λ change. nat_le change.revision revision) changes ≡ []
none_up_to n revision [] all least = refl
none_up_to n revision (c ∷ cs) all least =
    let no : nat_le c.revision revision ≡ false = grind (arith, nat_tests, all.0) in
    let le : revision ≤ n + 1 = omega arith in
    rw no (none_up_to (n + 1) revision cs all.1 le)

-- The changes up to a revision are so many of the first ones.
up_to : (changes : List Change) (n k : ℕ) → IsNumberedFrom n changes → filter (λ change. nat_le change.revision (n + k)) changes ≡ take k changes
up_to [] n zero all = refl
up_to [] n (suc k) all = refl
up_to (c ∷ cs) n zero all =
    let le : n + 0 ≤ n = omega arith in
    none_up_to n (n + 0) (c ∷ cs) all le
up_to (c ∷ cs) n (suc k) all =
    let yes : nat_le c.revision (n + suc k) ≡ true = grind (arith, nat_tests, all.0) in
    let e : n + suc k ≡ n + 1 + k = omega arith in
    rw yes (ap (λ rest. c ∷ rest) (ap (λ m. filter (λ change. nat_le change.revision m) cs) e ∙ up_to cs (n + 1) k all.1))

at_revision : (changes : List Change) (revision : ℕ) → IsNumbered changes → keys_at changes revision ≡ keys_after (take revision changes)
at_revision changes revision all =
    let e : revision ≡ 0 + revision = omega arith in
    ap keys_after (ap (λ m. filter (λ change. nat_le change.revision m) changes) e ∙ up_to changes 0 revision all)

pub revision_at : (changes : List Change) (n place : ℕ) (c : Change) → IsNumberedFrom n changes → slice_get changes place ≡ Some c → c.revision ≡ n + place + 1
revision_at [] n place c all here = absurd (true≢false (sym (ap is_some here)))
revision_at (x ∷ xs) n zero c all here =
    let same : x ≡ c = ap (λ (o : Option Change). unwrap_or o x) here in
    let is : x.revision ≡ n + 0 + 1 = omega (arith, all.0) in
    sym (ap (λ (y : Change). y.revision) same) ∙ is
revision_at (x ∷ xs) n (suc place) c all here =
    let is : c.revision ≡ n + 1 + place + 1 = revision_at xs (n + 1) place c all.1 here in
    omega (arith, is)

pub take_more : (xs : List Change) (place : ℕ) (x : Change) → slice_get xs place ≡ Some x → take (suc place) xs ≡ take place xs ++ x ∷ []
take_more [] place x here = absurd (true≢false (sym (ap is_some here)))
take_more (y ∷ ys) zero x here = ap (λ (z : Change). z ∷ []) (ap (λ (o : Option Change). unwrap_or o y) here)
take_more (y ∷ ys) (suc place) x here = ap (λ rest. y ∷ rest) (take_more ys place x here)

-- The next change takes the key map on by one revision.
next_at : (changes : List Change) (revision place : ℕ) (c : Change) → IsNumbered changes → slice_get changes place ≡ Some c → c.revision ≡ revision + 1
    → after_writes c.revision (keys_at changes revision) c.writes ≡ keys_at changes c.revision
next_at changes revision place c all here next =
    let is : c.revision ≡ 0 + place + 1 = revision_at changes 0 place c all here in
    let same : revision ≡ place = omega (arith, is, next) in
    let one : c.revision ≡ suc place = omega (arith, is) in
    ap (λ keys. after_writes c.revision keys c.writes) (ap (keys_at changes) same ∙ at_revision changes place all)
    ∙ sym (ap (keys_at changes) one ∙ at_revision changes (suc place) all ∙ ap keys_after (take_more changes place c here) ∙ after_changes-snoc (take place changes) [] c)

applied_one : (changes : List Change) (m : Mirrored) (place : ℕ) (c : Change) (b : Bool) → b ≡ (c.revision == m.revision + 1)
    → IsNumbered changes → slice_get changes place ≡ Some c → IsMirrorOf changes m
    → IsMirrorOf changes (cond b (record { revision = c.revision; keys = after_writes c.revision m.keys c.writes }) m)
applied_one changes m place c true is all here mirror =
    let next : c.revision ≡ m.revision + 1 = grind (arith, nat_tests) in
    ap (λ keys. after_writes c.revision keys c.writes) mirror ∙ next_at changes m.revision place c all here next
applied_one changes m place c false is all here mirror = mirror

given_all : (changes some : List Change) (m : Mirrored) → IsNumbered changes → IsMirrorOf changes m → AreAmong changes some → IsMirrorOf changes (after_given m some)
given_all changes [] m all mirror among = mirror
given_all changes (c ∷ cs) m all mirror among =
    given_all changes cs (applied c m) all
    (applied_one changes m among.0.0 c (c.revision == m.revision + 1) refl all among.0.1 mirror) among.1

pub prefix_of : (xs ys : List Change) (n : ℕ) → n ≤ length xs → take n (xs ++ ys) ≡ take n xs
prefix_of [] ys zero within = refl
prefix_of [] ys (suc n) within = absurd (omega (arith, within))
prefix_of (x ∷ xs) ys zero within = refl
prefix_of (x ∷ xs) ys (suc n) within = ap (λ rest. x ∷ rest) (prefix_of xs ys n (omega (arith, within)))

pub all_taken : (xs : List Change) → take (length xs) xs ≡ xs
all_taken [] = refl
all_taken (x ∷ xs) = ap (λ rest. x ∷ rest) (all_taken xs)

pub mirror_law : (changes : List Change) → IsNumbered changes → MirrorLaw changes
mirror_law changes all = record {
  new = sym (at_revision changes 0 all);
  whole = sym (at_revision changes (length changes) all ∙ ap keys_after (all_taken changes));
  given = λ m some mirror among. given_all changes some m all mirror among;
  goes_on = λ m more within numbered mirror.
      mirror ∙ at_revision changes m.revision all ∙ sym (at_revision (changes ++ more) m.revision numbered ∙ ap keys_after (prefix_of changes more m.revision within));
}
