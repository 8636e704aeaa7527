-- A read order in which each commit takes one source after another.
use Rattle.std.proofs.Common.{◌≡◌, ℕ, zero, suc, ◌+◌, ◌<◌, ◌≤◌, ◌==◌, List, [], ◌∷◌, ◌++◌, length, map, filter, refl, ap, sym, ◌∙◌, subst, append_assoc, Bool, true, false, cond, arith}
use Rattle.std.specs.Prelude.{⊤}
use Rattle.std.proofs.lemmas.Grind.{common_steps}
use Rattle.std.proofs.lemmas.List.{append-nil, map-append}
use Rattle.gz_frame.specs.Messages.{Message}
use Rattle.gz_app.specs.declared.app.AppKind.{AppKind}
use Rattle.gz_promise.specs.Accounts.{Commit, Stream, last_state}
use Rattle.gz_promise.specs.Applications.{folded}
use Rattle.gz_promise.specs.Parts.{part}
use Rattle.gz_promise.specs.Promise.{AllWithin, AreFolds, HaveOffsets, Interleaves, Taken, TakesParts, joined, messages_in, of_source, offset_at}
use Rattle.gz_promise.proofs.Orders.{of_source_two}

-- messages of one source
abbrev pub taken_of : ℕ → List Message → List Taken
taken_of k ms = map (λ m. record { source = k; message = m }) ms

-- what a commit takes, source by source
abbrev pub by_source : ℕ → List ℕ → List ℕ → List Stream → List Taken
by_source k [] tos ss = []
by_source k (from ∷ froms) [] ss = []
by_source k (from ∷ froms) (to ∷ tos) [] = []
by_source k (from ∷ froms) (to ∷ tos) (s ∷ ss) = taken_of k (part from to s.committed) ++ by_source (suc k) froms tos ss

-- what each commit takes
abbrev pub by_commit : List ℕ → List Commit → List Stream → List (List Taken)
by_commit froms [] ss = []
by_commit froms (c ∷ commits) ss = by_source 0 froms c.offsets ss ∷ by_commit c.offsets commits ss

-- the offsets of the last commit
abbrev pub last_offsets : List ℕ → List Commit → List ℕ
last_offsets froms [] = froms
last_offsets froms (c ∷ commits) = last_offsets c.offsets commits

-- ---- what is of which source

same : (n : ℕ) → (n == n) ≡ true
same n = grind (arith, common_steps)

other : (n m : ℕ) → n < m → (n == m) ≡ false
other n m less = grind (arith, common_steps)

other_way : (n m : ℕ) → n < m → (m == n) ≡ false
other_way n m less = grind (arith, common_steps)

of_own : (k : ℕ) (ms : List Message) → of_source k (taken_of k ms) ≡ ms
of_own k [] = refl
of_own k (m ∷ ms) = rw (same k) (ap (λ (xs : List Message). m ∷ xs) (of_own k ms))

of_below : (j k : ℕ) (ms : List Message) → j < k → of_source k (taken_of j ms) ≡ []
of_below j k [] less = refl
of_below j k (m ∷ ms) less = rw (other j k less) (of_below j k ms less)

of_above : (j k : ℕ) (ms : List Message) → k < j → of_source k (taken_of j ms) ≡ []
of_above j k [] less = refl
of_above j k (m ∷ ms) less = rw (other_way k j less) (of_above j k ms less)

none_above : (k j : ℕ) (froms tos : List ℕ) (ss : List Stream) → k < j → of_source k (by_source j froms tos ss) ≡ []
none_above k j [] tos ss less = refl
none_above k j (from ∷ froms) [] ss less = refl
none_above k j (from ∷ froms) (to ∷ tos) [] less = refl
none_above k j (from ∷ froms) (to ∷ tos) (s ∷ ss) less =
    of_source_two k (taken_of j (part from to s.committed)) (by_source (suc j) froms tos ss)
    ∙ rw (of_above j k (part from to s.committed) less, none_above k (suc j) froms tos ss (omega (arith, less))) refl

-- nothing of these sources from a number on
abbrev pub NoneFrom : ℕ → List Taken → Type 0
NoneFrom k ts = (j : ℕ) → k ≤ j → of_source j ts ≡ []

-- the rest of a list, from a number on
abbrev pub IsRest : ℕ → List ℕ → List ℕ → Type 0
IsRest k all rest = (i : ℕ) → offset_at (k + i) all ≡ offset_at i rest

rest_next : (k : ℕ) (all : List ℕ) (o : ℕ) (rest : List ℕ) → IsRest k all (o ∷ rest) → IsRest (suc k) all rest
rest_next k all o rest is i =
    let next : suc k + i ≡ k + suc i = omega arith in
    ap (λ (n : ℕ). offset_at n all) next ∙ is (suc i)

rest_first : (k : ℕ) (all : List ℕ) (o : ℕ) (rest : List ℕ) → IsRest k all (o ∷ rest) → offset_at k all ≡ o
rest_first k all o rest is =
    let here : k ≡ k + 0 = omega arith in
    ap (λ (n : ℕ). offset_at n all) here ∙ is 0

rest_all : (all : List ℕ) → IsRest 0 all all
rest_all all i =
    let here : 0 + i ≡ i = omega arith in
    ap (λ (n : ℕ). offset_at n all) here

takes_from : (k : ℕ) (all_froms all_tos froms tos : List ℕ) (ss : List Stream) (before : List Taken) → length froms ≡ length ss → length tos ≡ length ss
    → IsRest k all_froms froms → IsRest k all_tos tos → NoneFrom k before → TakesParts k all_froms all_tos ss (before ++ by_source k froms tos ss)
takes_from k all_froms all_tos froms tos [] before f t fr tr none = tt
takes_from k all_froms all_tos [] tos (s ∷ ss) before f t fr tr none = absurd (omega (arith, f))
takes_from k all_froms all_tos (from ∷ froms) [] (s ∷ ss) before f t fr tr none = absurd (omega (arith, t))
takes_from k all_froms all_tos (from ∷ froms) (to ∷ tos) (s ∷ ss) before f t fr tr none =
    let ms : List Message = part from to s.committed in
    let rest : List Taken = by_source (suc k) froms tos ss in
    let own : of_source k (before ++ (taken_of k ms ++ rest)) ≡ ms =
    of_source_two k before (taken_of k ms ++ rest)
    ∙ rw (none k (omega arith), of_source_two k (taken_of k ms) rest, of_own k ms, none_above k (suc k) froms tos ss (omega arith)) (append-nil ms) in
    let froms_is : offset_at k all_froms ≡ from = rest_first k all_froms from froms fr in
    let tos_is : offset_at k all_tos ≡ to = rest_first k all_tos to tos tr in
    let more : NoneFrom (suc k) (before ++ taken_of k ms) = λ j upto. of_source_two j before (taken_of k ms) ∙ rw (none j (omega (arith, upto)), of_below k j ms (omega (arith, upto))) refl in (
      own ∙ ap (λ (n : ℕ). part n to s.committed) (sym froms_is) ∙ ap (λ (n : ℕ). part (offset_at k all_froms) n s.committed) (sym tos_is),
      subst (λ (ts : List Taken). TakesParts (suc k) all_froms all_tos ss ts) (append_assoc before (taken_of k ms) rest)
          (takes_from (suc k) all_froms all_tos froms tos ss (before ++ taken_of k ms) (omega (arith, f)) (omega (arith, t)) (rest_next k all_froms from froms fr) (rest_next k all_tos to tos tr) more),
    )

within_one : (count k : ℕ) (ms : List Message) (rest : List Taken) → k < count → AllWithin count rest → AllWithin count (taken_of k ms ++ rest)
within_one count k [] rest less all = all
within_one count k (m ∷ ms) rest less all = (less, within_one count k ms rest less all)

within_all : (count k : ℕ) (froms tos : List ℕ) (ss : List Stream) → k + length ss ≤ count → AllWithin count (by_source k froms tos ss)
within_all count k [] tos ss upto = tt
within_all count k (from ∷ froms) [] ss upto = tt
within_all count k (from ∷ froms) (to ∷ tos) [] upto = tt
within_all count k (from ∷ froms) (to ∷ tos) (s ∷ ss) upto =
    within_one count k (part from to s.committed) (by_source (suc k) froms tos ss) (omega (arith, upto)) (within_all count (suc k) froms tos ss (omega (arith, upto)))

-- source by source is an interleaving
pub interleaves : (ss : List Stream) (froms : List ℕ) (commits : List Commit) → length froms ≡ length ss → HaveOffsets (length ss) commits → Interleaves ss froms commits (by_commit froms commits ss)
interleaves ss froms [] f have = tt
interleaves ss froms (c ∷ commits) f have = (
  within_all (length ss) 0 froms c.offsets ss (omega arith),
  takes_from 0 froms c.offsets froms c.offsets ss [] f have.0 (rest_all froms) (rest_all c.offsets) (λ j upto. refl),
  interleaves ss c.offsets commits have.0 have.1,
)

-- ---- one more commit

-- it takes its parts behind the others
pub by_commit_more : (froms : List ℕ) (commits : List Commit) (c : Commit) (ss : List Stream)
    → by_commit froms (commits ++ c ∷ []) ss ≡ by_commit froms commits ss ++ by_source 0 (last_offsets froms commits) c.offsets ss ∷ []
by_commit_more froms [] c ss = refl
by_commit_more froms (d ∷ commits) c ss = ap (λ (order : List (List Taken)). by_source 0 froms d.offsets ss ∷ order) (by_commit_more d.offsets commits c ss)

pub joined_more : (order : List (List Taken)) (ts : List Taken) → joined (order ++ ts ∷ []) ≡ joined order ++ ts
joined_more [] ts = append-nil ts
joined_more (us ∷ order) ts = ap (λ (xs : List Taken). us ++ xs) (joined_more order ts) ∙ sym (append_assoc us (joined order) ts)

pub last_offsets_more : (froms : List ℕ) (commits : List Commit) (c : Commit) → last_offsets froms (commits ++ c ∷ []) ≡ c.offsets
last_offsets_more froms [] c = refl
last_offsets_more froms (d ∷ commits) c = last_offsets_more d.offsets commits c

pub last_state_more : (state : _) (commits : List Commit) (c : Commit) → last_state state (commits ++ c ∷ []) ≡ c.state
last_state_more state [] c = refl
last_state_more state (d ∷ commits) c = last_state_more d.state commits c

pub have_more : (count : ℕ) (commits : List Commit) (c : Commit) → HaveOffsets count commits → length c.offsets ≡ count → HaveOffsets count (commits ++ c ∷ [])
have_more count [] c have long = (long, tt)
have_more count (d ∷ commits) c have long = (have.0, have_more count commits c have.1 long)

-- there is a state for each commit
pub folds_more : (app : AppKind) (read : List Taken) (commits : List Commit) (c : Commit) (froms : List ℕ) (ss : List Stream) (ts : List Taken) → AreFolds app read commits (by_commit froms commits ss)
    → c.state ≡ folded app [] (messages_in ((read ++ joined (by_commit froms commits ss)) ++ ts)) → AreFolds app read (commits ++ c ∷ []) (by_commit froms commits ss ++ ts ∷ [])
folds_more app read [] c froms ss ts are is =
    (is ∙ ap (λ (xs : List Taken). folded app [] (messages_in (xs ++ ts))) (append-nil read), tt)
folds_more app read (d ∷ commits) c froms ss ts are is =
    let us : List Taken = by_source 0 froms d.offsets ss in (
      are.0,
      folds_more app (read ++ us) commits c d.offsets ss ts are.1
          (is ∙ ap (λ (xs : List Taken). folded app [] (messages_in (xs ++ ts))) (sym (append_assoc read us (joined (by_commit d.offsets commits ss))))),
    )
