-- The journals' answer changes at most once.
use Rattle.std.proofs.Common.{◌≡◌, ℕ, ◌+◌, ◌≤◌, Bool, true, false, List, [], ◌∷◌, refl, ap, ◌∙◌, sym, subst, arith, cond, map, true≢false, ⊎_elim}
use Rattle.std.specs.Cmp.Lexicographic.{pointwise}
use Rattle.gz_spec.specs.Records.{JournalSpec}
use Rattle.gz_keyspace.specs.Keys.{same_key}
use Rattle.gz_keyspace.specs.Formats.{is_in}
use Rattle.gz_alloc.specs.declared.problem.Item.{Item}
use Rattle.gz_alloc.specs.Ascending.{ascending}
use Rattle.gz_alloc.specs.Names.{Asked, is_problem, greedy_pairs}
use Rattle.gz_converge.specs.declared.view.JournalView.{JournalView}
use Rattle.gz_converge.specs.declared.view.MemberView.{MemberView}
use Rattle.gz_converge.specs.Views.{View}
use Rattle.gz_converge.specs.Converged.{Pairs, holder, holders, is_of_kind, ids, journal_item, journals_asked, routes_now, IsGreatest, Converges}
use Rattle.gz_converge.specs.Steps.{Round, EachFollows, IsNext, AreRounds, same_pair, changes}
use Rattle.gz_converge.proofs.Leaving.{or_first, or_last, or_cases}
use Rattle.gz_converge.proofs.Moves.{Moves, follows_move}
use Rattle.gz_converge.proofs.Order.{routes_ascend}
use Rattle.gz_converge.proofs.Once.{list_itself, settled_next, changed_settles}

-- ---- from one round to the next

-- the brokers are members
brokers_joined : (ms : List MemberView) (id : List ℕ) → is_in id (ids (holders false ms)) ≡ true → is_in id (ids ms) ≡ true
brokers_joined [] id h = h
brokers_joined (m ∷ ms) id h = at (λ e. or_last (same_key id m.joined.spec.id) (is_in id (ids ms)) (brokers_joined ms id e)) (is_of_kind false m) h
  where
    at : (is_in id (ids (holders false ms)) ≡ true → is_in id (ids (m ∷ ms)) ≡ true) → (b : Bool) → is_in id (ids (cond b (m ∷ holders false ms) (holders false ms))) ≡ true → is_in id (ids (m ∷ ms)) ≡ true
    at rest true e = ⊎_elim
        (λ (f : same_key id m.joined.spec.id ≡ true). or_first (same_key id m.joined.spec.id) (is_in id (ids ms)) f)
        (λ (f : is_in id (ids (holders false ms)) ≡ true). rest f)
        (or_cases (same_key id m.joined.spec.id) (is_in id (ids (holders false ms))) e)
    at rest false e = rest e

abbrev item_of : JournalSpec → Item
item_of spec = record { name = spec.name; replicas = spec.replication }

same_items : (members : List (List ℕ)) (placed : Pairs) (olds news : List JournalView) → EachFollows members placed olds news → map journal_item news ≡ map journal_item olds
same_items members placed [] [] each = refl
same_items members placed [] (n ∷ ns) each = absurd each
same_items members placed (o ∷ os) [] each = absurd each
same_items members placed (o ∷ os) (n ∷ ns) each =
    let head : item_of n.spec ≡ item_of o.spec = ap item_of each.0.spec in
    let tail : map journal_item ns ≡ map journal_item os = same_items members placed os ns each.1 in
    λ i. head i ∷ tail i

same_asked : (r s : Round) → IsNext r s → journals_asked s.view ≡ journals_asked r.view
same_asked r s next =
    let items : map journal_item s.view.journals ≡ map journal_item r.view.journals = same_items (ids r.view.members) r.answer.goal r.view.journals s.view.journals next.journals in
    λ i. record { items = items i; members = map holder (holders false (next.members i)) }

abbrev routes_with : List MemberView → View → Pairs
routes_with members view = routes_now (record { journals = view.journals; shards = view.shards; members = members })

next_moves : (r s : Round) → IsNext r s → Moves (routes_now r.view) r.answer.goal (routes_now s.view)
next_moves r s next = subst (λ (ms : List MemberView). Moves (routes_now r.view) r.answer.goal (routes_with ms s.view)) (sym next.members)
    (follows_move (ids (holders false r.view.members)) (ids r.view.members) r.answer.goal r.view.journals s.view.journals (brokers_joined r.view.members) next.journals)

-- what is asked of the journals is this problem, and the answer is a greatest placement
abbrev IsAnswered : Asked → Pairs → Round → Type 0
IsAnswered asked goal r = IsGreatest asked (routes_now r.view) goal r.answer.goal

answered : (asked : Asked) → is_problem asked ≡ true → (goal : Pairs) (r : Round) → journals_asked r.view ≡ asked → Converges r.view goal r.answer → IsAnswered asked goal r
answered asked ok goal r is converges = subst (λ (a : Asked). IsAnswered a goal r) is (converges.journals.problem (ap is_problem is ∙ ok))

in_order : (asked : Asked) → is_problem asked ≡ true → (r : Round) → journals_asked r.view ≡ asked → ascending (routes_now r.view) ≡ true
in_order asked ok r is = routes_ascend r.view (ap is_problem is ∙ ok)

-- ---- counting

-- one where the pairs are others
abbrev differ : Pairs → Pairs → ℕ
differ p q = cond (pointwise same_pair p q) 0 1

same_here : (p q : Pairs) → p ≡ q → differ p q ≡ 0
same_here p q same = ap (λ (b : Bool). cond b 0 1) (subst (λ (k : Pairs). pointwise same_pair p k ≡ true) same (list_itself p))

sum_none : (m n : ℕ) → m ≡ 0 → n ≡ 0 → m + n ≡ 0
sum_none m n first second = omega (arith, first, second)

none_here : (p q : Pairs) (n : ℕ) → p ≡ q → n ≡ 0 → differ p q + n ≡ 0
none_here p q n same none = sum_none (differ p q) n (same_here p q same) none

abbrev step : Bool → ℕ
step b = cond b 0 1

step_most : (b : Bool) (n : ℕ) → (b ≡ true → n ≤ 1) → (b ≡ false → n ≡ 0) → step b + n ≤ 1
step_most true n wanted absent = let le : n ≤ 1 = wanted refl in omega (arith, le)
step_most false n wanted absent = let none : n ≡ 0 = absent refl in omega (arith, none)

-- from a greedy answer on, none changes
settled_rest : (asked : Asked) → is_problem asked ≡ true → (goal : Pairs) (r : Round) (rs : List Round) → journals_asked r.view ≡ asked → IsAnswered asked goal r
    → r.answer.goal ≡ greedy_pairs asked (routes_now r.view) → AreRounds (r ∷ rs) → changes (r ∷ rs) ≡ 0
settled_rest asked ok goal r [] is greatest settled rounds = refl
settled_rest asked ok goal r (s ∷ rs) is greatest settled rounds =
    none_here r.answer.goal s.answer.goal (changes (s ∷ rs)) (sym both.1) (settled_rest asked ok r.answer.goal s rs next_is next_greatest both.0 rounds.1)
  where
    next_is : journals_asked s.view ≡ asked
    next_is = same_asked r s rounds.0 ∙ is

    next_greatest : IsAnswered asked r.answer.goal s
    next_greatest = answered asked ok r.answer.goal s next_is rounds.0.converge

    both : (s.answer.goal ≡ greedy_pairs asked (routes_now s.view)) × (s.answer.goal ≡ r.answer.goal)
    both = settled_next asked ok (routes_now r.view) goal r.answer.goal (routes_now s.view) s.answer.goal (in_order asked ok r is) (in_order asked ok s next_is)
        greatest next_greatest (next_moves r s rounds.0) settled

changed : (p q : Pairs) → pointwise same_pair p q ≡ false → q ≡ p → ⊥
changed p q other same = true≢false (sym (subst (λ (k : Pairs). pointwise same_pair p k ≡ true) (sym same) (list_itself p)) ∙ other)

once : (asked : Asked) → is_problem asked ≡ true → (goal : Pairs) (r : Round) (rs : List Round) → journals_asked r.view ≡ asked → IsAnswered asked goal r
    → AreRounds (r ∷ rs) → changes (r ∷ rs) ≤ 1
once asked ok goal r [] is greatest rounds = omega arith
once asked ok goal r (s ∷ rs) is greatest rounds = step_most (pointwise same_pair r.answer.goal s.answer.goal) (changes (s ∷ rs))
    (λ (equal : pointwise same_pair r.answer.goal s.answer.goal ≡ true). once asked ok r.answer.goal s rs next_is next_greatest rounds.1)
    (λ (other : pointwise same_pair r.answer.goal s.answer.goal ≡ false). settled_rest asked ok r.answer.goal s rs next_is next_greatest
    (changed_settles asked ok (routes_now r.view) goal r.answer.goal (routes_now s.view) s.answer.goal (in_order asked ok s next_is) greatest next_greatest
    (changed r.answer.goal s.answer.goal other)) rounds.1)
  where
    next_is : journals_asked s.view ≡ asked
    next_is = same_asked r s rounds.0 ∙ is

    next_greatest : IsAnswered asked r.answer.goal s
    next_greatest = answered asked ok r.answer.goal s next_is rounds.0.converge

-- of what is no problem nothing is placed, each time
never : (asked : Asked) → is_problem asked ≡ false → (goal : Pairs) (r : Round) (rs : List Round) → journals_asked r.view ≡ asked → Converges r.view goal r.answer
    → AreRounds (r ∷ rs) → changes (r ∷ rs) ≡ 0
never asked absent goal r [] is converges rounds = refl
never asked absent goal r (s ∷ rs) is converges rounds =
    none_here r.answer.goal s.answer.goal (changes (s ∷ rs))
    (converges.journals.none (ap is_problem is ∙ absent) ∙ sym (rounds.0.converge.journals.none (ap is_problem (same_asked r s rounds.0 ∙ is) ∙ absent)))
    (never asked absent r.answer.goal s rs (same_asked r s rounds.0 ∙ is) rounds.0.converge rounds.1)

-- While members and specifications stay, the journals' answer changes at most once after the first converge.
pub changes_once : (goal : Pairs) (r : Round) (rs : List Round) → Converges r.view goal r.answer → AreRounds (r ∷ rs) → changes (r ∷ rs) ≤ 1
changes_once goal r rs converges rounds = at (is_problem (journals_asked r.view)) refl
  where
    at : (b : Bool) → is_problem (journals_asked r.view) ≡ b → changes (r ∷ rs) ≤ 1
    at true ok = once (journals_asked r.view) ok goal r rs refl (answered (journals_asked r.view) ok goal r refl converges) rounds
    at false absent = let none : changes (r ∷ rs) ≡ 0 = never (journals_asked r.view) absent goal r rs refl converges rounds in omega (arith, none)
