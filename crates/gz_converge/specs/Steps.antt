-- Converges one after another, while members and specifications stay.
use Rattle.std.specs.Prelude.{◌≡◌, ℕ, ◌+◌, ◌&&◌, ◌⊎◌, List, [], ◌∷◌, Bool, Some, ⊤, if◌then◌else◌}
use Rattle.std.specs.Cmp.Lexicographic.{pointwise}
use Rattle.gz_keyspace.specs.Keys.{same_key}
use Rattle.gz_converge.specs.declared.view.JournalView.{JournalView}
use Rattle.gz_converge.specs.declared.answer.Converged.{Converged}
use Rattle.gz_converge.specs.Views.{View}
use Rattle.gz_converge.specs.Cases.{ids_in, next_route}
use Rattle.gz_converge.specs.Converged.{Pairs, ids, placed_on, Converges}

-- what a converge saw, and what it answered
pub record Round : Type 0 where
  pub view : View
  pub answer : Converged

-- A journal as the next converge sees it: of the same specification, with a route that is as it was or as this converge made it, and with any sync key.
pub record Follows (members : List (List ℕ)) (placed : Pairs) (old new : JournalView) : Type 0 where
  pub spec : new.spec ≡ old.spec
  pub route : (new.route ≡ old.route) ⊎ (next_route members (placed_on placed old.spec.name) old.route old.sync ≡ Some (ids_in new.route))

-- so it is with each journal
abbrev pub EachFollows : List (List ℕ) → Pairs → List JournalView → List JournalView → Type 0
EachFollows members placed [] [] = ⊤
EachFollows members placed [] (new ∷ news) = ⊥
EachFollows members placed (old ∷ olds) [] = ⊥
EachFollows members placed (old ∷ olds) (new ∷ news) = Follows members placed old new × EachFollows members placed olds news

-- the next converge: it sees the same members, and its goal is the answer before
pub record IsNext (old new : Round) : Type 0 where
  pub members : new.view.members ≡ old.view.members
  pub journals : EachFollows (ids old.view.members) old.answer.goal old.view.journals new.view.journals
  pub converge : Converges new.view old.answer.goal new.answer

-- each round is the next one of that before it
abbrev pub AreRounds : List Round → Type 0
AreRounds [] = ⊤
AreRounds (r ∷ []) = ⊤
AreRounds (r ∷ s ∷ rs) = IsNext r s × AreRounds (s ∷ rs)

abbrev pub same_pair : List ℕ × List ℕ → List ℕ × List ℕ → Bool
same_pair p q = same_key p.0 q.0 && same_key p.1 q.1

-- how often the journals' answer is another than that before
abbrev pub changes : List Round → ℕ
changes [] = 0
changes (r ∷ []) = 0
changes (r ∷ s ∷ rs) = (if pointwise same_pair r.answer.goal s.answer.goal then 0 else 1) + changes (s ∷ rs)
