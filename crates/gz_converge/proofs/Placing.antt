-- What is placed.
use Rattle.std.proofs.Common.{◌≡◌, ℕ, ◌≤◌, List, [], ap, Bool, true, false, cond, refl, sym, ◌∙◌, subst, Option, Some, None, true≢false}
use Rattle.std.proofs.lemmas.Option.{none-some}
use Rattle.gz_alloc.specs.declared.problem.Item.{Item}
use Rattle.gz_alloc.specs.declared.problem.Member.{Member}
use Rattle.gz_alloc.specs.Names.{Asked, is_problem, IsFeasible, IsChoice, size, cut_capacity}
use Rattle.gz_alloc.proofs.Certificate.{no_placement_passes}
use Rattle.gz_converge.specs.Converged.{Pairs, IsPlaced}

-- the placement of a problem that has a cut of its size
pub placed_by_cut : (asked : Asked) → is_problem asked ≡ true → (now goal pairs : Pairs) (members : List (List ℕ)) (zones : Pairs)
    → IsFeasible asked pairs → cut_capacity asked members zones ≡ size asked pairs → IsChoice asked now goal pairs (size asked pairs) → IsPlaced asked now goal pairs
placed_by_cut asked ok now goal pairs members zones feasible cut choice = record {
  problem = λ _. record {
    feasible = feasible;
    most = λ others fits. subst (λ n. size asked others ≤ n) cut (no_placement_passes asked ok others fits members zones);
    choice = choice;
  };
  none = λ absent. absurd (true≢false (sym ok ∙ absent));
}

-- of what is no problem nothing is placed
pub nothing_placed : (asked : Asked) → is_problem asked ≡ false → (now goal : Pairs) → IsPlaced asked now goal []
nothing_placed asked absent now goal = record { problem = λ wanted. absurd (true≢false (sym wanted ∙ absent)); none = λ _. refl }

abbrev pub asked_of : List Item → List Member → Asked
asked_of items members = record { items = items; members = members }

abbrev or_else : Asked → Option Asked → Asked
or_else d None = d
or_else d (Some asked) = asked

-- the problem that is made of items and members is of these
pub asked_is : (items items2 : List Item) (members members2 : List Member) (p : Asked) → Some p ≡ cond (is_problem (asked_of items members)) (Some (asked_of items members)) None
    → items ≡ items2 → members ≡ members2 → p ≡ asked_of items2 members2
asked_is items items2 members members2 p made e f = at (is_problem (asked_of items members)) made ∙ (λ i. asked_of (e i) (f i))
  where
    at : (b : Bool) → Some p ≡ cond b (Some (asked_of items members)) None → p ≡ asked_of items members
    at true is = ap (or_else p) is
    at false is = absurd (none-some p (sym is))

-- the same placement of the same problem, from the same pairs
pub placed_as : (asked asked2 : Asked) (now now2 goal pairs : Pairs) → asked ≡ asked2 → now ≡ now2 → IsPlaced asked now goal pairs → IsPlaced asked2 now2 goal pairs
placed_as asked asked2 now now2 goal pairs e f placed = subst (λ (a : Asked). IsPlaced a now2 goal pairs) e (subst (λ (n : Pairs). IsPlaced asked n goal pairs) f placed)

-- what is made a problem is one
pub made_problem : (items : List Item) (members : List Member) (p : Asked) → Some p ≡ cond (is_problem (asked_of items members)) (Some (asked_of items members)) None → is_problem p ≡ true
made_problem items members p made = at (is_problem (asked_of items members)) refl made
  where
    at : (b : Bool) → is_problem (asked_of items members) ≡ b → Some p ≡ cond b (Some (asked_of items members)) None → is_problem p ≡ true
    at true e is = ap is_problem (ap (or_else p) is) ∙ e
    at false e is = absurd (none-some p (sym is))
