-- The small runs, computed.
use Rattle.std.proofs.Common.{◌≡◌, ℕ, List, [], ◌∷◌, refl}
use Rattle.gz_once.specs.Runs

abbrev row : List ℕ → ℕ → List ℕ → Runs.Shown
row log store accepted = record { log = log; store = store; accepted = accepted }

whole_cycle : Runs.view_of Runs.whole_cycle ≡ row (1 ∷ 1 ∷ []) 5 (5 ∷ [])
whole_cycle = refl

crash_playing : Runs.view_of Runs.crash_playing ≡ row (2 ∷ []) 0 []
crash_playing = refl

crash_handing : Runs.view_of Runs.crash_handing ≡ row (2 ∷ 1 ∷ []) 0 []
crash_handing = refl

crash_publishing : Runs.view_of Runs.crash_publishing ≡ row (2 ∷ 2 ∷ 1 ∷ []) 5 (5 ∷ [])
crash_publishing = refl

crash_committing : Runs.view_of Runs.crash_committing ≡ row (2 ∷ 2 ∷ 1 ∷ []) 5 (5 ∷ [])
crash_committing = refl

crash_sending : Runs.view_of Runs.crash_sending ≡ row (2 ∷ 1 ∷ 1 ∷ []) 5 (5 ∷ [])
crash_sending = refl

crash_acking : Runs.view_of Runs.crash_acking ≡ row (2 ∷ 1 ∷ 1 ∷ []) 5 (5 ∷ [])
crash_acking = refl

race : Runs.view_of Runs.race ≡ row (2 ∷ 2 ∷ 1 ∷ []) 5 (5 ∷ [])
race = refl

no_answer : Runs.view_of Runs.no_answer ≡ row (2 ∷ 1 ∷ 1 ∷ []) 5 (5 ∷ [])
no_answer = refl

doubt : Runs.view_of Runs.doubt ≡ row (1 ∷ 1 ∷ 1 ∷ []) 12 (5 ∷ 12 ∷ [])
doubt = refl

last_open : Runs.view_of Runs.last_open ≡ row (1 ∷ 1 ∷ 1 ∷ []) 12 (5 ∷ [])
last_open = refl
