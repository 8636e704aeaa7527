-- What the proof knows beside the state: a history that no broker has. It is what makes two brokers' spools comparable,
-- since each spool is a prefix of the list of the epoch that its broker adopted, and each such list descends from an
-- earlier one, or from what the store had. All of it only goes on (`Grows`).
use Rattle.gz_lineage.specs.Marks.{Mark}
use Rattle.std.proofs.Common.{◌≡◌, ℕ, ◌<◌, ◌≤◌, List, Bool, true, ◌⊎◌}
use Rattle.gz_lineage.specs.Prefix.{IsPrefix}
use Rattle.gz_lineage.specs.Lists.{In}
use Rattle.gz_lineage.specs.Nodes.{Letter}

-- The key space's history, by epoch: whether its route was written, whether the sync key had it, its members, and what
-- the sync key had when it was written. Handover held then, which gives each epoch either a member that had adopted
-- that much (`witness`), or the word that it was begun where all was saved (`dead`): then the store had all of the
-- journal, to this end (`floor`), and this was the greatest open epoch (`low`).
pub record Keys : Type 0 where
  pub known : ℕ → Bool
  pub synced : ℕ → Bool
  pub lead : ℕ → ℕ
  pub others : ℕ → List ℕ
  pub opened : ℕ → ℕ
  pub witness : ℕ → ℕ
  pub dead : ℕ → Bool
  pub floor : ℕ → ℕ
  pub low : ℕ → ℕ
  pub latest : ℕ

-- The brokers' history. Of each broker what it promised and adopted (`prom`, `adop`), and how much it held in an epoch
-- when it was last in it (`ends`). Of each epoch its list, which is its primary's spool (`text`), how much of it was the
-- image that was adopted (`base`), whether its primary has chosen (`made`), and the epoch at which that list was begun
-- from the store, 0 where it descends from the empty one (`born`). Then the greatest open epoch, the acknowledged list,
-- the letters taken, and who has stopped.
pub record Ghost : Type 0 where
  pub prom : ℕ → ℕ
  pub adop : ℕ → ℕ
  pub ends : ℕ → ℕ → ℕ
  pub text : ℕ → List Mark
  pub base : ℕ → ℕ
  pub made : ℕ → Bool
  pub born : ℕ → ℕ
  pub top : ℕ
  pub journal : List Mark
  pub taken : List Letter
  pub gone : ℕ → Bool

abbrev pub IsMember : Keys → ℕ → ℕ → Type 0
IsMember K e m = (m ≡ K.lead e) ⊎ In m (K.others e)

-- History goes on: promises and ends get no less, lists only get longer, and what was once so stays. What a member held
-- in an epoch that it has left stays as it is (`frozen`): a promise of a later epoch is a promise to take nothing more.
pub record Grows (g h : Ghost) : Type 0 where
  pub prom : (m : ℕ) → g.prom m ≤ h.prom m
  pub adop : (m : ℕ) → g.adop m ≤ h.adop m
  pub ends : (m e : ℕ) → g.ends m e ≤ h.ends m e
  pub frozen : (m e : ℕ) → e < g.prom m → h.ends m e ≡ g.ends m e
  pub text : (e : ℕ) → IsPrefix (g.text e) (h.text e)
  pub made : (e : ℕ) → g.made e ≡ true → (h.made e ≡ true) × (h.base e ≡ g.base e) × (h.born e ≡ g.born e)
  pub top : g.top ≤ h.top
  pub journal : IsPrefix g.journal h.journal
  pub taken : (l : Letter) → In l g.taken → In l h.taken
  pub gone : (m : ℕ) → g.gone m ≡ true → h.gone m ≡ true

-- A step of broker n moves nothing but what n may move: its own numbers, the lists of epochs that it leads, and the
-- journal where its epoch is the greatest open one.
pub record Only (K : Keys) (n : ℕ) (g h : Ghost) : Type 0 where
  pub node : (m : ℕ) → (m ≡ n → ⊥) → (h.prom m ≡ g.prom m) × (h.adop m ≡ g.adop m) × ((e : ℕ) → h.ends m e ≡ g.ends m e)
  pub text : (e : ℕ) → (K.lead e ≡ n → ⊥) → (h.text e ≡ g.text e) × (h.made e ≡ g.made e)
  pub top : (K.lead h.top ≡ n → ⊥) → (h.top ≡ g.top) × (h.journal ≡ g.journal)
