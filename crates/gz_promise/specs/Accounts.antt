-- What is so of a shard at a moment, whatever machine runs it.
use Rattle.std.specs.Prelude.{ℕ, List, [], ◌∷◌, map}
use Rattle.gz_frame.specs.Release.{Release}
use Rattle.gz_app.specs.Applications.{Output}
use Rattle.gz_app.specs.States.{State}
use Rattle.gz_app.specs.declared.app.AppKind.{AppKind}

-- a source: the offset from which it is read, and what it has committed
pub record Stream : Type 0 where
  pub from : ℕ
  pub committed : List Release

-- A commit is a checkpoint, which is an offset for each source, and the application's state there.
pub record Commit : Type 0 where
  pub offsets : List ℕ
  pub state : State

-- the shard's application, its sources, its commits, its store, and what readers of each of its outputs accept of it
pub record Account : Type 0 where
  pub app : AppKind
  pub sources : List Stream
  pub commits : List Commit
  pub store : State
  pub outputs : List (List Output)

-- from where each source is read
abbrev pub starts_of : List Stream → List ℕ
starts_of sources = map (λ s. s.from) sources

-- the state of the last commit, and the empty one where there is none
abbrev pub last_state : State → List Commit → State
last_state state [] = state
last_state state (c ∷ commits) = last_state c.state commits
