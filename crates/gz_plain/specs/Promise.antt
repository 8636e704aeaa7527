-- What is so of a plain shard, as an account, and the promise of every shard.
use Rattle.std.specs.Prelude.{ℕ, List, [], ◌∷◌, ◌++◌, map, Option, Some, None, ⊤}
use Rattle.gz_frame.specs.Messages.{Message}
use Rattle.gz_frame.specs.Release.{Release}
use Rattle.gz_app.specs.Applications.{Output}
use Rattle.gz_app.specs.States.{State}
use Rattle.gz_app.specs.declared.app.AppKind.{AppKind}
use Rattle.gz_promise.specs.Accounts.{Account, Commit, Stream}
use Rattle.gz_promise.specs.Applications.{folded}
use Rattle.gz_promise.specs.Clients.{ServesUsers}
use Rattle.gz_promise.specs.Outputs.{accepted_of}
use Rattle.gz_promise.specs.Promise.{Delivers}
use Rattle.gz_promise.specs.Journals.{Journal, text_of}
use Rattle.gz_plain.specs.Shards.{Past, Shard}
use Rattle.gz_promise.specs.Sources.{AllEndLines, Source, all_committed, committed, froms_of, parts}

-- its sources
abbrev pub streams_of : List Journal → List Source → List Stream
streams_of js sources = map (λ s. record { from = s.from; committed = committed js s }) sources

-- Its commits. A plain shard never goes back to an earlier one, and so keeps the last one's state alone, which is its store;
-- the state of an earlier one is the fold over what was read up to it.
abbrev pub commits_from : AppKind → State → List Message → List ℕ → List (List ℕ) → List (List Release) → List Commit
commits_from app store read froms [] rss = []
commits_from app store read froms (tos ∷ []) rss = record { offsets = tos; state = store } ∷ []
commits_from app store read froms (tos ∷ next ∷ commits) rss =
    record { offsets = tos; state = folded app [] (read ++ parts froms tos rss) }
    ∷ commits_from app store (read ++ parts froms tos rss) tos (next ∷ commits) rss

-- what readers of each output accept of its one producer
abbrev pub all_accepted : List Journal → List ℕ → List (List ℕ) → List (List Output)
all_accepted js producer outputs = map (λ name. accepted_of (producer ∷ []) (text_of name js)) outputs

abbrev pub account_of : List Journal → Shard → Account
account_of js s = record {
  app = s.app;
  sources = streams_of js s.sources;
  commits = commits_from s.app s.store [] (froms_of s.sources) s.commits (all_committed js s.sources);
  store = s.store;
  outputs = all_accepted js s.producer s.outputs;
}

-- This is said of a shard that kept the definition that it began with. Where earlier ones left it something, nothing is
-- said.
abbrev pub IfKept : Option Past → Type 0 → Type 0
IfKept None said = said
IfKept (Some past) said = ⊤

-- Every shard that kept its definition keeps the promise, and nothing is missing at the readers of its outputs.
abbrev pub AllExactlyOnce : List Journal → List Shard → Type 0
AllExactlyOnce js [] = ⊤
AllExactlyOnce js (s ∷ ss) = IfKept s.past (Delivers (account_of js s)) × AllExactlyOnce js ss

-- and there is one read order of which that and what its users read is so
pub record Serves (js : List Journal) (s : Shard) : Type 0 where
  pub delivers : Delivers (account_of js s)
  pub users : ServesUsers (account_of js s) delivers.once

abbrev pub AllServe : List Journal → List Shard → Type 0
AllServe js [] = ⊤
AllServe js (s ∷ ss) = IfKept s.past (Serves js s) × AllServe js ss

-- each offset that such a shard commits is the end of a whole line
abbrev pub AllCommitLines : List Journal → List Shard → Type 0
AllCommitLines js [] = ⊤
AllCommitLines js (s ∷ ss) = IfKept s.past (AllEndLines js s.commits s.sources) × AllCommitLines js ss
