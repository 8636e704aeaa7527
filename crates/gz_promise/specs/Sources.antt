-- What a shard reads: journals, each from an offset on.
use Rattle.std.specs.Prelude.{◌≡◌, ℕ, ◌≤◌, ◌+◌, ◌-◌, List, [], ◌∷◌, ◌++◌, length, take, drop, map, true, ⊤}
use Rattle.gz_frame.specs.Messages.{Message}
use Rattle.gz_frame.specs.Release.{Release}
use Rattle.gz_frame.specs.Text.{is_whole}
use Rattle.gz_sequencer.specs.Committed as sequencer
use Rattle.gz_promise.specs.Parts.{part}
use Rattle.gz_promise.specs.Journals.{Journal, text_of}

-- a source: a journal, and the offset from which it is read
pub record Source : Type 0 where
  pub journal : List ℕ
  pub from : ℕ

-- the text of a source, from its offset on
abbrev pub text_from : List Journal → Source → List ℕ
text_from js s = drop s.from (text_of s.journal js)

-- the end of a source; where its journal ends before the offset, that offset
abbrev pub end_of : List Journal → Source → ℕ
end_of js s = s.from + length (text_from js s)

-- The offset is the end of a whole line of a source, or the offset from which it is read: what stands before it is whole
-- lines.
pub record EndsLine (js : List Journal) (to : ℕ) (s : Source) : Type 0 where
  pub upto : to ≤ end_of js s
  pub whole : is_whole (take (to - s.from) (text_from js s)) ≡ true

-- the same of an offset for each source, and of those of commits
abbrev pub EndLines : List Journal → List ℕ → List Source → Type 0
EndLines js [] ss = ⊤
EndLines js (to ∷ tos) [] = ⊤
EndLines js (to ∷ tos) (s ∷ ss) = EndsLine js to s × EndLines js tos ss

abbrev pub AllEndLines : List Journal → List (List ℕ) → List Source → Type 0
AllEndLines js [] ss = ⊤
AllEndLines js (tos ∷ commits) ss = EndLines js tos ss × AllEndLines js commits ss

-- the committed messages of a source
abbrev pub committed : List Journal → Source → List Release
committed js s = sequencer.committed s.from (text_from js s)

-- where each source begins, where each ends, and what each has committed
abbrev pub froms_of : List Source → List ℕ
froms_of sources = map (λ s. s.from) sources

abbrev pub ends_of : List Journal → List Source → List ℕ
ends_of js sources = map (λ s. end_of js s) sources

abbrev pub all_committed : List Journal → List Source → List (List Release)
all_committed js sources = map (λ s. committed js s) sources

-- of each source in turn, what is released by lines that end between two offsets
abbrev pub parts : List ℕ → List ℕ → List (List Release) → List Message
parts [] tos rss = []
parts (from ∷ froms) [] rss = []
parts (from ∷ froms) (to ∷ tos) [] = []
parts (from ∷ froms) (to ∷ tos) (rs ∷ rss) = part from to rs ++ parts froms tos rss

-- The read order that the commits' offsets give: of each commit in turn, the parts of all sources.
abbrev pub order_of : List ℕ → List (List ℕ) → List (List Release) → List Message
order_of froms [] rss = []
order_of froms (tos ∷ commits) rss = parts froms tos rss ++ order_of tos commits rss

-- the offsets up to which the commits have read
abbrev pub last_of : List ℕ → List (List ℕ) → List ℕ
last_of froms [] = froms
last_of froms (tos ∷ commits) = last_of tos commits
