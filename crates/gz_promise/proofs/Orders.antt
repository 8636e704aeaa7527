-- What a read order has of each source is what the offsets have read of it.
use Rattle.std.proofs.Common.{◌≡◌, ℕ, suc, ◌==◌, List, [], ◌∷◌, ◌++◌, filter, refl, ap, sym, ◌∙◌}
use Rattle.std.specs.Prelude.{⊤}
use Rattle.std.proofs.lemmas.List.{map-append}
use Rattle.std.proofs.lemmas.List.Elements.{filter-append}
use Rattle.gz_promise.specs.Accounts.{Account, Commit, Stream, starts_of}
use Rattle.gz_promise.specs.Parts.{read_of}
use Rattle.gz_promise.specs.Promise.{AreRead, ExactlyOnce, Interleaves, NothingCommitted, ReadsAll, ReadsEach, Taken, TakesParts, joined, messages_in, of_source, offset_at, offsets_at, read_order}

-- one source's messages of two lists
pub of_source_two : (k : ℕ) (xs ys : List Taken) → of_source k (xs ++ ys) ≡ of_source k xs ++ of_source k ys
of_source_two k xs ys =
    ap (λ (ts : List Taken). messages_in ts) (filter-append (λ t. t.source == k) xs ys)
    ∙ map-append (λ t. t.message) (filter (λ t. t.source == k) xs) (filter (λ t. t.source == k) ys)

-- of each source, from this number on, what was read is what the offsets have read of it
abbrev pub AllRead : ℕ → List ℕ → List Commit → List Stream → List Taken → Type 0
AllRead k froms commits [] read = ⊤
AllRead k froms commits (s ∷ ss) read =
    (of_source k read ≡ read_of (offset_at k froms) (offsets_at k commits) s.committed) × AllRead (suc k) froms commits ss read

read_none : (k : ℕ) (froms : List ℕ) (ss : List Stream) → AllRead k froms [] ss []
read_none k froms [] = tt
read_none k froms (s ∷ ss) = (refl, read_none (suc k) froms ss)

read_more : (k : ℕ) (froms : List ℕ) (c : Commit) (commits : List Commit) (ss : List Stream) (ts read : List Taken) → TakesParts k froms c.offsets ss ts → AllRead k c.offsets commits ss read
    → AllRead k froms (c ∷ commits) ss (ts ++ read)
read_more k froms c commits [] ts read takes rest = tt
read_more k froms c commits (s ∷ ss) ts read takes rest =
    (of_source_two k ts read ∙ rw (takes.0, rest.0) refl, read_more (suc k) froms c commits ss ts read takes.1 rest.1)

pub all_read : (sources : List Stream) (froms : List ℕ) (commits : List Commit) (order : List (List Taken)) → Interleaves sources froms commits order
    → AllRead 0 froms commits sources (joined order)
all_read sources froms [] [] is = read_none 0 froms sources
all_read sources froms [] (ts ∷ order) is = absurd is
all_read sources froms (c ∷ commits) [] is = absurd is
all_read sources froms (c ∷ commits) (ts ∷ order) is =
    read_more 0 froms c commits sources ts (joined order) is.1 (all_read sources c.offsets commits order is.2)

-- ---- from where each source is read

-- the offsets, from this number on, are those from which the sources are read
abbrev pub AreStarts : ℕ → List ℕ → List Stream → Type 0
AreStarts k froms [] = ⊤
AreStarts k froms (s ∷ ss) = (offset_at k froms ≡ s.from) × AreStarts (suc k) froms ss

starts_behind : (k from : ℕ) (froms : List ℕ) (ss : List Stream) → AreStarts k froms ss → AreStarts (suc k) (from ∷ froms) ss
starts_behind k from froms [] are = tt
starts_behind k from froms (s ∷ ss) are = (are.0, starts_behind (suc k) from froms ss are.1)

pub are_starts : (ss : List Stream) → AreStarts 0 (starts_of ss) ss
are_starts [] = tt
are_starts (s ∷ ss) = (refl, starts_behind 0 s.from (starts_of ss) ss (are_starts ss))

-- the same, by where each source begins
pub from_starts : (k : ℕ) (froms : List ℕ) (commits : List Commit) (ss : List Stream) (read : List Taken) → AreStarts k froms ss → AllRead k froms commits ss read → AreRead k commits ss read
from_starts k froms commits [] read are all = tt
from_starts k froms commits (s ∷ ss) read are all =
    (all.0 ∙ ap (λ (from : ℕ). read_of from (offsets_at k commits) s.committed) are.0, from_starts (suc k) froms commits ss read are.1 all.1)

pub are_read : (a : Account) (once : ExactlyOnce a) → AreRead 0 a.commits a.sources (read_order a once)
are_read a once =
    from_starts 0 (starts_of a.sources) a.commits a.sources (joined once.order) (are_starts a.sources)
    (all_read a.sources (starts_of a.sources) a.commits once.order once.interleaves)

-- ---- a shard at rest

nothing_of : (k : ℕ) (commits : List Commit) (ss : List Stream) → AreRead k commits ss [] → ReadsEach k ss commits → NothingCommitted ss
nothing_of k commits [] are each = tt
nothing_of k commits (s ∷ ss) are each = (sym each.0 ∙ sym are.0, nothing_of (suc k) commits ss are.1 each.1)

-- where all is read and the read order is empty, nothing was committed
pub nothing_committed : (a : Account) (once : ExactlyOnce a) → ReadsAll a → read_order a once ≡ [] → NothingCommitted a.sources
nothing_committed a once all none =
    nothing_of 0 a.commits a.sources (subst_read (read_order a once) [] none (are_read a once)) all
  where
    subst_read : (xs ys : List Taken) → xs ≡ ys → AreRead 0 a.commits a.sources xs → AreRead 0 a.commits a.sources ys
    subst_read xs ys same are = rw (← same) are
