-- What a shard has read of its sources, and what a commit and longer journals make of it.
use Rattle.std.proofs.Common.{◌≡◌, ℕ, suc, ◌≤◌, List, [], ◌∷◌, ◌++◌, length, map, refl, ap, sym, ◌∙◌, subst, append_assoc, arith, false, nat_lt, nat_le, ◌&&◌}
use Rattle.std.proofs.lemmas.Grind.{common_steps}
use Rattle.std.specs.Prelude.{⊤}
use Rattle.std.proofs.lemmas.List.{append-nil, length-map, map-append}
use Rattle.gz_frame.specs.Messages.{Message}
use Rattle.gz_frame.specs.Release.{Release}
use Rattle.gz_sequencer.specs.Committed.{released_in}
use Rattle.gz_promise.specs.Parts.{part, read_of, last_from}
use Rattle.gz_promise.specs.Parts.{NeverFall}
use Rattle.gz_promise.specs.Journals.{Journal}
use Rattle.gz_promise.specs.Sources.{Source, end_of, committed, froms_of, ends_of, all_committed, parts, order_of, last_of}
use Rattle.gz_plain.specs.Running.{Upto, AllUpto}
use Rattle.gz_promise.specs.Promise.{offset_at}
use Rattle.gz_plain.proofs.Parts.{Within, within_two, within_wider, part_inside, part_before, part_after, part_two, order_same, order_more, last_more, never_fall_more, last_above, messages_two}
use Rattle.gz_plain.proofs.Growth.{Later, committed_within}
use Rattle.gz_plain.proofs.Longer.{Longer, later_any}

-- ---- one source

-- What is committed is a prefix that was read, up to the last offset, and the rest.
pub record Taken (from : ℕ) (offsets : List ℕ) (rs : List Release) (end : ℕ) : Type 0 where
  pub seen : List Release
  pub rest : List Release
  pub split : rs ≡ seen ++ rest
  pub before : Within from (last_from from offsets) seen
  pub behind : Within (last_from from offsets) end rest
  pub falls : NeverFall from offsets
  pub below : last_from from offsets ≤ end
  pub order : read_of from offsets rs ≡ released_in seen

-- nothing was read yet
pub taken_none : (js : List Journal) (s : Source) → Taken s.from [] (committed js s) (end_of js s)
taken_none js s = record {
  seen = [];
  rest = committed js s;
  split = refl;
  before = tt;
  behind = committed_within js s;
  falls = tt;
  below = omega arith;
  order = refl;
}

-- more is committed behind the end
pub taken_later : (from : ℕ) (offsets : List ℕ) (rs more : List Release) (end high : ℕ) → end ≤ high → Within end high more
    → Taken from offsets rs end → Taken from offsets (rs ++ more) high
taken_later from offsets rs more end high up within t = record {
  seen = t.seen;
  rest = t.rest ++ more;
  split = ap (λ (xs : List Release). xs ++ more) t.split ∙ append_assoc t.seen t.rest more;
  before = t.before;
  behind = within_two (last_from from offsets) high t.rest more (within_wider (last_from from offsets) end (last_from from offsets) high t.rest (omega arith) up t.behind)
      (within_wider end high (last_from from offsets) high more t.below (omega arith) within);
  falls = t.falls;
  below = omega (arith, t.below);
  order = order_same from offsets end high rs more t.falls t.below within ∙ t.order;
}

-- the part behind the last offset is the rest
pub part_rest : (from : ℕ) (offsets : List ℕ) (rs : List Release) (end : ℕ) (t : Taken from offsets rs end) → part (last_from from offsets) end rs ≡ released_in t.rest
part_rest from offsets rs end t =
    let last : ℕ = last_from from offsets in
    ap (λ (xs : List Release). part last end xs) t.split
    ∙ part_two last end t.seen t.rest
    ∙ rw (part_before from last last end t.seen (omega arith) t.before, part_inside last end t.rest t.behind) refl

-- what was read and what is left is all that is committed
pub all_read : (from : ℕ) (offsets : List ℕ) (rs : List Release) (end : ℕ) → Taken from offsets rs end
    → read_of from offsets rs ++ part (last_from from offsets) end rs ≡ released_in rs
all_read from offsets rs end t =
    rw (t.order, part_rest from offsets rs end t) (sym (messages_two t.seen t.rest) ∙ ap (λ (xs : List Release). released_in xs) (sym t.split))

-- a commit up to the end
pub taken_more : (from : ℕ) (offsets : List ℕ) (rs : List Release) (end : ℕ) → Taken from offsets rs end → Taken from (offsets ++ end ∷ []) rs end
taken_more from offsets rs end t =
    let last : last_from from (offsets ++ end ∷ []) ≡ end = last_more from offsets end in
    let low : from ≤ last_from from offsets = last_above from offsets t.falls in
    record {
      seen = rs;
      rest = [];
      split = sym (append-nil rs);
      before = subst (λ (n : ℕ). Within from n rs) (sym last) (subst (λ (xs : List Release). Within from end xs) (sym t.split)
          (within_two from end t.seen t.rest (within_wider from (last_from from offsets) from end t.seen (omega arith) t.below t.before)
          (within_wider (last_from from offsets) end from end t.rest low (omega arith) t.behind)));
      behind = tt;
      falls = never_fall_more from offsets end t.falls t.below;
      below = omega (arith, last);
      order = order_more from offsets end rs ∙ all_read from offsets rs end t;
    }

-- ---- all sources

-- the offsets of a source in the commits
abbrev pub column : ℕ → List (List ℕ) → List ℕ
column k commits = map (λ tos. offset_at k tos) commits

-- the same of each source, from this number on
abbrev pub AllTaken : ℕ → List Journal → List Source → List (List ℕ) → Type 0
AllTaken k js [] commits = ⊤
AllTaken k js (s ∷ ss) commits = Taken s.from (column k commits) (committed js s) (end_of js s) × AllTaken (suc k) js ss commits

pub none_taken : (k : ℕ) (js : List Journal) (ss : List Source) → AllTaken k js ss []
none_taken k js [] = tt
none_taken k js (s ∷ ss) = (taken_none js s, none_taken (suc k) js ss)

pub all_later : (k : ℕ) (js new : List Journal) (ss : List Source) (commits : List (List ℕ)) → Longer js new → AllTaken k js ss commits → AllTaken k new ss commits
all_later k js new [] commits longer t = tt
all_later k js new (s ∷ ss) commits longer t =
    let l : Later js new s = later_any js new s longer in (
      subst (λ (rs : List Release). Taken s.from (column k commits) rs (end_of new s)) (sym l.joined)
          (taken_later s.from (column k commits) (committed js s) l.more (end_of js s) (end_of new s) l.further l.behind t.0),
      all_later (suc k) js new ss commits longer t.1,
    )

-- the offsets, from this number on, are the ends of these sources
abbrev pub AreEnds : ℕ → List Journal → List ℕ → List Source → Type 0
AreEnds k js tos [] = ⊤
AreEnds k js tos (s ∷ ss) = (offset_at k tos ≡ end_of js s) × AreEnds (suc k) js tos ss

ends_behind : (k to : ℕ) (js : List Journal) (tos : List ℕ) (ss : List Source) → AreEnds k js tos ss → AreEnds (suc k) js (to ∷ tos) ss
ends_behind k to js tos [] are = tt
ends_behind k to js tos (s ∷ ss) are = (are.0, ends_behind (suc k) to js tos ss are.1)

are_ends : (js : List Journal) (ss : List Source) → AreEnds 0 js (ends_of js ss) ss
are_ends js [] = tt
are_ends js (s ∷ ss) = (refl, ends_behind 0 (end_of js s) js (ends_of js ss) ss (are_ends js ss))

more_from : (k : ℕ) (js : List Journal) (tos : List ℕ) (ss : List Source) (commits : List (List ℕ)) → AreEnds k js tos ss → AllTaken k js ss commits → AllTaken k js ss (commits ++ tos ∷ [])
more_from k js tos [] commits are t = tt
more_from k js tos (s ∷ ss) commits are t = (
  subst (λ (os : List ℕ). Taken s.from os (committed js s) (end_of js s))
      (ap (λ (to : ℕ). column k commits ++ to ∷ []) (sym are.0) ∙ sym (map-append (λ os. offset_at k os) commits (tos ∷ [])))
      (taken_more s.from (column k commits) (committed js s) (end_of js s) t.0),
  more_from (suc k) js tos ss commits are.1 t.1,
)

pub all_more : (js : List Journal) (ss : List Source) (commits : List (List ℕ)) → AllTaken 0 js ss commits → AllTaken 0 js ss (commits ++ ends_of js ss ∷ [])
all_more js ss commits t = more_from 0 js (ends_of js ss) ss commits (are_ends js ss) t

-- ---- the read order

upto_later : (js new : List Journal) (tos : List ℕ) (ss : List Source) → Longer js new → Upto js tos ss → Upto new tos ss
upto_later js new [] ss longer u = tt
upto_later js new (to ∷ tos) [] longer u = tt
upto_later js new (to ∷ tos) (s ∷ ss) longer u =
    let l : Later js new s = later_any js new s longer in
    (omega (arith, u.0, l.further), upto_later js new tos ss longer u.1)

pub all_upto_later : (js new : List Journal) (commits : List (List ℕ)) (ss : List Source) → Longer js new → AllUpto js commits ss → AllUpto new commits ss
all_upto_later js new [] ss longer u = tt
all_upto_later js new (tos ∷ commits) ss longer u = (upto_later js new tos ss longer u.0, all_upto_later js new commits ss longer u.1)

pub upto_ends : (js : List Journal) (ss : List Source) → Upto js (ends_of js ss) ss
upto_ends js [] = tt
upto_ends js (s ∷ ss) = (omega arith, upto_ends js ss)

pub all_upto_more : (js : List Journal) (commits : List (List ℕ)) (ss : List Source) (tos : List ℕ) → Upto js tos ss → AllUpto js commits ss → AllUpto js (commits ++ tos ∷ []) ss
all_upto_more js [] ss tos u a = (u, tt)
all_upto_more js (c ∷ commits) ss tos u a = (a.0, all_upto_more js commits ss tos u a.1)

parts_later : (js new : List Journal) (froms tos : List ℕ) (ss : List Source) → Longer js new → Upto js tos ss → parts froms tos (all_committed new ss) ≡ parts froms tos (all_committed js ss)
parts_later js new [] tos ss longer u = refl
parts_later js new (from ∷ froms) [] ss longer u = refl
parts_later js new (from ∷ froms) (to ∷ tos) [] longer u = refl
parts_later js new (from ∷ froms) (to ∷ tos) (s ∷ ss) longer u =
    let l : Later js new s = later_any js new s longer in
    let one : part from to (committed new s) ≡ part from to (committed js s) =
    ap (λ (rs : List Release). part from to rs) l.joined ∙ part_two from to (committed js s) l.more
    ∙ rw (part_after (end_of js s) (end_of new s) from to l.more u.0 l.behind) (append-nil (part from to (committed js s))) in
    rw (one, parts_later js new froms tos ss longer u.1) refl

-- longer journals leave the read order
pub order_later : (js new : List Journal) (froms : List ℕ) (commits : List (List ℕ)) (ss : List Source) → Longer js new → AllUpto js commits ss
    → order_of froms commits (all_committed new ss) ≡ order_of froms commits (all_committed js ss)
order_later js new froms [] ss longer u = refl
order_later js new froms (tos ∷ commits) ss longer u =
    rw (parts_later js new froms tos ss longer u.0, order_later js new tos commits ss longer u.1) refl

-- one more commit adds its parts
pub orders_more : (froms : List ℕ) (commits : List (List ℕ)) (tos : List ℕ) (rss : List (List Release))
    → order_of froms (commits ++ tos ∷ []) rss ≡ order_of froms commits rss ++ parts (last_of froms commits) tos rss
orders_more froms [] tos rss = append-nil (parts froms tos rss)
orders_more froms (c ∷ commits) tos rss =
    ap (λ (ms : List Message). parts froms c rss ++ ms) (orders_more c commits tos rss)
    ∙ sym (append_assoc (parts froms c rss) (order_of c commits rss) (parts (last_of c commits) tos rss))

-- ---- commits have an offset for each source

abbrev pub Shaped : List ℕ → List Source → Type 0
Shaped tos ss = length tos ≡ length ss

abbrev pub AllShaped : List (List ℕ) → List Source → Type 0
AllShaped [] ss = ⊤
AllShaped (tos ∷ commits) ss = Shaped tos ss × AllShaped commits ss

pub shaped_ends : (js : List Journal) (ss : List Source) → Shaped (ends_of js ss) ss
shaped_ends js ss = length-map ss (λ s. end_of js s)

pub shaped_froms : (ss : List Source) → Shaped (froms_of ss) ss
shaped_froms ss = length-map ss (λ s. s.from)

pub all_shaped_more : (commits : List (List ℕ)) (ss : List Source) (tos : List ℕ) → Shaped tos ss → AllShaped commits ss → AllShaped (commits ++ tos ∷ []) ss
all_shaped_more [] ss tos t a = (t, tt)
all_shaped_more (c ∷ commits) ss tos t a = (a.0, all_shaped_more commits ss tos t a.1)

shaped_last : (froms : List ℕ) (commits : List (List ℕ)) (ss : List Source) → Shaped froms ss → AllShaped commits ss → Shaped (last_of froms commits) ss
shaped_last froms [] ss f a = f
shaped_last froms (c ∷ commits) ss f a = shaped_last c commits ss a.0 a.1

-- ---- where nothing is left to take

pub append_none : (xs ys : List Message) → xs ++ ys ≡ [] → (xs ≡ []) × (ys ≡ [])
append_none [] ys none = (refl, none)
append_none (x ∷ xs) ys none = cc

-- the last offset of a source
last_column : (k : ℕ) (froms : List ℕ) (commits : List (List ℕ)) → offset_at k (last_of froms commits) ≡ last_from (offset_at k froms) (column k commits)
last_column k froms [] = refl
last_column k froms (c ∷ commits) = last_column k c commits

-- of each source, from this number on, what is released between two offsets is nothing
abbrev pub NoParts : ℕ → List Journal → List ℕ → List Source → Type 0
NoParts k js froms [] = ⊤
NoParts k js froms (s ∷ ss) = (part (offset_at k froms) (end_of js s) (committed js s) ≡ []) × NoParts (suc k) js froms ss

parts_behind : (k from : ℕ) (js : List Journal) (froms : List ℕ) (ss : List Source) → NoParts k js froms ss → NoParts (suc k) js (from ∷ froms) ss
parts_behind k from js froms [] none = tt
parts_behind k from js froms (s ∷ ss) none = (none.0, parts_behind (suc k) from js froms ss none.1)

no_parts : (js : List Journal) (froms : List ℕ) (ss : List Source) → Shaped froms ss → parts froms (ends_of js ss) (all_committed js ss) ≡ [] → NoParts 0 js froms ss
no_parts js froms [] shape none = tt
no_parts js [] (s ∷ ss) shape none = absurd (omega (arith, shape))
no_parts js (from ∷ froms) (s ∷ ss) shape none =
    let both = append_none (part from (end_of js s) (committed js s)) (parts froms (ends_of js ss) (all_committed js ss)) none in
    (both.0, parts_behind 0 from js froms ss (no_parts js froms ss (omega (arith, shape)) both.1))

parts_empty : (js : List Journal) (froms : List ℕ) (ss : List Source) → Shaped froms ss → NoParts 0 js froms ss → parts froms (ends_of js ss) (all_committed js ss) ≡ []
parts_empty js [] ss shape none = refl
parts_empty js (from ∷ froms) [] shape none = refl
parts_empty js (from ∷ froms) (s ∷ ss) shape none =
    rw (none.0) (parts_empty js froms ss (omega (arith, shape)) (before 0 from js froms ss none.1))
  where
    before : (k from : ℕ) (js : List Journal) (froms : List ℕ) (ss : List Source) → NoParts (suc k) js (from ∷ froms) ss → NoParts k js froms ss
    before k from js froms [] none = tt
    before k from js froms (s ∷ ss) none = (none.0, before (suc k) from js froms ss none.1)

-- of each source, from this number on, all is read
abbrev pub ReadsColumns : ℕ → List Journal → List Source → List (List ℕ) → Type 0
ReadsColumns k js [] commits = ⊤
ReadsColumns k js (s ∷ ss) commits = (read_of s.from (column k commits) (committed js s) ≡ released_in (committed js s)) × ReadsColumns (suc k) js ss commits

-- the offsets, from this number on, are those from which the sources are read
abbrev pub AreFroms : ℕ → List ℕ → List Source → Type 0
AreFroms k froms [] = ⊤
AreFroms k froms (s ∷ ss) = (offset_at k froms ≡ s.from) × AreFroms (suc k) froms ss

froms_behind : (k from : ℕ) (froms : List ℕ) (ss : List Source) → AreFroms k froms ss → AreFroms (suc k) (from ∷ froms) ss
froms_behind k from froms [] are = tt
froms_behind k from froms (s ∷ ss) are = (are.0, froms_behind (suc k) from froms ss are.1)

pub are_froms : (ss : List Source) → AreFroms 0 (froms_of ss) ss
are_froms [] = tt
are_froms (s ∷ ss) = (refl, froms_behind 0 s.from (froms_of ss) ss (are_froms ss))

columns_read : (k : ℕ) (js : List Journal) (froms : List ℕ) (ss : List Source) (commits : List (List ℕ)) → AreFroms k froms ss → AllTaken k js ss commits → NoParts k js (last_of froms commits) ss
    → ReadsColumns k js ss commits
columns_read k js froms [] commits are t none = tt
columns_read k js froms (s ∷ ss) commits are t none =
    let os : List ℕ = column k commits in
    let last : offset_at k (last_of froms commits) ≡ last_from s.from os = last_column k froms commits ∙ ap (λ (from : ℕ). last_from from os) are.0 in
    let left : part (last_from s.from os) (end_of js s) (committed js s) ≡ [] = ap (λ (n : ℕ). part n (end_of js s) (committed js s)) (sym last) ∙ none.0 in (
      sym (append-nil (read_of s.from os (committed js s)))
          ∙ ap (λ (ms : List Message). read_of s.from os (committed js s) ++ ms) (sym left)
          ∙ all_read s.from os (committed js s) (end_of js s) t.0,
      columns_read (suc k) js froms ss commits are.1 t.1 none.1,
    )

-- where nothing is left to take, each source has been read whole
pub reads_columns : (js : List Journal) (ss : List Source) (commits : List (List ℕ)) → AllShaped commits ss → AllTaken 0 js ss commits
    → parts (last_of (froms_of ss) commits) (ends_of js ss) (all_committed js ss) ≡ [] → ReadsColumns 0 js ss commits
reads_columns js ss commits a t none =
    columns_read 0 js (froms_of ss) ss commits (are_froms ss) t
    (no_parts js (last_of (froms_of ss) commits) ss (shaped_last (froms_of ss) commits ss (shaped_froms ss) a) none)

no_more : (xs ys : List Message) → xs ++ ys ≡ xs → ys ≡ []
no_more [] ys same = same
no_more (x ∷ xs) ys same = no_more xs ys (cc)

columns_left : (k : ℕ) (js : List Journal) (froms : List ℕ) (ss : List Source) (commits : List (List ℕ)) → AreFroms k froms ss → AllTaken k js ss commits → ReadsColumns k js ss commits
    → NoParts k js (last_of froms commits) ss
columns_left k js froms [] commits are t read = tt
columns_left k js froms (s ∷ ss) commits are t read =
    let os : List ℕ = column k commits in
    let last : offset_at k (last_of froms commits) ≡ last_from s.from os = last_column k froms commits ∙ ap (λ (from : ℕ). last_from from os) are.0 in
    let left : part (last_from s.from os) (end_of js s) (committed js s) ≡ [] =
    no_more (read_of s.from os (committed js s)) (part (last_from s.from os) (end_of js s) (committed js s)) (all_read s.from os (committed js s) (end_of js s) t.0 ∙ sym read.0) in
    (ap (λ (n : ℕ). part n (end_of js s) (committed js s)) last ∙ left, columns_left (suc k) js froms ss commits are.1 t.1 read.1)

-- and where each source has been read whole, nothing is left to take
pub nothing_left : (js : List Journal) (ss : List Source) (commits : List (List ℕ)) → AllShaped commits ss → AllTaken 0 js ss commits → ReadsColumns 0 js ss commits
    → parts (last_of (froms_of ss) commits) (ends_of js ss) (all_committed js ss) ≡ []
nothing_left js ss commits a t read =
    parts_empty js (last_of (froms_of ss) commits) ss (shaped_last (froms_of ss) commits ss (shaped_froms ss) a)
    (columns_left 0 js (froms_of ss) ss commits (are_froms ss) t read)

-- ---- nothing is left between an offset and itself

no_between : (at end : ℕ) → (nat_lt at end && nat_le end at) ≡ false
no_between at end = grind (arith, common_steps)

pub part_none : (at : ℕ) (rs : List Release) → part at at rs ≡ []
part_none at [] = refl
part_none at (r ∷ rs) = rw (no_between at r.end) (part_none at rs)

pub parts_none : (tos : List ℕ) (rss : List (List Release)) → parts tos tos rss ≡ []
parts_none [] rss = refl
parts_none (to ∷ tos) [] = refl
parts_none (to ∷ tos) (rs ∷ rss) = rw (part_none to rs) (parts_none tos rss)

pub last_is_more : (froms : List ℕ) (commits : List (List ℕ)) (tos : List ℕ) → last_of froms (commits ++ tos ∷ []) ≡ tos
last_is_more froms [] tos = refl
last_is_more froms (c ∷ commits) tos = last_is_more c commits tos
