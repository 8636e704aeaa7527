-- What a plain shard has come to is the promise of its account.
use Rattle.std.proofs.Common.{◌≡◌, ℕ, suc, ◌+◌, List, [], ◌∷◌, ◌++◌, length, map, refl, ap, sym, ◌∙◌, subst, append_assoc, append-nil, inr, arith}
use Rattle.std.specs.Prelude.{⊤, ◌⊎◌}
use Rattle.std.proofs.lemmas.List.{length-map, map-append}
use Rattle.gz_frame.specs.Messages.{Message}
use Rattle.gz_frame.specs.Release.{Release}
use Rattle.gz_app.specs.Applications.{Output}
use Rattle.gz_app.specs.States.{State}
use Rattle.gz_app.specs.declared.app.AppKind.{AppKind}
use Rattle.gz_sequencer.specs.Committed.{released_in}
use Rattle.gz_promise.specs.Accounts.{Account, Commit, Stream, last_state, starts_of}
use Rattle.gz_promise.specs.Applications.{emitted, folded}
use Rattle.gz_promise.specs.Outputs.{accepted_of}
use Rattle.gz_promise.specs.Parts.{NeverFall, last_from, part, read_of}
use Rattle.gz_promise.specs.Promise.{Accept, AcceptAll, AreFolds, AreRead, Delivers, ExactlyOnce, HaveOffsets, Interleaves, ReadPrefixes, ReadsAll, ReadsEach, Taken, earlier, emitted_by, joined, messages_in, of_source, offset_at, offsets_at}
use Rattle.gz_promise.proofs.BySource.{by_commit, by_source, interleaves, taken_of}
use Rattle.gz_promise.proofs.Orders.{all_read, are_starts, from_starts}
use Rattle.gz_promise.specs.Journals.{Journal, text_of}
use Rattle.gz_plain.specs.Promise.{account_of, all_accepted, commits_from, streams_of}
use Rattle.gz_plain.specs.Shards.{Shard, read_order, untaken}
use Rattle.gz_promise.specs.Sources.{Source, all_committed, committed, end_of, ends_of, froms_of, last_of, order_of, parts}
use Rattle.gz_plain.proofs.Takes as takes
use Rattle.gz_plain.proofs.Takes.{AllShaped, AllTaken, ReadsColumns, column, nothing_left, reads_columns, shaped_froms}

-- ---- the commits

-- their offsets
abbrev pub rows_of : List Commit → List (List ℕ)
rows_of commits = map (λ c. c.offsets) commits

rows_back : (app : AppKind) (store : State) (read : List Message) (froms : List ℕ) (rows : List (List ℕ)) (rss : List (List Release)) → rows_of (commits_from app store read froms rows rss) ≡ rows
rows_back app store read froms [] rss = refl
rows_back app store read froms (tos ∷ []) rss = refl
rows_back app store read froms (tos ∷ next ∷ rows) rss =
    ap (λ (more : List (List ℕ)). tos ∷ more) (rows_back app store (read ++ parts froms tos rss) tos (next ∷ rows) rss)

last_kept : (app : AppKind) (store first : State) (read : List Message) (froms tos : List ℕ) (rows : List (List ℕ)) (rss : List (List Release))
    → last_state first (commits_from app store read froms (tos ∷ rows) rss) ≡ store
last_kept app store first read froms tos [] rss = refl
last_kept app store first read froms tos (next ∷ rows) rss =
    last_kept app store (folded app [] (read ++ parts froms tos rss)) (read ++ parts froms tos rss) tos next rows rss

have : (count : ℕ) (commits : List Commit) (rows : List (List ℕ)) (ss : List Source) → rows_of commits ≡ rows → length ss ≡ count → AllShaped rows ss → HaveOffsets count commits
have count [] rows ss is long shaped = tt
have count (c ∷ commits) [] ss is long shaped = cc
have count (c ∷ commits) (tos ∷ rows) ss is long shaped =
    (ap (λ (os : List ℕ). length os) (first_row is) ∙ shaped.0 ∙ long, have count commits rows ss (more_rows is) long shaped.1)
  where
    first_row : c.offsets ∷ rows_of commits ≡ tos ∷ rows → c.offsets ≡ tos
    first_row same = cc

    more_rows : c.offsets ∷ rows_of commits ≡ tos ∷ rows → rows_of commits ≡ rows
    more_rows same = cc

-- ---- the read order

abbrev order_in : List Journal → Shard → List (List Taken)
order_in js s = by_commit (froms_of s.sources) (account_of js s).commits (streams_of js s.sources)

of_own : (k : ℕ) (ms : List Message) → messages_in (taken_of k ms) ≡ ms
of_own k [] = refl
of_own k (m ∷ ms) = ap (λ (xs : List Message). m ∷ xs) (of_own k ms)

in_source : (js : List Journal) (k : ℕ) (froms tos : List ℕ) (ss : List Source) → messages_in (by_source k froms tos (streams_of js ss)) ≡ parts froms tos (all_committed js ss)
in_source js k [] tos ss = refl
in_source js k (from ∷ froms) [] ss = refl
in_source js k (from ∷ froms) (to ∷ tos) [] = refl
in_source js k (from ∷ froms) (to ∷ tos) (s ∷ ss) =
    let ms : List Message = part from to (committed js s) in
    map-append (λ t. t.message) (taken_of k ms) (by_source (suc k) froms tos (streams_of js ss))
    ∙ rw (of_own k ms, in_source js (suc k) froms tos ss) refl

in_order : (js : List Journal) (froms : List ℕ) (commits : List Commit) (ss : List Source)
    → messages_in (joined (by_commit froms commits (streams_of js ss))) ≡ order_of froms (rows_of commits) (all_committed js ss)
in_order js froms [] ss = refl
in_order js froms (c ∷ commits) ss =
    map-append (λ t. t.message) (by_source 0 froms c.offsets (streams_of js ss)) (joined (by_commit c.offsets commits (streams_of js ss)))
    ∙ rw (in_source js 0 froms c.offsets ss, in_order js c.offsets commits ss) refl

-- ---- the states

with_parts : (js : List Journal) (read : List Taken) (before : List Message) (froms tos : List ℕ) (ss : List Source) → before ≡ messages_in read
    → messages_in (read ++ by_source 0 froms tos (streams_of js ss)) ≡ before ++ parts froms tos (all_committed js ss)
with_parts js read before froms tos ss is =
    map-append (λ t. t.message) read (by_source 0 froms tos (streams_of js ss)) ∙ rw (in_source js 0 froms tos ss, ← is) refl

are_folds : (js : List Journal) (app : AppKind) (store : State) (read : List Taken) (before : List Message) (froms : List ℕ) (rows : List (List ℕ)) (ss : List Source)
    → before ≡ messages_in read → store ≡ folded app [] (before ++ order_of froms rows (all_committed js ss))
    → AreFolds app read (commits_from app store before froms rows (all_committed js ss)) (by_commit froms (commits_from app store before froms rows (all_committed js ss)) (streams_of js ss))
are_folds js app store read before froms [] ss is kept = tt
are_folds js app store read before froms (tos ∷ []) ss is kept = (
  kept ∙ ap (λ (ms : List Message). folded app [] (before ++ ms)) (append-nil (parts froms tos (all_committed js ss)))
      ∙ ap (λ (ms : List Message). folded app [] ms) (sym (with_parts js read before froms tos ss is)),
  tt,
)
are_folds js app store read before froms (tos ∷ next ∷ rows) ss is kept =
    let rss : List (List Release) = all_committed js ss in
    let ms : List Message = parts froms tos rss in (
      ap (λ (xs : List Message). folded app [] xs) (sym (with_parts js read before froms tos ss is)),
      are_folds js app store (read ++ by_source 0 froms tos (streams_of js ss)) (before ++ ms) tos (next ∷ rows) ss (sym (with_parts js read before froms tos ss is))
          (kept ∙ ap (λ (xs : List Message). folded app [] xs) (sym (append_assoc before ms (order_of tos (next ∷ rows) rss)))),
    )

store_is : (js : List Journal) (app : AppKind) (store : State) (froms : List ℕ) (rows : List (List ℕ)) (ss : List Source) → store ≡ folded app [] (order_of froms rows (all_committed js ss))
    → store ≡ last_state [] (commits_from app store [] froms rows (all_committed js ss))
store_is js app store froms [] ss kept = kept
store_is js app store froms (tos ∷ rows) ss kept = sym (last_kept app store [] [] froms tos rows (all_committed js ss))

-- ---- the sources

columns : (k : ℕ) (commits : List Commit) → offsets_at k commits ≡ column k (rows_of commits)
columns k [] = refl
columns k (c ∷ commits) = ap (λ (os : List ℕ). offset_at k c.offsets ∷ os) (columns k commits)

prefixes : (js : List Journal) (k : ℕ) (ss : List Source) (commits : List Commit) (rows : List (List ℕ)) (read : List Taken) → rows_of commits ≡ rows → AllTaken k js ss rows
    → AreRead k commits (streams_of js ss) read → ReadPrefixes k (streams_of js ss) commits read
prefixes js k [] commits rows read is t are = tt
prefixes js k (s ∷ ss) commits rows read is t are =
    let same : offsets_at k commits ≡ column k rows = columns k commits ∙ ap (λ (r : List (List ℕ)). column k r) is in
    let rs : List Release = committed js s in (
      (
        subst (λ (os : List ℕ). NeverFall s.from os) (sym same) t.0.falls,
        (
          part (last_from s.from (column k rows)) (end_of js s) rs,
          ap (λ (ms : List Message). ms ++ part (last_from s.from (column k rows)) (end_of js s) rs) (are.0 ∙ ap (λ (os : List ℕ). read_of s.from os rs) same)
              ∙ takes.all_read s.from (column k rows) rs (end_of js s) t.0,
        ),
      ),
      prefixes js (suc k) ss commits rows read is t.1 are.1,
    )

-- ---- the outputs

accept_either : (count place : ℕ) (early all : List Output) (outputs : List (List Output)) → AcceptAll count place all outputs → Accept count place early all outputs
accept_either count place early all [] accept = tt
accept_either count place early all (o ∷ outputs) accept = (inr accept.0, accept_either count (suc place) early all outputs accept.1)

-- ---- the promise

starts_froms : (js : List Journal) (ss : List Source) → starts_of (streams_of js ss) ≡ froms_of ss
starts_froms js [] = refl
starts_froms js (s ∷ ss) = ap (λ (os : List ℕ). s.from ∷ os) (starts_froms js ss)

pub delivers : (js : List Journal) (s : Shard) → AllShaped s.commits s.sources → AllTaken 0 js s.sources s.commits → s.store ≡ folded s.app [] (read_order js s)
    → AcceptAll (length s.outputs) 0 (emitted s.app [] (read_order js s)) (all_accepted js s.producer s.outputs) → Delivers (account_of js s)
delivers js s shape taken store accept =
    let a : Account = account_of js s in
    let froms : List ℕ = froms_of s.sources in
    let ss : List Stream = streams_of js s.sources in
    let commits : List Commit = a.commits in
    let order : List (List Taken) = order_in js s in
    let rows : rows_of commits ≡ s.commits = rows_back s.app s.store [] froms s.commits (all_committed js s.sources) in
    let count : length s.sources ≡ length ss = sym (length-map s.sources (λ x. record { from = x.from; committed = committed js x })) in
    let offsets : HaveOffsets (length ss) commits = have (length ss) commits s.commits s.sources rows count shape in
    let begins : starts_of ss ≡ froms = starts_froms js s.sources in
    let weaves : Interleaves ss froms commits order = interleaves ss froms commits (shaped_froms s.sources ∙ count) offsets in
    let started : Interleaves ss (starts_of ss) commits order = subst (λ (os : List ℕ). Interleaves ss os commits order) (sym begins) weaves in
    let are : AreRead 0 commits ss (joined order) = from_starts 0 (starts_of ss) commits ss (joined order) (are_starts ss) (all_read ss (starts_of ss) commits order started) in
    let messages : messages_in (joined order) ≡ read_order js s = in_order js froms commits s.sources ∙ ap (λ (r : List (List ℕ)). order_of froms r (all_committed js s.sources)) rows in
    let outputs : length a.outputs ≡ length s.outputs = length-map s.outputs (λ name. accepted_of (s.producer ∷ []) (text_of name js)) in
    let all : AcceptAll (length a.outputs) 0 (emitted_by s.app order) a.outputs =
    subst (λ (n : ℕ). AcceptAll n 0 (emitted_by s.app order) a.outputs) (sym outputs)
    (subst (λ (ms : List Message). AcceptAll (length s.outputs) 0 (emitted s.app [] ms) a.outputs) (sym messages) accept) in
    let once : ExactlyOnce a = record {
      offsets = offsets;
      order = order;
      interleaves = started;
      prefixes = prefixes js 0 s.sources commits s.commits (joined order) rows taken are;
      states = are_folds js s.app s.store [] [] froms s.commits s.sources refl store;
      store = store_is js s.app s.store froms s.commits s.sources store;
      accepted = accept_either (length a.outputs) 0 (emitted_by s.app (earlier order)) (emitted_by s.app order) a.outputs all;
    } in
    record { once = once; all = all }

-- ---- what is left to read

each_of : (js : List Journal) (k : ℕ) (ss : List Source) (commits : List Commit) (rows : List (List ℕ)) → rows_of commits ≡ rows → ReadsColumns k js ss rows → ReadsEach k (streams_of js ss) commits
each_of js k [] commits rows is read = tt
each_of js k (s ∷ ss) commits rows is read =
    (ap (λ (os : List ℕ). read_of s.from os (committed js s)) (columns k commits ∙ ap (λ (r : List (List ℕ)). column k r) is) ∙ read.0, each_of js (suc k) ss commits rows is read.1)

columns_of : (js : List Journal) (k : ℕ) (ss : List Source) (commits : List Commit) (rows : List (List ℕ)) → rows_of commits ≡ rows → ReadsEach k (streams_of js ss) commits → ReadsColumns k js ss rows
columns_of js k [] commits rows is read = tt
columns_of js k (s ∷ ss) commits rows is read =
    (ap (λ (os : List ℕ). read_of s.from os (committed js s)) (sym (columns k commits ∙ ap (λ (r : List (List ℕ)). column k r) is)) ∙ read.0, columns_of js (suc k) ss commits rows is read.1)

-- where nothing is left to take, all is read
pub reads_all : (js : List Journal) (s : Shard) → AllShaped s.commits s.sources → AllTaken 0 js s.sources s.commits → untaken js s ≡ [] → ReadsAll (account_of js s)
reads_all js s shape taken none =
    each_of js 0 s.sources (account_of js s).commits s.commits (rows_back s.app s.store [] (froms_of s.sources) s.commits (all_committed js s.sources))
    (reads_columns js s.sources s.commits shape taken none)

-- and where all is read, nothing is left to take
pub none_untaken : (js : List Journal) (s : Shard) → AllShaped s.commits s.sources → AllTaken 0 js s.sources s.commits → ReadsAll (account_of js s) → untaken js s ≡ []
none_untaken js s shape taken read =
    nothing_left js s.sources s.commits shape taken
    (columns_of js 0 s.sources (account_of js s).commits s.commits (rows_back s.app s.store [] (froms_of s.sources) s.commits (all_committed js s.sources)) read)
