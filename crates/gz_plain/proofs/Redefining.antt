-- What a shard keeps that is given another definition.
use Rattle.std.proofs.Common.{◌≡◌, ℕ, zero, suc, ◌+◌, ◌-◌, ◌<◌, ◌≤◌, ◌==◌, ◌^◌, List, [], ◌∷◌, ◌++◌, length, take, drop, map, replicate, refl, ap, sym, ◌∙◌, subst, Bool, true, false, cond, not, nat_lt, nat_le, ◌&&◌, None, Some, arith}
use Rattle.std.proofs.lemmas.Grind.{common_steps}
use Rattle.std.proofs.lemmas.List.{append-nil, length-drop, length-take-le}
use Rattle.gz_frame.proofs.Whole.{no_messages}
use Rattle.gz_frame.specs.Messages.{Message}
use Rattle.gz_frame.specs.Release.{Release}
use Rattle.gz_frame.specs.Text.{Placed}
use Rattle.gz_sequencer.specs.Committed as sequencer
use Rattle.gz_sequencer.specs.Committed.{committed_after, released_in}
use Rattle.gz_sequencer.specs.Machine.{Point, fed, point_of, started}
use Rattle.gz_sequencer.proofs.AnyCuts.{fed_is_committed}
use Rattle.gz_plain.specs.Cluster.{AreSmallSources, definition_of, passed, reaches, reader_upto, readers_upto, source_named, writer_at}
use Rattle.gz_plain.specs.Definitions.{least, mark_or, marks_of, resumes_at, with_definition}
use Rattle.gz_promise.specs.Journals.{Journal, text_of, text_at, place_of}
use Rattle.gz_plain.specs.Places.{ArePlaced}
use Rattle.gz_promise.specs.Parts.{part}
use Rattle.gz_plain.specs.Readers.{AreRead}
use Rattle.gz_plain.specs.Running.{AllEndBy, AllUpto, AreTaken, IsKept, IsLinked, IsTaken, Upto, journals_of}
use Rattle.gz_plain.specs.Runs.{ArePresent}
use Rattle.gz_plain.specs.Seen.{name_of, shard_of, source_of}
use Rattle.gz_plain.specs.Shards as shards
use Rattle.gz_plain.specs.Shards.{Mark, Past, last_offsets, read_order}
use Rattle.gz_promise.specs.Sources.{Source, all_committed, committed, end_of, froms_of, last_of, order_of, parts, text_from}
use Rattle.gz_plain.specs.declared.cluster.Definition as declared
use Rattle.gz_plain.specs.declared.cluster.Source as named
use Rattle.gz_plain.specs.declared.reader.Reader.{Reader}
use Rattle.gz_plain.specs.declared.shard.Shard.{Shard}
use Rattle.gz_plain.proofs.Beginning.{names_begun, placed_begun}
use Rattle.gz_plain.proofs.Longer.{Adds}
use Rattle.gz_plain.proofs.Parts.{Within, messages_two, part_after, part_inside, part_two}
use Rattle.gz_plain.proofs.Places.{text_of_is}
use Rattle.gz_plain.proofs.Reading.{adds_prefix, committed_prefix}
use Rattle.gz_plain.proofs.Running.{ends_within}
use Rattle.gz_plain.proofs.Takes.{parts_none}

-- ---- where sources are read on

is_least : (a b : ℕ) → nat_le a b ≡ true → a ≤ b
is_least a b is = grind (arith, common_steps)

least_if : (is : Bool) (a b : ℕ) → nat_le a b ≡ is → cond is a b ≤ b
least_if true a b is = is_least a b is
least_if false a b is = omega arith

pub reaches_below : (js : List Journal) (has_commits : Bool) (marks : List Mark) (s : Source) → reaches js has_commits marks s ≤ end_of js s
reaches_below js true marks s = least_if (nat_le (mark_or s.from s.journal marks) (end_of js s)) (mark_or s.from s.journal marks) (end_of js s) refl
reaches_below js false marks s = omega arith

reaches_marks : (js : List Journal) (marks : List Mark) (ss : List Source) → map (reaches js true marks) ss ≡ map (resumes_at js marks) ss
reaches_marks js marks [] = refl
reaches_marks js marks (s ∷ ss) = ap (λ (tos : List ℕ). resumes_at js marks s ∷ tos) (reaches_marks js marks ss)

reaches_froms : (js : List Journal) (marks : List Mark) (ss : List Source) → map (reaches js false marks) ss ≡ froms_of ss
reaches_froms js marks [] = refl
reaches_froms js marks (s ∷ ss) = ap (λ (tos : List ℕ). s.from ∷ tos) (reaches_froms js marks ss)

upto_reached : (js : List Journal) (has_commits : Bool) (marks : List Mark) (ss : List Source) → Upto js (map (reaches js has_commits marks) ss) ss
upto_reached js has_commits marks [] = tt
upto_reached js has_commits marks (s ∷ ss) = (reaches_below js has_commits marks s, upto_reached js has_commits marks ss)

-- ---- one source

not_more : (m n : ℕ) → nat_le m n ≡ false → n < m
not_more m n is = grind (arith, common_steps)

taken_if : (is : Bool) (js : List Journal) (to : ℕ) (s : named.Source) → nat_le s.from to ≡ is → to ≤ end_of js (source_named s) → IsTaken to (reader_upto js to s) (text_of s.journal js)
taken_if true js to s is within =
    let xs : List ℕ = text_from js (source_named s) in
    let read : ℕ = to - s.from in
    let above : s.from ≤ to = is_least s.from to is in
    let same : s.from + read ≡ to = omega (arith, above) in
    record {
      below = omega arith;
      ended = subst (λ (n : ℕ). AllEndBy n (sequencer.committed s.from (take read xs))) same
          (ends_within s.from (s.from + read) (sequencer.committed s.from (take read xs)) (committed_prefix s.from read xs (omega (arith, within))));
    }
taken_if false js to s is within =
    let xs : List ℕ = text_from js (source_named s) in
    let none : to - s.from ≡ 0 = omega (arith, not_more s.from to is) in
    record {
      below = omega (arith, not_more s.from to is);
      ended = subst (λ (n : ℕ). AllEndBy to (sequencer.committed s.from (take n xs))) (sym none)
          (subst (λ (ps : List Placed). AllEndBy to (committed_after [] ps)) (sym (no_messages s.from [] refl)) tt);
    }

-- what a text has released that ends by an offset
prefix_part : (from read : ℕ) (xs : List ℕ) → read ≤ length xs → part from (from + read) (sequencer.committed from xs) ≡ released_in (sequencer.committed from (take read xs))
prefix_part from read xs within =
    let a : Adds from (take read xs) xs = adds_prefix from read xs in
    let prefix : List Release = sequencer.committed from (take read xs) in
    let behind : Within (from + read) (from + length xs) a.more = subst (λ (n : ℕ). Within (from + n) (from + length xs) a.more) (length-take-le read xs within) a.behind in
    ap (λ (rs : List Release). part from (from + read) rs) a.joined
    ∙ part_two from (from + read) prefix a.more
    ∙ rw (part_inside from (from + read) prefix (committed_prefix from read xs within), part_after (from + read) (from + length xs) from (from + read) a.more (omega arith) behind) (append-nil (released_in prefix))

no_way_back : (from to end : ℕ) → to ≤ from → (nat_lt from end && nat_le end to) ≡ false
no_way_back from to end back = grind (arith, common_steps)

part_back : (from to : ℕ) (rs : List Release) → to ≤ from → part from to rs ≡ []
part_back from to [] back = refl
part_back from to (r ∷ rs) back = rw (no_way_back from to r.end back) (part_back from to rs back)

released_if : (is : Bool) (from to : ℕ) (xs : List ℕ) → nat_le from to ≡ is → to ≤ from + length xs
    → (fed (started from) (take (to - from) xs)).released ≡ part from to (sequencer.committed from xs)
released_if true from to xs is within =
    let same : from + (to - from) ≡ to = omega (arith, is_least from to is) in
    fed_is_committed from (take (to - from) xs)
    ∙ sym (prefix_part from (to - from) xs (omega (arith, within)))
    ∙ ap (λ (n : ℕ). part from n (sequencer.committed from xs)) same
released_if false from to xs is within =
    let none : to - from ≡ 0 = omega (arith, not_more from to is) in
    ap (λ (n : ℕ). (fed (started from) (take n xs)).released) none ∙ sym (part_back from to (sequencer.committed from xs) (omega (arith, not_more from to is)))

-- what was released up to an offset
pub released_upto : (from to : ℕ) (xs : List ℕ) → to ≤ from + length xs
    → (fed (started from) (take (to - from) xs)).released ≡ part from to (sequencer.committed from xs)
released_upto from to xs within = released_if (nat_le from to) from to xs refl within

-- ---- all sources

sources_reached : (js : List Journal) (has_commits : Bool) (marks : List Mark) (ss : List named.Source) → map source_of (readers_upto js has_commits marks ss) ≡ map source_named ss
sources_reached js has_commits marks [] = refl
sources_reached js has_commits marks (s ∷ ss) = ap (λ (xs : List Source). source_named s ∷ xs) (sources_reached js has_commits marks ss)

read_reached : (js : List Journal) (has_commits : Bool) (marks : List Mark) (ss : List named.Source) → AreSmallSources ss → AreRead js (readers_upto js has_commits marks ss)
read_reached js has_commits marks [] small = tt
read_reached js has_commits marks (s ∷ ss) small = (
  (small.0, refl, record { within = omega (arith, reaches_below js has_commits marks (source_named s)); at = refl }),
  read_reached js has_commits marks ss small.1,
)

taken_reached : (js : List Journal) (has_commits : Bool) (marks : List Mark) (ss : List named.Source)
    → AreTaken js (map (reaches js has_commits marks) (map source_named ss)) (readers_upto js has_commits marks ss)
taken_reached js has_commits marks [] = tt
taken_reached js has_commits marks (s ∷ ss) = (
  taken_if (nat_le s.from (reaches js has_commits marks (source_named s))) js (reaches js has_commits marks (source_named s)) s refl (reaches_below js has_commits marks (source_named s)),
  taken_reached js has_commits marks ss,
)

-- ---- commits that are all the same

repeated : (row : List ℕ) (commits : List (List ℕ)) → replicate (length commits) row ≡ map (λ offsets. row) commits
repeated row [] = refl
repeated row (c ∷ commits) = ap (λ (rows : List (List ℕ)). row ∷ rows) (repeated row commits)

some_long : (n : ℕ) → (suc n == 0) ≡ false
some_long n = grind (arith, common_steps)

commits_seen : (js : List Journal) (has_commits : Bool) (marks : List Mark) (ss : List Source) (commits : List (List ℕ)) → has_commits ≡ not (length commits == 0)
    → replicate (length commits) (map (reaches js has_commits marks) ss) ≡ map (λ offsets. map (resumes_at js marks) ss) commits
commits_seen js has_commits marks ss [] is = refl
commits_seen js has_commits marks ss (c ∷ commits) is =
    ap (λ (b : Bool). replicate (suc (length commits)) (map (reaches js b marks) ss)) (is ∙ ap (λ (b : Bool). not b) (some_long (length commits)))
    ∙ ap (λ (row : List ℕ). replicate (suc (length commits)) row) (reaches_marks js marks ss)
    ∙ repeated (map (resumes_at js marks) ss) (c ∷ commits)

last_repeated : (froms row : List ℕ) (n : ℕ) → last_of froms (replicate (suc n) row) ≡ row
last_repeated froms row zero = refl
last_repeated froms row (suc n) = last_repeated row row n

last_reached : (js : List Journal) (has_commits : Bool) (marks : List Mark) (ss : List Source) (n : ℕ) → has_commits ≡ not (n == 0)
    → last_of (froms_of ss) (replicate n (map (reaches js has_commits marks) ss)) ≡ map (reaches js has_commits marks) ss
last_reached js has_commits marks ss zero is = sym (ap (λ (b : Bool). map (reaches js b marks) ss) is ∙ reaches_froms js marks ss)
last_reached js has_commits marks ss (suc n) is = last_repeated (froms_of ss) (map (reaches js has_commits marks) ss) n

order_repeated : (row : List ℕ) (rss : List (List Release)) (n : ℕ) → order_of row (replicate n row) rss ≡ []
order_repeated row rss zero = refl
order_repeated row rss (suc n) = rw (parts_none row rss) (order_repeated row rss n)

order_reached : (js : List Journal) (has_commits : Bool) (marks : List Mark) (ss : List Source) (rss : List (List Release)) (n : ℕ) → has_commits ≡ not (n == 0)
    → order_of (froms_of ss) (replicate n (map (reaches js has_commits marks) ss)) rss ≡ parts (froms_of ss) (map (reaches js has_commits marks) ss) rss
order_reached js has_commits marks ss rss zero is =
    sym (ap (λ (b : Bool). parts (froms_of ss) (map (reaches js b marks) ss) rss) is
    ∙ ap (λ (tos : List ℕ). parts (froms_of ss) tos rss) (reaches_froms js marks ss)
    ∙ parts_none (froms_of ss) rss)
order_reached js has_commits marks ss rss (suc n) is =
    let row : List ℕ = map (reaches js has_commits marks) ss in
    ap (λ (ms : List Message). parts (froms_of ss) row rss ++ ms) (order_repeated row rss n) ∙ append-nil (parts (froms_of ss) row rss)

all_upto_repeated : (js : List Journal) (row : List ℕ) (ss : List Source) (n : ℕ) → Upto js row ss → AllUpto js (replicate n row) ss
all_upto_repeated js row ss zero u = tt
all_upto_repeated js row ss (suc n) u = (u, all_upto_repeated js row ss n u)

-- ---- the shard

-- what another definition makes of a shard whose commits have left these marks
pub record IsRedefined (js : List Journal) (d : declared.Definition) (s new : Shard) (has_commits : Bool) (ms : List Mark) : Type 0 where
  pub some : has_commits ≡ not (length s.commits.items == 0)
  pub marks : ms ≡ marks_of (shard_of s)
  pub id : new.id ≡ s.id
  pub log : new.log ≡ d.log
  pub producer : new.producer ≡ s.producer
  pub readers : new.readers ≡ readers_upto js has_commits ms d.sources.items
  pub writers : new.writers.items ≡ map (writer_at js) d.outputs.items
  pub app : new.app ≡ d.app
  pub is_disabled : new.is_disabled ≡ d.is_disabled
  pub past : new.past ≡ Some (record { commits = length s.commits.items; marks = ms })
  pub commits : new.commits.items ≡ replicate (length s.commits.items) (map (reaches js has_commits ms) (map source_named d.sources.items))
  pub messages : new.messages ≡ passed js has_commits ms (map source_named d.sources.items)
  pub store : new.store ≡ s.store

pub redefined_seen : (js : List Journal) (d : declared.Definition) (s new : Shard) (has_commits : Bool) (ms : List Mark) → IsRedefined js d s new has_commits ms
    → shard_of new ≡ with_definition js (definition_of d) (shard_of s)
redefined_seen js d s new has_commits ms r =
    let ss : List Source = map source_named d.sources.items in
    let sources : map source_of new.readers ≡ ss = ap (λ (rs : List Reader). map source_of rs) r.readers ∙ sources_reached js has_commits ms d.sources.items in
    let names : map name_of new.writers.items ≡ d.outputs.items = ap (λ ws. map name_of ws) r.writers ∙ names_begun js d.outputs.items in
    let past : new.past ≡ Some (record { commits = length s.commits.items; marks = marks_of (shard_of s) }) =
    r.past ∙ ap (λ (marks : List Mark). Some (record { commits = length s.commits.items; marks = marks })) r.marks in
    let commits : new.commits.items ≡ map (λ offsets. map (resumes_at js (marks_of (shard_of s))) ss) s.commits.items =
    r.commits ∙ commits_seen js has_commits ms ss s.commits.items r.some
    ∙ ap (λ (marks : List Mark). map (λ offsets. map (resumes_at js marks) ss) s.commits.items) r.marks in
    rw (r.id, r.log, r.producer, sources, names, r.app, r.is_disabled, past, commits, r.store) refl

pub redefined_kept : (js : List Journal) (d : declared.Definition) (s new : Shard) (has_commits : Bool) (ms : List Mark) → AreSmallSources d.sources.items
    → ArePresent (journals_of (map source_named d.sources.items)) js → ArePresent d.outputs.items js → IsRedefined js d s new has_commits ms → IsKept js new
redefined_kept js d s new has_commits ms small read written r =
    let ss : List Source = map source_named d.sources.items in
    let n : ℕ = length s.commits.items in
    let row : List ℕ = map (reaches js has_commits ms) ss in
    let sources : map source_of new.readers ≡ ss = ap (λ (rs : List Reader). map source_of rs) r.readers ∙ sources_reached js has_commits ms d.sources.items in
    let names : map name_of new.writers.items ≡ d.outputs.items = ap (λ ws. map name_of ws) r.writers ∙ names_begun js d.outputs.items in
    let last : last_offsets (shard_of new) ≡ row =
    ap (λ (xs : List Source). last_of (froms_of xs) new.commits.items) sources
    ∙ ap (λ (commits : List (List ℕ)). last_of (froms_of ss) commits) r.commits
    ∙ last_reached js has_commits ms ss n r.some in
    let order : read_order js (shard_of new) ≡ parts (froms_of ss) row (all_committed js ss) =
    ap (λ (xs : List Source). order_of (froms_of xs) new.commits.items (all_committed js xs)) sources
    ∙ ap (λ (commits : List (List ℕ)). order_of (froms_of ss) commits (all_committed js ss)) r.commits
    ∙ order_reached js has_commits ms ss (all_committed js ss) n r.some in
    record {
      readers = subst (λ (rs : List Reader). AreRead js rs) (sym r.readers) (read_reached js has_commits ms d.sources.items small);
      taken = rw (last, r.readers) (taken_reached js has_commits ms d.sources.items);
      upto = rw (sources, r.commits) (all_upto_repeated js row ss n (upto_reached js has_commits ms ss));
      writers = subst (λ ws. ArePlaced js ws) (sym r.writers) (placed_begun js d.outputs.items);
      linked = rw (sources, names) (read, written);
      count = r.messages ∙ ap (λ (xs : List Message). length xs) (sym order);
    }

-- ---- one source as the program reads it

named_text : (js : List Journal) (journal : List ℕ) (place : ℕ) → place ≡ place_of journal js → text_at place js ≡ text_of journal js
named_text js journal place is = ap (λ (i : ℕ). text_at i js) is ∙ sym (text_of_is journal js)

pub end_is : (js : List Journal) (s : named.Source) (place end behind : ℕ) → place ≡ place_of s.journal js → end ≡ length (text_at place js) → behind ≡ end - s.from
    → s.from + behind ≡ end_of js (source_named s)
end_is js s place end behind placed ends is =
    ap (λ (n : ℕ). s.from + n)
    (is ∙ ap (λ (n : ℕ). n - s.from) (ends ∙ ap (λ (t : List ℕ). length t) (named_text js s.journal place placed)) ∙ sym (length-drop s.from (text_of s.journal js)))

pub within_text : (js : List Journal) (s : named.Source) (to place : ℕ) → place ≡ place_of s.journal js → to ≤ end_of js (source_named s) → to ≤ s.from + length (drop s.from (text_at place js))
within_text js s to place placed within = subst (λ (t : List ℕ). to ≤ s.from + length (drop s.from t)) (sym (named_text js s.journal place placed)) within

pub reached_reader : (js : List Journal) (s : named.Source) (to place read : ℕ) (p : Point) → place ≡ place_of s.journal js → read ≡ to - s.from
    → p ≡ point_of (fed (started s.from) (take (to - s.from) (drop s.from (text_at place js))))
    → record { journal = s.journal; place = place; from = s.from; read = read; point = p; next = None } ≡ reader_upto js to s
reached_reader js s to place read p placed is point =
    let at : p ≡ point_of (fed (started s.from) (take (to - s.from) (drop s.from (text_of s.journal js)))) =
    point ∙ ap (λ (t : List ℕ). point_of (fed (started s.from) (take (to - s.from) (drop s.from t)))) (named_text js s.journal place placed) in
    ap (λ (i : ℕ). record { journal = s.journal; place = i; from = s.from; read = read; point = p; next = None }) placed
    ∙ ap (λ (n : ℕ). record { journal = s.journal; place = place_of s.journal js; from = s.from; read = n; point = p; next = None }) is
    ∙ ap (λ (q : Point). record { journal = s.journal; place = place_of s.journal js; from = s.from; read = to - s.from; point = q; next = None }) at

pub reached_count : (js : List Journal) (s : named.Source) (to place : ℕ) (ms : List Message) → place ≡ place_of s.journal js → to ≤ end_of js (source_named s)
    → ms ≡ (fed (started s.from) (take (to - s.from) (drop s.from (text_at place js)))).released
    → length ms ≡ length (part s.from to (committed js (source_named s)))
reached_count js s to place ms placed within is =
    ap (λ (xs : List Message). length xs)
    (is ∙ ap (λ (t : List ℕ). (fed (started s.from) (take (to - s.from) (drop s.from t))).released) (named_text js s.journal place placed)
    ∙ released_upto s.from to (drop s.from (text_of s.journal js)) within)

pub past_is : (p : Past) (n m : ℕ) (xs ys : List Mark) → p ≡ record { commits = n; marks = xs } → n ≡ m → xs ≡ ys → Some p ≡ Some (record { commits = m; marks = ys })
past_is p n m xs ys is count marks = rw (is, count, marks) refl
