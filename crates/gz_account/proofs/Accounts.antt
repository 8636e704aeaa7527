-- Commit by commit, the account of a shard is what the log says.
use Rattle.std.proofs.Common.{◌≡◌, ℕ, zero, suc, ◌+◌, ◌<◌, ◌≤◌, ◌==◌, List, [], ◌∷◌, ◌++◌, length, map, refl, ap, sym, ◌∙◌, arith, subst, ◌⊎◌, inl, inr, append_assoc}
use Rattle.std.proofs.lemmas.List.{append-nil, map-append}
use Rattle.std.proofs.lemmas.List.Elements.{filter-append}
use Rattle.gz_model.specs.Prefix.{IsPrefix}
use Rattle.gz_frame.specs.Messages as frame
use Rattle.gz_sequencer.specs.Committed.{released_in}
use Rattle.gz_app.specs.States.{State}
use Rattle.gz_app.specs.Applications.{Output}
use Rattle.gz_app.specs.declared.app.AppKind.{AppKind}
use Rattle.gz_promise.specs.Accounts.{Commit, Stream, starts_of, last_state}
use Rattle.gz_promise.specs.Applications as promise
use Rattle.gz_promise.specs.Outputs.{choice, routed}
use Rattle.gz_promise.specs.Parts as parts
use Rattle.gz_promise.specs.Parts.{NeverFall, read_of, last_from}
use Rattle.gz_promise.specs.Promise.{Accept, AreFolds, ExactlyOnce, HaveOffsets, ReadPrefixes, Taken, earlier, emitted_by, joined, messages_in, of_source, offset_at, offsets_at}
use Rattle.gz_promise.proofs.Orders.{AllRead, all_read}
use Rattle.gz_promise.proofs.BySource.{taken_of, by_source, by_commit, last_offsets, interleaves, by_commit_more, joined_more, last_offsets_more, last_state_more, have_more, folds_more}
use Rattle.gz_reader.specs.Lists.{Begins}
use Rattle.gz_reader.specs.Reader.{Message, committed, values_of}
use Rattle.gz_reader.proofs.Growing.{begins_refl}
use Rattle.gz_once.specs.Applications as once
use Rattle.gz_once.specs.Applications.{App, values_to, part}
use Rattle.gz_once.specs.Log.{Transaction, Entry, Handed, Committed, last, offsets_of, store_of, read_order, consumed}
use Rattle.gz_once.specs.Worlds.{Shared, Event, run, start}
use Rattle.gz_once.specs.Theorem.{GoesOn, WithoutGap, emitted, emitted_before}
use Rattle.gz_once.proofs.Moves.{begins_tail}
use Rattle.gz_once.proofs.Claims.{once as exactly_once}
use Rattle.gz_once.proofs.Operators.{without_gap}
use Rattle.gz_account.specs.Account.{Numbers, AreReadBack, Wiring, numbered, listed, stream_of, commits_of, accepted_of, account_of}
use Rattle.gz_account.proofs.Releases.{part_is, read_prefix}
use Rattle.gz_account.proofs.Listed.{listed_length, listed_map, offset_listed}
use Rattle.gz_account.proofs.Folds.{folded_two, emitted_two, fold_is, emits_is, routed_is}

last_more : (from : ℕ) (offsets : List ℕ) (end : ℕ) → last_from from (offsets ++ end ∷ []) ≡ end
last_more from [] end = refl
last_more from (to ∷ offsets) end = last_more to offsets end

fall_more : (from : ℕ) (offsets : List ℕ) (end : ℕ) → NeverFall from offsets → last_from from offsets ≤ end → NeverFall from (offsets ++ end ∷ [])
fall_more from [] end f l = (l, tt)
fall_more from (to ∷ offsets) end f l = (f.0, fall_more to offsets end f.1 l)

earlier_more : (order : List (List Taken)) (ts : List Taken) → earlier (order ++ ts ∷ []) ≡ order
earlier_more [] ts = refl
earlier_more (us ∷ []) ts = refl
earlier_more (us ∷ vs ∷ order) ts = ap (λ (v : List (List Taken)). us ∷ v) (earlier_more (vs ∷ order) ts)

messages_two : (xs ys : List Taken) → messages_in (xs ++ ys) ≡ messages_in xs ++ messages_in ys
messages_two xs ys = map-append (λ t. t.message) xs ys

messages_taken : (k : ℕ) (ms : List frame.Message) → messages_in (taken_of k ms) ≡ ms
messages_taken k [] = refl
messages_taken k (m ∷ ms) = ap (λ (v : List frame.Message). m ∷ v) (messages_taken k ms)

module _ (n : Numbers) (back : AreReadBack n) (app : AppKind) (w : Wiring) (s : Shared) (goes_on : WithoutGap (numbered n app w) s) where
  abbrev g : App
  g = numbered n app w

  abbrev ss : List Stream
  ss = listed (stream_of n g s.sources) 0 g.sources

  abbrev froms : List ℕ
  froms = starts_of ss

  long : length ss ≡ g.sources
  long = listed_length (stream_of n g s.sources) 0 g.sources

  froms_are : froms ≡ listed g.begin 0 g.sources
  froms_are = listed_map (λ (v : Stream). v.from) (stream_of n g s.sources) 0 g.sources

  -- the parts of the sources from this one on, one behind the other
  abbrev sums : (ℕ → ℕ) → (ℕ → ℕ) → ℕ → ℕ → List frame.Message
  sums from to k zero = []
  sums from to k (suc count) = map n.message_of (part g k (s.sources k) (from k) (to k)) ++ sums from to (suc k) count

  sums_last : (from to : ℕ → ℕ) (k count : ℕ) → sums from to k (suc count) ≡ sums from to k count ++ map n.message_of (part g (k + count) (s.sources (k + count)) (from (k + count)) (to (k + count)))
  sums_last from to k zero =
      let e : k ≡ k + 0 = omega arith in
      append-nil (map n.message_of (part g k (s.sources k) (from k) (to k))) ∙ ap (λ i. map n.message_of (part g i (s.sources i) (from i) (to i))) e
  sums_last from to k (suc count) =
      let e : suc k + count ≡ k + suc count = omega arith in
      let first : List frame.Message = map n.message_of (part g k (s.sources k) (from k) (to k)) in
      ap (λ (v : List frame.Message). first ++ v) (sums_last from to (suc k) count
      ∙ ap (λ i. sums from to (suc k) count ++ map n.message_of (part g i (s.sources i) (from i) (to i))) e)
      ∙ sym (append_assoc first (sums from to (suc k) count) (map n.message_of (part g (k + suc count) (s.sources (k + suc count)) (from (k + suc count)) (to (k + suc count)))))

  sums_are : (from to : ℕ → ℕ) (count : ℕ) → sums from to 0 count ≡ map n.message_of (once.parts g count s.sources from to)
  sums_are from to zero = refl
  sums_are from to (suc count) =
      let e : 0 + count ≡ count = omega arith in
      sums_last from to 0 count
      ∙ ap (λ i. sums from to 0 count ++ map n.message_of (part g i (s.sources i) (from i) (to i))) e
      ∙ ap (λ (v : List frame.Message). v ++ map n.message_of (part g count (s.sources count) (from count) (to count))) (sums_are from to count)
      ∙ sym (map-append n.message_of (once.parts g count s.sources from to) (part g count (s.sources count) (from count) (to count)))

  -- what a commit takes, source by source from this one on
  takes_are : (from to : ℕ → ℕ) (k count : ℕ) → ((i : ℕ) → i < k + count → from i ≤ to i) →
      messages_in (by_source k (listed from k count) (listed to k count) (listed (stream_of n g s.sources) k count)) ≡ sums from to k count
  takes_are from to k zero l = refl
  takes_are from to k (suc count) l =
      let ms : List frame.Message = parts.part (from k) (to k) (stream_of n g s.sources k).committed in
      let rest : List Taken = by_source (suc k) (listed from (suc k) count) (listed to (suc k) count) (listed (stream_of n g s.sources) (suc k) count) in
      messages_two (taken_of k ms) rest
      ∙ ap (λ (v : List frame.Message). v ++ messages_in rest) (messages_taken k ms ∙ part_is n g k (s.sources k) (from k) (to k) (l k (omega arith)))
      ∙ ap (λ (v : List frame.Message). map n.message_of (part g k (s.sources k) (from k) (to k)) ++ v) (takes_are from to (suc k) count (λ i h. l i (omega (arith, h))))

  abbrev commits : List Entry → List Commit
  commits es = commits_of n g es

  abbrev order : List Entry → List (List Taken)
  order es = by_commit froms (commits es) ss

  -- what the account says of the log up to a place
  record Told (es : List Entry) : Type 0 where
    have : HaveOffsets (length ss) (commits es)
    fall : (i : ℕ) → i < g.sources → NeverFall (g.begin i) (offsets_at i (commits es)) × (last_from (g.begin i) (offsets_at i (commits es)) ≡ offsets_of g (last es) i)
    last_at : last_offsets froms (commits es) ≡ listed (offsets_of g (last es)) 0 g.sources
    read : messages_in (joined (order es)) ≡ map n.message_of (read_order g s.sources es)
    folds : AreFolds app [] (commits es) (order es)
    store : last_state [] (commits es) ≡ promise.folded app [] (messages_in (joined (order es)))
    coded : store_of es ≡ n.state (last_state [] (commits es))
    out : (j : ℕ) → j < g.outputs → map n.output_of (emitted g s.sources j es) ≡ routed g.outputs j (emitted_by app (order es))

  told_none : Told []
  told_none = record { have = tt; fall = λ i l. (tt, refl); last_at = froms_are; read = refl; folds = tt; store = refl; coded = sym back.empty; out = λ j l. refl }

  module _ (x : Transaction) (es : List Entry) (o : GoesOn g s es x) (t : Told es) where
    abbrev c : Commit
    c = record { offsets = listed x.offsets 0 g.sources; state = n.state_of x.state }

    abbrev ts : List Taken
    ts = by_source 0 (last_offsets froms (commits es)) c.offsets ss

    abbrev S : State
    S = last_state [] (commits es)

    abbrev ms : List Message
    ms = consumed g s.sources es x

    grown : order (Committed x ∷ es) ≡ order es ++ ts ∷ []
    grown = by_commit_more froms (commits es) c ss

    taken : messages_in ts ≡ map n.message_of ms
    taken =
        ap (λ (v : List ℕ). messages_in (by_source 0 v c.offsets ss)) t.last_at
        ∙ takes_are (offsets_of g (last es)) x.offsets 0 g.sources (λ i l. o.offsets i (omega (arith, l)))
        ∙ sums_are (offsets_of g (last es)) x.offsets g.sources

    read_on : messages_in (joined (order (Committed x ∷ es))) ≡ messages_in (joined (order es)) ++ messages_in ts
    read_on = ap (λ (v : List (List Taken)). messages_in (joined v)) grown ∙ ap (λ (v : List Taken). messages_in v) (joined_more (order es) ts) ∙ messages_two (joined (order es)) ts

    next_state : x.state ≡ n.state (promise.folded app S (messages_in ts))
    next_state =
        o.state ∙ ap (λ v. once.fold g v ms) t.coded ∙ fold_is n back app w S ms
        ∙ ap (λ (v : List frame.Message). n.state (promise.folded app S v)) (sym taken)

    state_is : c.state ≡ promise.folded app S (messages_in ts)
    state_is = ap n.state_of next_state ∙ back.state (promise.folded app S (messages_in ts))

    folded_on : c.state ≡ promise.folded app [] (messages_in (joined (order es)) ++ messages_in ts)
    folded_on =
        state_is ∙ ap (λ (v : State). promise.folded app v (messages_in ts)) t.store
        ∙ sym (folded_two app [] (messages_in (joined (order es))) (messages_in ts))

    offsets_on : (i : ℕ) → i < g.sources → offsets_at i (commits (Committed x ∷ es)) ≡ offsets_at i (commits es) ++ x.offsets i ∷ []
    offsets_on i l =
        let e : 0 + i ≡ i = omega arith in
        map-append (λ (v : Commit). offset_at i v.offsets) (commits es) (c ∷ [])
        ∙ ap (λ v. offsets_at i (commits es) ++ v ∷ []) (offset_listed x.offsets 0 g.sources i l ∙ ap x.offsets e)

    fall_on : (i : ℕ) → i < g.sources → NeverFall (g.begin i) (offsets_at i (commits (Committed x ∷ es))) × (last_from (g.begin i) (offsets_at i (commits (Committed x ∷ es))) ≡ x.offsets i)
    fall_on i l =
        let f = t.fall i l in
        let P : List ℕ → Type 0 = λ v. NeverFall (g.begin i) v × (last_from (g.begin i) v ≡ x.offsets i) in
        subst P (sym (offsets_on i l)) (
          fall_more (g.begin i) (offsets_at i (commits es)) (x.offsets i) f.0 (let e = f.1 in let h = o.offsets i l in omega arith),
          last_more (g.begin i) (offsets_at i (commits es)) (x.offsets i),
        )

    out_on : (j : ℕ) → j < g.outputs → map n.output_of (emitted g s.sources j (Committed x ∷ es)) ≡ routed g.outputs j (emitted_by app (order (Committed x ∷ es)))
    out_on j l =
        let early : List Output = promise.emitted app [] (messages_in (joined (order es))) in
        let late : List Output = promise.emitted app S (messages_in ts) in
        let one : once.emits g (store_of es) ms ≡ map n.output late =
        ap (λ v. once.emits g v ms) t.coded ∙ emits_is n back app w S ms ∙ ap (λ (v : List frame.Message). map n.output (promise.emitted app S v)) (sym taken) in
        map-append n.output_of (emitted g s.sources j es) (values_to g j (once.emits g (store_of es) ms))
        ∙ ap (λ (v : List Output). v ++ map n.output_of (values_to g j (once.emits g (store_of es) ms))) (t.out j l)
        ∙ ap (λ (v : List ℕ). routed g.outputs j early ++ map n.output_of (values_to g j v)) one
        ∙ ap (λ (v : List Output). routed g.outputs j early ++ v) (routed_is n back app w j l late)
        ∙ sym (filter-append (λ (v : Output). choice g.outputs v.key == j) early late)
        ∙ ap (λ (v : State). routed g.outputs j (early ++ promise.emitted app v (messages_in ts))) t.store
        ∙ ap (λ (v : List Output). routed g.outputs j v) (sym (emitted_two app [] (messages_in (joined (order es))) (messages_in ts)))
        ∙ ap (λ (v : List frame.Message). routed g.outputs j (promise.emitted app [] v)) (sym read_on)

    told_more : Told (Committed x ∷ es)
    told_more = record {
      have = have_more (length ss) (commits es) c t.have (listed_length x.offsets 0 g.sources ∙ sym long);
      fall = fall_on;
      last_at = last_offsets_more froms (commits es) c;
      read = read_on ∙ ap (λ (v : List frame.Message). v ++ messages_in ts) t.read ∙ ap (λ (v : List frame.Message). map n.message_of (read_order g s.sources es) ++ v) taken ∙ sym (map-append n.message_of (read_order g s.sources es) ms);
      folds = subst (λ (v : List (List Taken)). AreFolds app [] (commits (Committed x ∷ es)) v) (sym grown)
          (folds_more app [] (commits es) c froms ss ts t.folds (folded_on ∙ ap (λ (v : List frame.Message). promise.folded app [] v) (sym (messages_two (joined (order es)) ts))));
      store = last_state_more [] (commits es) c ∙ folded_on ∙ ap (λ (v : List frame.Message). promise.folded app [] v) (sym read_on);
      coded = next_state ∙ ap n.state (sym state_is) ∙ ap n.state (sym (last_state_more [] (commits es) c));
      out = out_on;
    }

  told : (es : List Entry) → Begins es s.log → Told es
  told [] b = told_none
  told (Handed a k ∷ es) b =
      let t = told es (begins_tail (Handed a k) es s.log b) in
      record { have = t.have; fall = t.fall; last_at = t.last_at; read = t.read; folds = t.folds; store = t.store; coded = t.coded; out = t.out }
  told (Committed x ∷ es) b = told_more x es (goes_on x es b) (told es (begins_tail (Committed x) es s.log b))

  -- all commits but the last one
  before_is : (es : List Entry) → Begins es s.log → (j : ℕ) → j < g.outputs → map n.output_of (emitted_before g s.sources j es) ≡ routed g.outputs j (emitted_by app (earlier (order es)))
  before_is [] b j l = refl
  before_is (Handed a k ∷ es) b j l = before_is es (begins_tail (Handed a k) es s.log b) j l
  before_is (Committed x ∷ es) b j l =
      let t = told es (begins_tail (Committed x) es s.log b) in
      t.out j l ∙ ap (λ (v : List (List Taken)). routed g.outputs j (emitted_by app v)) (sym (ap earlier (grown x es (goes_on x es b) t) ∙ earlier_more (order es) (ts x es (goes_on x es b) t)))

  prefixes_from : (k count : ℕ) → k + count ≤ g.sources → (read : List Taken) → AllRead k froms (commits s.log) (listed (stream_of n g s.sources) k count) read →
      ReadPrefixes k (listed (stream_of n g s.sources) k count) (commits s.log) read
  prefixes_from k zero l read all = tt
  prefixes_from k (suc count) l read all =
      let f = (told s.log (begins_refl s.log)).fall k (omega arith) in
      let e : 0 + k ≡ k = omega arith in
      let start : offset_at k froms ≡ g.begin k = ap (λ (v : List ℕ). offset_at k v) froms_are ∙ offset_listed g.begin 0 g.sources k (omega arith) ∙ ap g.begin e in
      let is : of_source k read ≡ read_of (g.begin k) (offsets_at k (commits s.log)) (stream_of n g s.sources k).committed =
      all.0 ∙ ap (λ v. read_of v (offsets_at k (commits s.log)) (stream_of n g s.sources k).committed) start in (
        (f.0, subst (λ (v : List frame.Message). IsPrefix v (released_in (stream_of n g s.sources k).committed)) (sym is) (read_prefix n g k (s.sources k) (offsets_at k (commits s.log)) f.0)),
        prefixes_from (suc k) count (omega arith) read all.1,
      )

  accept_from : (early all : List Output) → ((j : ℕ) → j < g.outputs → (accepted_of n s j ≡ routed g.outputs j early) ⊎ (accepted_of n s j ≡ routed g.outputs j all)) →
      (k count : ℕ) → k + count ≤ g.outputs → Accept g.outputs k early all (listed (accepted_of n s) k count)
  accept_from early all each k zero l = tt
  accept_from early all each k (suc count) l = (each k (omega arith), accept_from early all each (suc k) count (omega arith))

  accepts : ((j : ℕ) → (values_of s.own (committed (s.outs j)) ≡ emitted g s.sources j s.log) ⊎ (values_of s.own (committed (s.outs j)) ≡ emitted_before g s.sources j s.log)) →
      (j : ℕ) → j < g.outputs → (accepted_of n s j ≡ routed g.outputs j (emitted_by app (earlier (order s.log)))) ⊎ (accepted_of n s j ≡ routed g.outputs j (emitted_by app (order s.log)))
  accepts each j l = elim (each j) [
    | inl e ↦ inr (ap (λ (v : List ℕ). map n.output_of v) e ∙ (told s.log (begins_refl s.log)).out j l)
    | inr e ↦ inl (ap (λ (v : List ℕ). map n.output_of v) e ∙ before_is s.log (begins_refl s.log) j l)
  ]

  promised : ((j : ℕ) → (values_of s.own (committed (s.outs j)) ≡ emitted g s.sources j s.log) ⊎ (values_of s.own (committed (s.outs j)) ≡ emitted_before g s.sources j s.log)) → ExactlyOnce (account_of n app w s)
  promised each =
      let t = told s.log (begins_refl s.log) in
      let is = interleaves ss froms (commits s.log) (ap length froms_are ∙ listed_length g.begin 0 g.sources ∙ sym long) t.have in
      let early : List Output = emitted_by app (earlier (order s.log)) in
      let all : List Output = emitted_by app (order s.log) in
      record {
        offsets = t.have;
        order = order s.log;
        interleaves = is;
        prefixes = prefixes_from 0 g.sources (omega arith) (joined (order s.log)) (all_read ss froms (commits s.log) (order s.log) is);
        states = t.folds;
        store = ap n.state_of t.coded ∙ back.state (last_state [] (commits s.log));
        accepted = subst (λ v. Accept v 0 early all (listed (accepted_of n s) 0 g.outputs)) (sym (listed_length (accepted_of n s) 0 g.outputs)) (accept_from early all (accepts each) 0 g.outputs (omega arith));
      }

pub keeps_promise : (n : Numbers) → AreReadBack n → (app : AppKind) (w : Wiring) (events : List Event) → ExactlyOnce (account_of n app w (run (numbered n app w) events start).shared)
keeps_promise n back app w events =
    let v = run (numbered n app w) events start in
    promised n back app w v.shared (without_gap (numbered n app w) events) (λ j. (exactly_once (numbered n app w) events).outputs j)
