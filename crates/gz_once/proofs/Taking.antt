-- Draws. The next draw of the shard is new to everything: no entry, no message and no transaction is of it. A process in Playing
-- takes it as author and producer, and one in Drawing, which was in doubt of an acknowledgement, as producer alone.
use Rattle.std.proofs.Common.{◌≡◌, ℕ, ◌<◌, ◌≤◌, List, [], ◌∷◌, refl, ap, sym, ◌∙◌, arith, true, false, eqb, None, subst, inl, inr}
use Rattle.std.proofs.lemmas.Bool.{cond_both, cases_eq, false≢true, true≢false}
use Rattle.gz_reader.specs.Lists.{In}
use Rattle.gz_reader.specs.Reader.{Message, Rest, read, updated, acknowledgement}
use Rattle.gz_once.specs.Applications.{App}
use Rattle.gz_once.specs.Log.{Entry, by}
use Rattle.gz_once.specs.Processes.{Append, Handoff, Commit, Lines, Ack, Phase, Playing, Drawing, Reading, Process, still, on_drew}
use Rattle.gz_once.specs.Worlds.{Waits, Shared, World, moved}
use Rattle.gz_reader.proofs.Updates.{none_some, upd_here, upd_other, upd_each}
use Rattle.gz_reader.proofs.Appends.{own_more, unheard}
use Rattle.gz_once.proofs.Logs.{Absent}
use Rattle.gz_reader.specs.Reader.{values_of}
use Rattle.gz_once.proofs.Facts.{Ghost, newest, cur, bound, seen, NoAcks, RestOk, CommitOk, AckWaits, WaitsOk, LandedOk, Rules, PhaseOk, Draws, ProcOk, SharedOk, Invariant, Known}
use Rattle.gz_once.proofs.Frames.{spoken_up, Kept, proc_kept, idle_kept, commit_kept}
use Rattle.gz_once.proofs.Sends.{up_refl}

absent_free : (s : Shared) (a : ℕ) (es : List Entry) → s.free a ≡ true → ((e : Entry) → In e es → (by e ≤ s.drawn) × (s.free (by e) ≡ false)) → Absent a es
absent_free s a [] o f = tt
absent_free s a (e ∷ es) o f = (λ z. true≢false (sym o ∙ ap s.free (sym z) ∙ (f e (inl refl)).1), absent_free s a es o (λ x i. f x (inr i)))

pub landed_same : (s t : Shared) → ((j : ℕ) (m : Message) → In m (s.outs j) → In m (t.outs j)) → (y : Append) → LandedOk s y → LandedOk t y
landed_same s t f (Handoff b o nn) q = tt
landed_same s t f (Commit z) q = tt
landed_same s t f (Lines a b us) q = tt
landed_same s t f (Ack a b c) q = f a (acknowledgement b c) q

-- a draw of the shard is made
module _ (g : App) (s : Shared) (h : Ghost) (ok : SharedOk g s h) (d : ℕ) (higher : s.drawn < d) (no_client : g.foreign d ≡ false) where
  abbrev t : Shared
  t = record s { drawn = d; own = updated s.own d true; free = updated s.free d true }

  own_on : (b : ℕ) → s.own b ≡ true → t.own b ≡ true
  own_on b = upd_each s.own d true (λ n v. s.own n ≡ true → v ≡ true) (λ _. refl) b (λ _ z. z)

  taken_on : (b : ℕ) → b ≤ s.drawn → s.free b ≡ false → t.free b ≡ false
  taken_on b l z = upd_other s.free d true b (λ q. omega (arith, higher, l, q)) ∙ z

  draw_kept : (b n : ℕ) → b ≤ s.drawn → n ≤ s.drawn → Kept g s t h h b n
  draw_kept b n lb ln = record {
    log = inl refl;
    outs = λ j m z. z;
    sources = up_refl g s.sources;
    holds = λ i x z. z;
    landed = λ i x z. z;
    refused = λ i x z. z;
    main = λ i x z _. z;
    acks = λ u i j c z. z;
    stock = λ u q x j z w m. m;
    low = λ u q x j z l. l;
    lines = λ u q x j i z w l m. inl m;
    pending = refl;
    begun = refl;
    holder = (refl, refl);
    under = refl;
    drawn = omega (arith, higher);
    own = own_on;
    taken = (taken_on b lb, taken_on n ln);
  }

  draw_waits : (i : ℕ) (y : Append) → s.slots i ≡ Waits y → WaitsOk g s h i y → WaitsOk g t h i y
  draw_waits i (Handoff b o nn) z w = record { pending = w.pending; pos = w.pos; drawn = omega (arith, w.drawn, higher); taken = taken_on b w.drawn w.taken; absent = w.absent; base = w.base }
  draw_waits i (Commit y) z w = commit_kept g s t h h i y (draw_kept y.author y.producer (w.drawn).0 (w.drawn).1) z w
  draw_waits i (Lines j n ls) z w = record { own = own_on n w.own; lines = w.lines }
  draw_waits i (Ack j n c) z w = record { x = w.x; landed = w.landed; producer = w.producer; clock = w.clock; needed = w.needed; state = w.state }

  -- no message is of the new draw
  new_one : (m : Message) → Known g s m.producer → m.producer ≡ d → ⊥
  new_one m k z = elim k [ inl l ↦ omega (arith, l, higher, z) | inr f ↦ true≢false (sym f ∙ ap g.foreign z ∙ no_client) ]

  -- nothing is known of the new draw
  new_seen : (j : ℕ) → seen s j d ≡ record { next = 0; chain = [] }
  new_seen j = unheard d (s.outs j) (λ m i z. new_one m (ok.low j m i) z)

  new_rest : (j : ℕ) → RestOk g t h j d
  new_rest j = record {
    chain = inl (ap (λ (r : Rest). r.chain) (new_seen j));
    level = subst (λ (r : Rest). r.next ≤ bound (cur h d)) (sym (new_seen j)) (omega arith);
    steps = λ y c. absurd (none_some (sym (ap newest (ok.undrawn d higher).0) ∙ c));
  }

  same_values : (j : ℕ) → values_of t.own (read (s.outs j)).accepted ≡ values_of s.own (read (s.outs j)).accepted
  same_values j = own_more s.own d (read (s.outs j)).accepted (λ m i z. new_one m (ok.heard j m i) z)

  was_own : (j : ℕ) (m : Message) → In m (s.outs j) → t.own m.producer ≡ true → s.own m.producer ≡ true
  was_own j m i z = sym (upd_other s.own d true m.producer (λ q. new_one m (ok.low j m i) q)) ∙ z

  pub draw_shared : SharedOk g t h
  draw_shared = record {
    log = ok.log;
    authors = λ e i. let l = ok.authors e i in (omega (arith, l.0, higher), taken_on (by e) l.0 l.1);
    commits = λ y i. let c = ok.commits y i in record { under = c.under; pos = c.pos; own = own_on y.producer c.own; taken = taken_on y.producer c.drawn c.taken; drawn = omega (arith, c.drawn, higher); current = c.current };
    rests = λ j n. upd_each s.own d true (λ b v. v ≡ true → RestOk g t h j b) (λ _. new_rest j) n (λ _ z. let r = ok.rests j n z in record { chain = r.chain; level = r.level; steps = r.steps });
    outs = λ j. elim (ok.outs j) [
      | inl o ↦ inl (record { accepted = same_values j ∙ o.accepted; acked = o.acked })
      | inr o ↦ inr (record { x = o.x; is_last = o.is_last; accepted = same_values j ∙ o.accepted; needed = o.needed; chain = o.chain; low = o.low; current = o.current; sole = o.sole })
    ];
    waits = λ i y z. draw_waits i y z (ok.waits i y z);
    landed = λ i y z. landed_same s t (λ j m q. q) y (ok.landed i y z);
    frees = λ b. upd_each s.free d true (λ n v. v ≡ true → (0 < n) × (n ≤ d) × (t.own n ≡ true) × (h.begun n ≡ []) × (h.pending n ≡ None))
        (λ _. let u = ok.undrawn d higher in (omega (arith, higher), omega arith, upd_here s.own d true, u.0, u.1)) b
        (λ _ z. let u = ok.frees b z in (u.0, omega (arith, u.1, higher), own_on b u.2, u.3, u.4));
    fresh = ok.fresh;
    register = ok.register;
    spoken = spoken_up g s t h h (λ y z. z) (λ p y z. z) (λ m y z. inl z) (λ j m z w. inl (z, was_own j m z w)) (λ y z. inl z) ok.spoken;
    history = ok.history;
    undrawn = λ n l. let u = ok.undrawn n (omega (arith, higher, l)) in (u.0, u.1, upd_other s.own d true n (λ z. omega (arith, l, z)) ∙ u.2);
    low = λ j m z. elim (ok.low j m z) [ inl l ↦ inl (omega (arith, l, higher)) | inr f ↦ inr f ];
    heard = λ j m z. elim (ok.heard j m z) [ inl l ↦ inl (omega (arith, l, higher)) | inr f ↦ inr f ];
  }

  pub draw_proc : (m : ℕ) (q : Process) → ProcOk g s h m q → ProcOk g t h m q
  draw_proc m q o = elim (cases_eq q.author 0) [
    | inl z ↦ idle_kept g s t h h m q z (λ b. b) (omega (arith, higher)) o
    | inr z ↦ (let r = (o.draws).author in proc_kept g s t h h q (draw_kept q.author q.producer r.0 r.1) m o)
  ]

-- the process p takes the draw d, for the author a
module _ (g : App) (s : Shared) (h : Ghost) (ok : SharedOk g s h) (p d : ℕ) (is_free : s.free d ≡ true) (a : ℕ) where
  abbrev tt_ : Shared
  tt_ = record s { free = updated s.free d false }

  abbrev kt : Ghost
  kt = record h { holder = updated h.holder d p; under = updated h.under d a }

  apart : (b : ℕ) → s.free b ≡ false → b ≡ d → ⊥
  apart b z q = true≢false (sym is_free ∙ ap s.free (sym q) ∙ z)

  gone_on : (b : ℕ) → s.free b ≡ false → tt_.free b ≡ false
  gone_on b = upd_each s.free d false (λ n v. s.free n ≡ false → v ≡ false) (λ _. refl) b (λ _ z. z)

  take_kept : (b n : ℕ) → s.free b ≡ false → s.free n ≡ false → Kept g s tt_ h kt b n
  take_kept b n fb fn = record {
    log = inl refl;
    outs = λ j m z. z;
    sources = up_refl g s.sources;
    holds = λ i x z. z;
    landed = λ i x z. z;
    refused = λ i x z. z;
    main = λ i x z _. z;
    acks = λ u i j c z. z;
    stock = λ u q x j z w m. m;
    low = λ u q x j z l. l;
    lines = λ u q x j i z w l m. inl m;
    pending = refl;
    begun = refl;
    holder = (upd_other h.holder d p b (apart b fb), upd_other h.holder d p n (apart n fn));
    under = upd_other h.under d a n (apart n fn);
    drawn = omega arith;
    own = λ b z. z;
    taken = (gone_on b, gone_on n);
  }

  take_waits : (i : ℕ) (y : Append) → s.slots i ≡ Waits y → WaitsOk g s h i y → WaitsOk g tt_ kt i y
  take_waits i (Handoff b o nn) z w = record { pending = w.pending; pos = w.pos; drawn = w.drawn; taken = gone_on b w.taken; absent = w.absent; base = w.base }
  take_waits i (Commit y) z w = commit_kept g s tt_ h kt i y (take_kept y.author y.producer (w.taken).0 (w.taken).1) z w
  take_waits i (Lines j n ls) z w = record { own = w.own; lines = w.lines }
  take_waits i (Ack j n c) z w = record { x = w.x; landed = w.landed; producer = w.producer; clock = w.clock; needed = w.needed; state = w.state }

  pub take_shared : SharedOk g tt_ kt
  take_shared = record {
    log = ok.log;
    authors = λ e i. let l = ok.authors e i in (l.0, gone_on (by e) l.1);
    commits = λ y i. let c = ok.commits y i in record { under = upd_other h.under d a y.producer (apart y.producer c.taken) ∙ c.under; pos = c.pos; own = c.own; taken = gone_on y.producer c.taken; drawn = c.drawn; current = c.current };
    rests = λ j n z. let r = ok.rests j n z in record { chain = r.chain; level = r.level; steps = r.steps };
    outs = λ j. elim (ok.outs j) [
      | inl o ↦ inl (record { accepted = o.accepted; acked = o.acked })
      | inr o ↦ inr (record { x = o.x; is_last = o.is_last; accepted = o.accepted; needed = o.needed; chain = o.chain; low = o.low; current = o.current; sole = o.sole })
    ];
    waits = λ i y z. take_waits i y z (ok.waits i y z);
    landed = λ i y z. landed_same s tt_ (λ j m q. q) y (ok.landed i y z);
    frees = λ b. upd_each s.free d false (λ n v. v ≡ true → (0 < n) × (n ≤ s.drawn) × (s.own n ≡ true) × (h.begun n ≡ []) × (h.pending n ≡ None)) (λ z. absurd (false≢true z)) b (λ _ z. ok.frees b z);
    fresh = ok.fresh;
    register = ok.register;
    spoken = spoken_up g s tt_ h kt (λ y z. z) (λ p y z. z) (λ m y z. inl z) (λ j m z w. inl (z, w)) (λ y z. inl z) ok.spoken;
    history = ok.history;
    undrawn = ok.undrawn;
    low = ok.low;
    heard = ok.heard;
  }

  pub take_proc : (m : ℕ) (q : Process) → ProcOk g s h m q → ProcOk g tt_ kt m q
  take_proc m q o = elim (cases_eq q.author 0) [
    | inl z ↦ idle_kept g s tt_ h kt m q z (λ b. b) (omega arith) o
    | inr z ↦ (let r = (o.draws).taken (omega (arith, z)) in proc_kept g s tt_ h kt q (take_kept q.author q.producer r.0 r.1) m o)
  ]

  -- nothing is known of it
  new_cur : cur kt d ≡ None
  new_cur = ap newest (ok.frees d is_free).3

  new_quiet : NoAcks s d
  new_quiet i j c z =
      let w : AckWaits g s h j d c = ok.waits i (Ack j d c) z in
      let m : CommitOk g s h w.x = ok.commits w.x w.landed in
      apart (w.x).producer m.taken w.producer

module _ (g : App) (w : World) (i : Invariant g w) (p d : ℕ) (is_free : w.shared.free d ≡ true) where
  abbrev dw : World
  dw = record w { shared = record w.shared { free = updated w.shared.free d false } }

  -- the draw is taken by p, or by nobody
  draws_to : (a : ℕ) (q : Process) → ProcOk g dw.shared (record i.h { holder = updated (i.h).holder d p; under = updated (i.h).under d a }) p q → Invariant g (moved dw p (still q))
  draws_to a q o = record {
    h = record i.h { holder = updated (i.h).holder d p; under = updated (i.h).under d a };
    shared = take_shared g w.shared i.h i.shared p d is_free a;
    procs = λ m. upd_each w.procs p q (λ n r. ProcOk g dw.shared (record i.h { holder = updated (i.h).holder d p; under = updated (i.h).under d a }) n r) o m
        (λ _. take_proc g w.shared i.h i.shared p d is_free a m (w.procs m) (i.procs m));
  }

  draw_none : Invariant g (moved dw p (still (w.procs p)))
  draw_none = draws_to 0 (w.procs p) (take_proc g w.shared i.h i.shared p d is_free 0 p (w.procs p) (i.procs p))

  pub take_ok : (f : Phase) → (w.procs p).phase ≡ f → Draws w.shared i.h p (w.procs p).author (w.procs p).producer → PhaseOk g w.shared i.h (w.procs p) f → Invariant g (moved dw p (on_drew (w.procs p) d f))
  take_ok Playing e b o = let q = w.procs p in let u = (i.shared).frees d is_free in cond_both (eqb q.author 0) _ _ (λ r. Invariant g (moved dw p r))
      (λ _. draws_to d (record q { author = d; producer = d; clock = 0 }) (record {
        draws = record {
          author = (u.1, u.1);
          holder = λ l. (upd_here (i.h).holder d p, upd_here (i.h).holder d p);
          under = λ l. upd_here (i.h).under d d;
          pos = λ l. l;
          own = λ l. u.2;
          taken = λ l. (upd_here w.shared.free d false, upd_here w.shared.free d false);
        };
        phase = subst (PhaseOk g dw.shared (record i.h { holder = updated (i.h).holder d p; under = updated (i.h).under d d }) (record q { author = d; producer = d; clock = 0 })) (sym e)
            (o.0, λ l. (u.4, absent_free w.shared d w.shared.log is_free (i.shared).authors, record { own = new_cur g w.shared i.h i.shared p d is_free d; next = refl }));
      }))
      (λ _. draw_none)
  take_ok Drawing e b o = let q = w.procs p in let u = (i.shared).frees d is_free in let r : Rules w.shared i.h q.text q.author = o.1 in
      draws_to q.author (record q { producer = d; clock = 0; doubt = false; phase = Reading }) (record {
        draws = record {
          author = ((b.author).0, u.1);
          holder = λ m. (upd_other (i.h).holder d p q.author (apart g w.shared i.h i.shared p d is_free q.author q.author (b.taken m).0) ∙ (b.holder m).0, upd_here (i.h).holder d p);
          under = λ m. upd_here (i.h).under d q.author;
          pos = λ m. u.0;
          own = λ l. u.2;
          taken = λ m. (gone_on g w.shared i.h i.shared p d is_free q.author q.author (b.taken m).0, upd_here w.shared.free d false);
        };
        phase = (
          o.0,
          record { since = r.since; author = r.author; pending = r.pending },
          o.2,
          record { own = inl (new_cur g w.shared i.h i.shared p d is_free q.author); next = sym (ap bound (new_cur g w.shared i.h i.shared p d is_free q.author)) },
          λ _. new_quiet g w.shared i.h i.shared p d is_free q.author,
        );
      })
  take_ok f e b o = draw_none
