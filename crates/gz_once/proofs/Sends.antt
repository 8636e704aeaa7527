-- Phase by phase, the steps of a process that send: a handoff from Playing, the lines of a transaction from Publishing, its commit
-- from Committing, and the last commit's acknowledgements from Acking. What waits then is as its kind has to be.
use Rattle.std.proofs.Common.{◌≡◌, ℕ, ◌+◌, ◌<◌, ◌≤◌, List, refl, ap, sym, ◌∙◌, arith, true, false, Option, Some, None, eqb, subst, ◌⊎◌, inl, inr}
use Rattle.std.proofs.lemmas.Bool.{cond_both, cases_eq, eqb-false, true≢false}
use Rattle.gz_reader.specs.Lists.{In}
use Rattle.gz_reader.specs.Reader.{Message, updated}
use Rattle.gz_once.specs.Applications.{App}
use Rattle.gz_once.specs.Log.{Transaction, ack, lines, needs, Committed, author_of, last, count, end_of}
use Rattle.gz_once.specs.Processes.{Append, Handoff, Commit, Lines, Ack, Stand, Todo, Asked, Done, Phase, Playing, Handing, Acking, Publishing, Committing, Sending, Process, still, says, on_ask, acks, publishes, on_ask_at}
use Rattle.gz_once.specs.Worlds.{Slot, Free, Waits, Landed, Shared, World, sent, moved, append_of}
use Rattle.gz_reader.proofs.Updates.{some_same, none_some, upd_here, upd_other, upd_each}
use Rattle.gz_reader.proofs.Appends.{ack_next}
use Rattle.gz_once.proofs.Logs.{Absent, Up, Follows, LastSettled, since_begins, since_same, in_begins, absent_in, last_in, foreign, same_last}
use Rattle.gz_once.proofs.Facts.{Ghost, cur, seen, Stock, CommitOk, WaitsOk, LandedOk, HandOk, SendOk, AckStand, PubStand, Own, Unused, Rules, Fits, PhaseOk, Draws, ProcOk, SharedOk, Invariant, SpokenAs, newest_in}
use Rattle.gz_once.proofs.Frames.{spoken_up, spoken_as, Kept, proc_kept, idle_kept, commit_kept}
use Rattle.gz_once.proofs.Moves.{made, waits_landed}

pub up_refl : (g : App) (t : ℕ → List Message) → Up g t t
up_refl g t = record { len = λ k. omega arith; same = λ n from to w. refl }

pub free_held : {v : Slot} {x : Append} → v ≡ Free → append_of v ≡ Some x → ⊥
free_held {v = v} {x = x} e f = none_some (sym (ap append_of e) ∙ f)

-- only its process changes
pub moves : (g : App) (w : World) (i : Invariant g w) (p : ℕ) (q : Process) → ProcOk g w.shared i.h p q → Invariant g (moved w p (still q))
moves g w i p q o = record { h = i.h; shared = i.shared; procs = λ m. upd_each w.procs p q (λ n r. ProcOk g w.shared i.h n r) o m (λ _. i.procs m) }

-- the process p, whose author is a, sends x. The ghost's pending appends are then f
pub record Sendable (g : App) (s : Shared) (h : Ghost) (a : ℕ) (x : Append) (f : ℕ → Option ℕ) : Type 0 where
  pub other : (b q : ℕ) → h.under q ≡ b → (b ≡ a → ⊥) → author_of s.log ≡ b → (j c : ℕ) → x ≡ Ack j q c → ⊥
  pub is_last : (j q c : ℕ) → x ≡ Ack j q c → (y : Transaction) → last s.log ≡ Some y → y.producer ≡ q → c ≡ ack y
  pub said : SpokenAs g s h x
  pub waits : WaitsOk g (sent s (Some x)) (record h { pending = f }) s.count x
  pub pends : (b i : ℕ) → h.pending b ≡ Some i → f b ≡ Some i
  pub same : (b : ℕ) → (b ≡ a → ⊥) → f b ≡ h.pending b
  pub low : (b : ℕ) → s.drawn < b → f b ≡ None
  pub free : (b : ℕ) → s.free b ≡ true → f b ≡ None

module _ (g : App) (s : Shared) (h : Ghost) (ok : SharedOk g s h) where
  -- the appends that were sent before stay
  old_slot : (x : Append) (i : ℕ) (y : Append) → append_of (s.slots i) ≡ Some y → (sent s (Some x)).slots i ≡ s.slots i
  old_slot x i y e = upd_other s.slots s.count (Waits x) i (λ z. free_held (ap s.slots z ∙ ok.fresh s.count (omega arith)) e)

  pub send_kept : (x : Append) (f : ℕ → Option ℕ) (a p : ℕ) → f a ≡ h.pending a → (author_of s.log ≡ a → (j c : ℕ) → x ≡ Ack j p c → ⊥) →
      Kept g s (sent s (Some x)) h (record h { pending = f }) a p
  send_kept x f a p e n = record {
    log = inl refl;
    outs = λ j m i. i;
    sources = up_refl g s.sources;
    holds = λ i y z. ap append_of (old_slot x i y z) ∙ z;
    landed = λ i y z. old_slot x i y (ap append_of z) ∙ z;
    refused = λ i y z. old_slot x i y (ap append_of z) ∙ z;
    main = λ i y z _. old_slot x i y (ap append_of z) ∙ z;
    acks = λ u i j c. upd_each s.slots s.count (Waits x) (λ m v. v ≡ Waits (Ack j p c) → s.slots m ≡ Waits (Ack j p c))
        (λ z. absurd (n u j c (let y : Waits x ≡ Waits (Ack j p c) = z in some_same (ap append_of y)))) i (λ _ z. z);
    stock = λ u q y j z d b. b;
    low = λ u q y j z b. b;
    lines = λ u q y j i z d b. upd_each s.slots s.count (Waits x) (λ m v. v ≡ Landed (Lines j p (lines g y j)) → (s.slots m ≡ Landed (Lines j p (lines g y j))) ⊎ Stock g (sent s (Some x)) y j)
        (λ r. absurd (waits_landed r)) i (λ _ r. inl r);
    pending = e;
    begun = refl;
    holder = (refl, refl);
    under = refl;
    drawn = omega arith;
    own = λ b z. z;
    taken = (λ z. z, λ z. z);
  }

  module _ (a : ℕ) (x : Append) (f : ℕ → Option ℕ) (v : Sendable g s h a x f) (none : h.pending a ≡ None) where
    abbrev t : Shared
    t = sent s (Some x)

    abbrev k : Ghost
    k = record h { pending = f }

    old_waits : (i : ℕ) (y : Append) → t.slots i ≡ Waits y → WaitsOk g s h i y → WaitsOk g t k i y
    old_waits i (Handoff b o nn) e w = record { pending = v.pends b i w.pending; pos = w.pos; drawn = w.drawn; taken = w.taken; absent = w.absent; base = w.base }
    old_waits i (Commit y) e w =
        let d : y.author ≡ a → ⊥ = λ z. none_some (sym none ∙ ap h.pending (sym z) ∙ w.pending) in
        commit_kept g s t h k i y (send_kept x f y.author y.producer (v.same y.author d) (v.other y.author y.producer w.under d)) e w
    old_waits i (Lines j p ls) e w = record { own = w.own; lines = w.lines }
    old_waits i (Ack j p c) e w = record { x = w.x; landed = w.landed; producer = w.producer; clock = w.clock; needed = w.needed; state = w.state }

    pub sends_shared : SharedOk g t k
    sends_shared = record {
      log = ok.log;
      authors = ok.authors;
      commits = λ y i. let c = ok.commits y i in record { under = c.under; pos = c.pos; own = c.own; taken = c.taken; drawn = c.drawn; current = c.current };
      rests = λ j p z. let r = ok.rests j p z in record { chain = r.chain; level = r.level; steps = r.steps };
      outs = λ j. elim (ok.outs j) [
        | inl o ↦ inl (record { accepted = o.accepted; acked = o.acked })
        | inr o ↦ inr (record {
          x = o.x;
          is_last = o.is_last;
          accepted = o.accepted;
          needed = o.needed;
          chain = o.chain;
          low = o.low;
          current = o.current;
          sole = λ i c. upd_each s.slots s.count (Waits x) (λ m r. r ≡ Waits (Ack j (o.x).producer c) → c ≡ ack o.x)
              (λ z. v.is_last j (o.x).producer c (some_same (ap append_of z)) o.x o.is_last refl) i (λ _ z. o.sole i c z);
        })
      ];
      waits = λ i y. upd_each s.slots s.count (Waits x) (λ m r. t.slots m ≡ r → r ≡ Waits y → WaitsOk g t k m y)
          (λ _ z. subst (WaitsOk g t k s.count) (some_same (ap append_of z)) v.waits) i (λ _ q z. old_waits i y (q ∙ z) (ok.waits i y z)) refl;
      landed = λ i y. upd_each s.slots s.count (Waits x) (λ m r. r ≡ Landed y → LandedOk t y) (λ z. absurd (waits_landed z)) i (λ _ z. landed_same y (ok.landed i y z));
      fresh = λ i l. upd_other s.slots s.count (Waits x) i (λ z. omega arith) ∙ ok.fresh i (omega arith);
      register = ok.register;
      history = ok.history;
      spoken = spoken_up g s t h k (λ y z. z) (λ p y z. z)
          (λ i y. upd_each s.slots s.count (Waits x) (λ m r. append_of r ≡ Some y → (append_of (s.slots m) ≡ Some y) ⊎ SpokenAs g t k y)
          (λ z. inr (subst (SpokenAs g t k) (some_same z) (spoken_as g s t h k (λ y z. z) (λ p y z. z) x v.said))) i (λ _ z. inl z))
          (λ j m z w. inl (z, w)) (λ y z. inl z) ok.spoken;
      undrawn = λ p l. let u = ok.undrawn p l in (u.0, v.low p l, u.2);
      low = ok.low;
      heard = ok.heard;
      frees = λ b z. let u = ok.frees b z in (u.0, u.1, u.2, u.3, v.free b z);
    }
      where
        landed_same : (y : Append) → LandedOk s y → LandedOk t y
        landed_same (Handoff b o nn) l = tt
        landed_same (Commit z) l = tt
        landed_same (Lines j p ls) l = tt
        landed_same (Ack j p c) l = l

    pub sends_other : (p m : ℕ) (q : Process) → (0 < a) → h.holder a ≡ p → (m ≡ p → ⊥) → ProcOk g s h m q → ProcOk g t k m q
    sends_other p m q l own d o = elim (cases_eq q.author 0) [
      | inl z ↦ idle_kept g s t h k m q z (λ b. b) (omega arith) o
      | inr z ↦ (let r = o.draws in
          let e : q.author ≡ a → ⊥ = λ y. d (sym ((r.holder (omega (arith, z))).0) ∙ ap h.holder y ∙ own) in
          proc_kept g s t h k q (send_kept x f q.author q.producer (v.same q.author e) (v.other q.author q.producer (r.under (omega (arith, z))) e)) m o)
    ]

-- a whole step that sends
pub sends : (g : App) (w : World) (i : Invariant g w) (p : ℕ) (q : Process) (x : Append) (f : ℕ → Option ℕ) → 0 < (w.procs p).author →
    Sendable g w.shared i.h (w.procs p).author x f → i.h.pending (w.procs p).author ≡ None → ProcOk g (sent w.shared (Some x)) (record i.h { pending = f }) p q → Invariant g (moved w p (says q x))
sends g w i p q x f l v none o = record {
  h = record i.h { pending = f };
  shared = sends_shared g w.shared i.h i.shared (w.procs p).author x f v none;
  procs = λ m. upd_each w.procs p q (λ n r. ProcOk g (sent w.shared (Some x)) (record i.h { pending = f }) n r) o m
      (λ d. sends_other g w.shared i.h i.shared (w.procs p).author x f v none p m (w.procs m) l ((((i.procs p).draws).holder l).0) d (i.procs m));
}

module _ (g : App) (w : World) (i : Invariant g w) (p : ℕ) where
  abbrev s : Shared
  s = w.shared

  abbrev h : Ghost
  h = i.h

  abbrev q : Process
  q = w.procs p

  here : (x : Append) → (sent s (Some x)).slots s.count ≡ Waits x
  here x = upd_here s.slots s.count (Waits x)

  pends_more : h.pending q.author ≡ None → (b n : ℕ) → h.pending b ≡ Some n → updated h.pending q.author (Some s.count) b ≡ Some n
  pends_more none b n e = upd_other h.pending q.author (Some s.count) b (λ z. none_some (sym none ∙ ap h.pending (sym z) ∙ e)) ∙ e

  pends_low : q.author ≤ s.drawn → (b : ℕ) → s.drawn < b → updated h.pending q.author (Some s.count) b ≡ None
  pends_low l b m = upd_other h.pending q.author (Some s.count) b (λ z. omega arith) ∙ ((i.shared).undrawn b m).1

  pends_free : s.free q.author ≡ false → (b : ℕ) → s.free b ≡ true → updated h.pending q.author (Some s.count) b ≡ None
  pends_free l b m = upd_other h.pending q.author (Some s.count) b (λ z. true≢false (sym m ∙ ap s.free z ∙ l)) ∙ ((i.shared).frees b m).4

  -- the draws of a process that stays
  drawn_on : (x : Append) (f : ℕ → Option ℕ) → Draws s h p q.author q.producer → Draws (sent s (Some x)) (record h { pending = f }) p q.author q.producer
  drawn_on x f d = record { author = d.author; holder = d.holder; under = d.under; pos = d.pos; own = d.own; taken = d.taken }

  pub ask_ok : (f : Phase) → q.phase ≡ f → Draws s h p q.author q.producer → PhaseOk g s h q f → Invariant g (moved w p (on_ask q s.count f))
  ask_ok Playing e d o = cond_both (eqb q.author 0) _ _ (λ r. Invariant g (moved w p r))
      (λ _. moves g w i p q (i.procs p))
      (λ z. let l : 0 < q.author = (let n = eqb-false q.author 0 z in omega arith) in
      let r = o.1 l in
      let x = Handoff q.author (end_of q.text) (count q.text + 1) in
      let f = updated h.pending q.author (Some s.count) in
      let t = sent s (Some x) in
      let k = record h { pending = f } in
      let v : Unused h q.producer q.clock = r.2 in
      sends g w i p (record q { phase = Handing s.count }) x f l
      (record {
        other = λ b m u n y j c z. cc;
        is_last = λ j m c z. cc;
        said = tt;
        waits = record { pending = upd_here h.pending q.author (Some s.count); pos = l; drawn = (d.author).0; taken = (d.taken l).0; base = (q.text, o.0, refl, refl); absent = r.1 };
        pends = pends_more r.0;
        same = λ b n. upd_other h.pending q.author (Some s.count) b n;
        low = pends_low (d.author).0;
        free = pends_free (d.taken l).0;
      })
      r.0
      (record {
        draws = drawn_on x f d;
        phase = (l, o.0, record { own = v.own; next = v.next }, subst (HandOk t k q) (sym (here x)) refl);
      }))
  ask_ok (Committing y) e d o =
      let l : 0 < q.author = o.0 in
      let r : Rules s h q.text q.author = o.1 in
      let m : Fits g s h q.text q.author q.producer y = o.2 in
      let x = Commit y in
      let f = updated h.pending q.author (Some s.count) in
      let t = sent s (Some x) in
      let k = record h { pending = f } in
      sends g w i p (record q { phase = Sending y s.count }) x f l
      (record {
        other = λ b n u d y j c z. cc;
        is_last = λ j m c z. cc;
        said = newest_in (h.begun y.producer) y (ap (cur h) m.producer ∙ m.current);
        waits = record {
          pending = ap f m.author ∙ upd_here h.pending q.author (Some s.count);
          pos = subst (λ a. 0 < a) (sym m.author) l;
          drawn = let a = d.author in (subst (λ a. a ≤ s.drawn) (sym m.author) a.0, subst (λ a. a ≤ s.drawn) (sym m.producer) a.1);
          under = ap h.under m.producer ∙ d.under l ∙ sym m.author;
          own = ap s.own m.producer ∙ d.own l;
          taken = (ap s.free m.author ∙ (d.taken l).0, ap s.free m.producer ∙ (d.taken l).1);
          current = ap (cur h) m.producer ∙ m.current;
          ready = λ u.
              let same : s.log ≡ q.text = since_same g s.sources s.outs q.author q.text s.log (i.shared).log r.since (u ∙ m.author) in
              record {
                seq = m.seq ∙ ap (λ z. count z + 1) (sym same);
                follows = subst (λ z. Follows g s.sources z y) (sym same) m.follows;
                settled = subst (λ z. LastSettled g s.outs z) (sym same) m.settled;
                stock = λ j. o.4 (u ∙ m.author) j;
                quiet = λ n j c. upd_each s.slots s.count (Waits x) (λ _ z. z ≡ Waits (Ack j y.producer c) → ⊥) (λ z. cc) n
                    (λ _ z. o.3 (u ∙ m.author) n j c (z ∙ ap (λ a. Waits (Ack j a c)) m.producer));
              };
        };
        pends = pends_more r.pending;
        same = λ b n. upd_other h.pending q.author (Some s.count) b n;
        low = pends_low (d.author).0;
        free = pends_free (d.taken l).0;
      })
      r.pending
      (record {
        draws = drawn_on x f d;
        phase = (
          l,
          r.author,
          record { author = m.author; producer = m.producer; seq = m.seq; current = m.current; follows = m.follows; settled = m.settled },
          subst (SendOk g t k q y) (sym (here x)) (refl, r.since),
        );
      })
  ask_ok f e d o = moves g w i p q (i.procs p)

  publishes_ok : (j : ℕ) (y : Transaction) (v : Stand) → q.outs j ≡ v → q.phase ≡ Publishing y → Draws s h p q.author q.producer → PhaseOk g s h q (Publishing y) → Invariant g (moved w p (publishes g q s.count j y v))
  publishes_ok j y Todo b e d o = cond_both (needs g y j) _ _ (λ r. Invariant g (moved w p r))
      (λ need.
      let l : 0 < q.author = o.0 in
      let r : Rules s h q.text q.author = o.1 in
      let m : Fits g s h q.text q.author q.producer y = o.2 in
      let x = Lines j y.producer (lines g y j) in
      let t = sent s (Some x) in
      let c = send_kept g s h i.shared x h.pending q.author q.producer refl (λ u j c z. cc) in
      let all : ProcOk g t h p q = proc_kept g s t h h q c p (i.procs p) in
      let n : PhaseOk g t h q (Publishing y) = subst (PhaseOk g t h q) e all.phase in
      let is : Waits x ≡ Waits (Lines j q.producer (lines g y j)) = ap (λ z. Waits (Lines j z (lines g y j))) m.producer in
      sends g w i p (record q { outs = updated q.outs j (Asked s.count) }) x h.pending l
      (record {
        other = λ b n u d y j c z. cc;
        is_last = λ j m c z. cc;
        said = (y, newest_in (h.begun y.producer) y (ap (cur h) m.producer ∙ m.current), refl);
        waits = record { own = ap s.own m.producer ∙ d.own l; lines = inr (y, ap (cur h) m.producer ∙ m.current, refl) };
        pends = λ b n z. z;
        same = λ b n. refl;
        low = λ b z. ((i.shared).undrawn b z).1;
        free = λ b z. ((i.shared).frees b z).4;
      })
      r.pending
      (made g t h (sends_shared g s h i.shared q.author x h.pending (record {
        other = λ b n u d y j c z. cc;
        is_last = λ j m c z. cc;
        said = (y, newest_in (h.begun y.producer) y (ap (cur h) m.producer ∙ m.current), refl);
        waits = record { own = ap s.own m.producer ∙ d.own l; lines = inr (y, ap (cur h) m.producer ∙ m.current, refl) };
        pends = λ b n z. z;
        same = λ b n. refl;
        low = λ b z. ((i.shared).undrawn b z).1;
        free = λ b z. ((i.shared).frees b z).4;
      }) r.pending) p
      (record q { outs = updated q.outs j (Asked s.count) }) (Publishing y) e all.draws (
        n.0,
        n.1,
        n.2,
        n.3,
        λ a. upd_each q.outs j (Asked s.count) (PubStand g t q y)
            (ap append_of (here x ∙ is), λ u z. absurd (waits_landed (sym (here x) ∙ z))) a (λ _. n.4 a),
        n.5,
      )))
      (λ _. moves g w i p q (i.procs p))
  publishes_ok j y (Asked n) b e d o = moves g w i p q (i.procs p)
  publishes_ok j y Done b e d o = moves g w i p q (i.procs p)

  acks_ok : (j : ℕ) (v : Stand) (last_one : Option Transaction) → q.outs j ≡ v → last q.text ≡ last_one → q.phase ≡ Acking → Draws s h p q.author q.producer → PhaseOk g s h q Acking →
      Invariant g (moved w p (acks g q s.count j v last_one))
  acks_ok j Todo (Some y) b e ph d o = cond_both (needs g y j) _ _ (λ r. Invariant g (moved w p r))
      (λ need.
      let l : 0 < q.author = o.0 in
      let r : Rules s h q.text q.author = o.1 in
      let own : Own h q.producer q.text q.clock = o.2 in
      let x = Ack j y.producer (ack y) in
      let t = sent s (Some x) in
      let ok = i.shared in
      let in_text : In (Committed y) q.text = last_in q.text y e in
      let in_log : In (Committed y) s.log = in_begins q.text s.log (Committed y) (since_begins q.author q.text s.log r.since) in_text in
      let m : CommitOk g s h y = ok.commits y in_log in
      let other : (b n : ℕ) → h.under n ≡ b → (b ≡ q.author → ⊥) → author_of s.log ≡ b → (a c : ℕ) → x ≡ Ack a n c → ⊥ =
      λ b n u f force a c z.
      let pn : y.producer ≡ n = cc in
      let abs : Absent (author_of s.log) q.text = foreign g s.sources s.outs q.text s.log ok.log (since_begins q.author q.text s.log r.since) (λ z. f (sym force ∙ sym z ∙ r.author)) in
      absent_in (author_of s.log) q.text y abs in_text (sym m.under ∙ ap h.under pn ∙ u ∙ sym force) in
      let is_last : (a n c : ℕ) → x ≡ Ack a n c → (z : Transaction) → last s.log ≡ Some z → z.producer ≡ n → c ≡ ack z =
      λ a n c f z lz pz.
      let pn : y.producer ≡ n = cc in
      let cn : ack y ≡ c = cc in
      let mz : CommitOk g s h z = ok.commits z (last_in s.log z lz) in
      let same : y ≡ z = same_last g s.sources s.outs q.author q.text s.log y z ok.log r.since r.author e lz (sym m.under ∙ ap h.under (pn ∙ sym pz) ∙ mz.under) in
      sym cn ∙ ap ack same in
      let state : (ack y < (seen s j y.producer).next) ⊎ (cur h y.producer ≡ Some y) = elim m.current [ inl z ↦ inr z | inr z ↦ inl (ack_next y.producer (ack y) (s.outs j) (z j need)) ] in
      let able : Sendable g s h q.author x h.pending = record {
        other = other;
        is_last = is_last;
        said = (y, in_log, refl, refl, need);
        waits = record { x = y; landed = in_log; producer = refl; clock = refl; needed = need; state = state };
        pends = λ b n z. z;
        same = λ b n. refl;
        low = λ b z. (ok.undrawn b z).1;
        free = λ b z. (ok.frees b z).4;
      } in
      sends g w i p (record q { outs = updated q.outs j (Asked s.count) }) x h.pending l able r.pending
      (record {
        draws = drawn_on x h.pending d;
        phase = subst (PhaseOk g t h (record q { outs = updated q.outs j (Asked s.count) })) (sym ph) (
          l,
          record { since = r.since; author = r.author; pending = r.pending },
          record { own = own.own; next = own.next },
          λ a. upd_each q.outs j (Asked s.count) (AckStand g t (last q.text)) (y, e, need, ap append_of (here x)) a (λ _. stands x (last q.text) a (q.outs a) (o.3 a)),
          λ f u n a c. upd_each s.slots s.count (Waits x) (λ m z. z ≡ Waits (Ack a q.producer c) → updated q.outs j (Asked s.count) a ≡ Asked m)
              (λ z. let aj : a ≡ j = (let z' : Waits (Ack j y.producer (ack y)) ≡ Waits (Ack a q.producer c) = z in cc) in
              ap (updated q.outs j (Asked s.count)) aj ∙ upd_here q.outs j (Asked s.count)) n
              (λ _ z. let b' : q.outs a ≡ Asked n = o.4 f u n a c z in
              upd_other q.outs j (Asked s.count) a (λ aj. todo_asked (sym b ∙ ap q.outs (sym aj) ∙ b')) ∙ b'),
        );
      }))
      (λ _. moves g w i p q (i.procs p))
    where
      todo_asked : {n : ℕ} → Todo ≡ Asked n → ⊥
      todo_asked {n = n} z = cc

      stands : (x : Append) (l : Option Transaction) (a : ℕ) (v : Stand) → AckStand g s l a v → AckStand g (sent s (Some x)) l a v
      stands x l a Todo k = tt
      stands x l a (Asked n) k = (k.0, k.1, k.2, ap append_of (old_slot g s h i.shared x n _ k.3) ∙ k.3)
      stands x l a Done k = k
  acks_ok j Todo None b e ph d o = moves g w i p q (i.procs p)
  acks_ok j (Asked n) u b e ph d o = moves g w i p q (i.procs p)
  acks_ok j Done u b e ph d o = moves g w i p q (i.procs p)

  pub ask_at_ok : (j : ℕ) (f : Phase) → q.phase ≡ f → Draws s h p q.author q.producer → PhaseOk g s h q f → Invariant g (moved w p (on_ask_at g q s.count j f))
  ask_at_ok j Acking e d o = acks_ok j (q.outs j) (last q.text) refl refl e d o
  ask_at_ok j (Publishing y) e d o = publishes_ok j y (q.outs j) refl e d o
  ask_at_ok j f e d o = moves g w i p q (i.procs p)
