-- A transaction begins: Reading, when messages were released. Its clocks are above all that its producer ever used, so every
-- reader takes its lines for new; it goes on from the last commit that the process knows.
use Rattle.std.proofs.Common.{◌≡◌, ℕ, ◌<◌, ◌≤◌, List, [], ◌∷◌, refl, ap, sym, ◌∙◌, arith, Bool, true, false, Some, None, subst, ◌⊎◌, inl, inr, ◌&&◌}
use Rattle.std.specs.Prelude.{nat_le}
use Rattle.std.proofs.lemmas.Bool.{cases_eq, leb-true, and_parts, true≢false}
use Rattle.gz_reader.specs.Lists.{In}
use Rattle.gz_reader.specs.Reader.{Message, updated}
use Rattle.gz_once.specs.Applications.{App, parts, each_below, reach}
use Rattle.gz_once.specs.Log.{Transaction, ack, lines, needs, last, offsets_of, store_of}
use Rattle.gz_once.specs.Processes.{Append, Handoff, Commit, Lines, Ack, Todo, Phase, Reading, Publishing, Process, Extent, on_consumed, transaction}
use Rattle.gz_once.specs.Worlds.{Waits, Shared, World, moved, can_read}
use Rattle.gz_reader.proofs.Updates.{some_same, none_some, upd_here, upd_other, upd_each}
use Rattle.gz_once.proofs.Texts.{each_at}
use Rattle.gz_reader.proofs.Appends.{Below, below_up, ack_next}
use Rattle.gz_once.proofs.TxLines.{lines_below, no_lines}
use Rattle.gz_once.proofs.Logs.{Settled}
use Rattle.gz_once.proofs.Facts.{Ghost, newest, cur, bound, seen, RestOk, WaitsOk, Own, Rules, PhaseOk, Draws, ProcOk, History, whose, SharedOk, Invariant}
use Rattle.gz_once.proofs.Frames.{spoken_up, Kept, proc_kept, idle_kept, commit_kept}
use Rattle.gz_once.proofs.Sends.{up_refl, moves}
use Rattle.gz_once.proofs.Taking.{landed_same}

-- a transaction begins with the producer n, whose transaction before is settled
module _ (g : App) (s : Shared) (h : Ghost) (ok : SharedOk g s h) (n a : ℕ) (x : Transaction) (of : x.producer ≡ n) (u : h.under n ≡ a) (pend : h.pending a ≡ None) (low : n ≤ s.drawn) (mine : s.own n ≡ true) (mine_too : s.free n ≡ false)
    (st : (y : Transaction) → cur h n ≡ Some y → Settled g s.outs y) (first : bound (cur h n) ≤ x.first) where
  abbrev kb : Ghost
  kb = record h { begun = updated h.begun n (x ∷ h.begun n) }

  cur_here : cur kb n ≡ Some x
  cur_here = ap newest (upd_here h.begun n (x ∷ h.begun n))

  cur_other : (p : ℕ) → (p ≡ n → ⊥) → cur kb p ≡ cur h p
  cur_other p d = ap newest (upd_other h.begun n (x ∷ h.begun n) p d)

  begun_kept : (b p : ℕ) → (p ≡ n → ⊥) → Kept g s s h kb b p
  begun_kept b p d = record {
    log = inl refl;
    outs = λ j m z. z;
    sources = up_refl g s.sources;
    holds = λ i x z. z;
    landed = λ i x z. z;
    refused = λ i x z. z;
    main = λ i x z _. z;
    acks = λ u i j c z. z;
    stock = λ u q x j z w m. m;
    low = λ u q x j z l. l;
    lines = λ u q x j i z w l m. inl m;
    pending = refl;
    begun = upd_other h.begun n (x ∷ h.begun n) p d;
    holder = (refl, refl);
    under = refl;
    drawn = omega arith;
    own = λ b z. z;
    taken = (λ z. z, λ z. z);
  }

  -- what is settled is acknowledged, or has no lines
  done : (j : ℕ) (y : Transaction) → cur h n ≡ Some y → (ack y < (seen s j n).next) ⊎ (lines g y j ≡ [])
  done j y c = by_needs (needs g y j) refl
    where
      by_needs : (v : Bool) → needs g y j ≡ v → (ack y < (seen s j n).next) ⊎ (lines g y j ≡ [])
      by_needs true e = inl (subst (λ p. ack y < (seen s j p).next) (whose n (h.begun n) y (ok.history n) c) (ack_next y.producer (ack y) (s.outs j) (st y c j e)))
      by_needs false e = inr (no_lines (lines g y j) e)

  -- so its lines aren't in a chain
  not_open : (j : ℕ) (y : Transaction) → cur h n ≡ Some y → (seen s j n).next ≤ y.first → lines g y j ≡ []
  not_open j y c l = elim (done j y c) [ inl m ↦ absurd (omega (arith, l, m)) | inr m ↦ m ]

  next_low : (j : ℕ) → (seen s j n).next ≤ x.first
  next_low j = let l = (ok.rests j n mine).level in omega (arith, l, first)

  begun_rest_here : (j : ℕ) → RestOk g s kb j n
  begun_rest_here j = let l = next_low j in record {
    chain = elim ((ok.rests j n mine).chain) [ inl z ↦ inl z | inr z ↦ inl (z.2 ∙ not_open j z.0 z.1 z.3) ];
    level = subst (λ o. (seen s j n).next ≤ bound o) (sym cur_here) (omega (arith, l));
    steps = λ y c. inl (subst (λ v. (seen s j n).next ≤ v.first) (some_same (sym cur_here ∙ c)) l);
  }

  begun_rest : (j p : ℕ) → s.own p ≡ true → RestOk g s kb j p
  begun_rest j p own = elim (cases_eq p n) [
    | inl z ↦ subst (RestOk g s kb j) (sym z) (begun_rest_here j)
    | inr d ↦ (let r = ok.rests j p own in let e = cur_other p d in record {
      chain = elim r.chain [ inl z ↦ inl z | inr z ↦ inr (z.0, e ∙ z.1, z.2, z.3) ];
      level = subst (λ o. (seen s j p).next ≤ bound o) (sym e) r.level;
      steps = λ y c. r.steps y (sym e ∙ c);
    })
  ]

  begun_waits : (i : ℕ) (y : Append) → s.slots i ≡ Waits y → WaitsOk g s h i y → WaitsOk g s kb i y
  begun_waits i (Handoff b o nn) z w = record { pending = w.pending; pos = w.pos; drawn = w.drawn; taken = w.taken; absent = w.absent; base = w.base }
  begun_waits i (Commit y) z w = commit_kept g s s h kb i y (begun_kept y.author y.producer
      (λ q. none_some (sym pend ∙ ap h.pending (sym u ∙ ap h.under (sym q) ∙ w.under) ∙ w.pending))) z w
  begun_waits i (Lines j p ls) z w = elim (cases_eq p n) [
    | inl q ↦ record {
      own = w.own;
      lines = elim w.lines [
        | inl l ↦ inl l
        | inr l ↦ (let c : cur h n ≡ Some l.0 = ap (cur h) (sym q) ∙ l.1 in elim (done j l.0 c) [
          | inl m ↦ inl (subst (Below (seen s j p).next) (sym l.2) (below_up (ack l.0) (seen s j p).next (lines g l.0 j) (subst (λ v. ack l.0 ≤ (seen s j v).next) (sym q) (omega (arith, m))) (lines_below g l.0 j)))
          | inr m ↦ inl (subst (Below (seen s j p).next) (sym (l.2 ∙ m)) tt)
        ])
      ];
    }
    | inr d ↦ record { own = w.own; lines = elim w.lines [ inl l ↦ inl l | inr l ↦ inr (l.0, cur_other p d ∙ l.1, l.2) ] }
  ]
  begun_waits i (Ack j p c) z w = record {
    x = w.x;
    landed = w.landed;
    producer = w.producer;
    clock = w.clock;
    needed = w.needed;
    state = elim w.state [
      | inl l ↦ inl l
      | inr l ↦ elim (cases_eq p n) [
        | inl q ↦ (let c' : cur h n ≡ Some w.x = ap (cur h) (sym q) ∙ l in
            inl (subst (λ v. c < (seen s j v).next) w.producer (subst (λ v. v < (seen s j (w.x).producer).next) w.clock (ack_next (w.x).producer (ack w.x) (s.outs j) (st w.x c' j w.needed)))))
        | inr d ↦ inr (cur_other p d ∙ l)
      ]
    ];
  }

  pub begun_shared : SharedOk g s kb
  begun_shared = record {
    log = ok.log;
    authors = ok.authors;
    commits = λ y i. let c = ok.commits y i in record {
      under = c.under;
      pos = c.pos;
      own = c.own;
      taken = c.taken;
      drawn = c.drawn;
      current = elim c.current [
        | inl z ↦ elim (cases_eq y.producer n) [ inl q ↦ inr (st y (ap (cur h) (sym q) ∙ z)) | inr d ↦ inl (cur_other y.producer d ∙ z) ]
        | inr z ↦ inr z
      ];
    };
    rests = begun_rest;
    outs = λ j. elim (ok.outs j) [
      | inl o ↦ inl (record { accepted = o.accepted; acked = o.acked })
      | inr o ↦ inr (record {
        x = o.x;
        is_last = o.is_last;
        accepted = o.accepted;
        needed = o.needed;
        chain = o.chain;
        low = o.low;
        current = cur_other (o.x).producer (λ q.
            let c : cur h n ≡ Some o.x = ap (cur h) (sym q) ∙ o.current in
            let l = ack_next (o.x).producer (ack o.x) (s.outs j) (st o.x c j o.needed) in omega (arith, l, o.low)) ∙ o.current;
        sole = o.sole;
      })
    ];
    waits = λ i y z. begun_waits i y z (ok.waits i y z);
    landed = λ i y z. landed_same s s (λ j m q. q) y (ok.landed i y z);
    frees = λ b z. let u = ok.frees b z in (u.0, u.1, u.2, upd_other h.begun n (x ∷ h.begun n) b (λ q. true≢false (sym z ∙ ap s.free q ∙ mine_too)) ∙ u.3, u.4);
    fresh = ok.fresh;
    register = ok.register;
    spoken = spoken_up g s s h kb (λ y z. z) (λ p y z. upd_each h.begun n (x ∷ h.begun n) (λ m xs. In y (h.begun m) → In y xs) (λ z. inr z) p (λ _ z. z) z) (λ m y z. inl z) (λ j m z w. inl (z, w)) (λ y z. inl z) ok.spoken;
    history = λ p. upd_each h.begun n (x ∷ h.begun n) (λ m xs. History m xs) (of, first, ok.history n) p (λ _. ok.history p);
    undrawn = λ p l. (upd_other h.begun n (x ∷ h.begun n) p (λ z. omega arith) ∙ (ok.undrawn p l).0, (ok.undrawn p l).1, (ok.undrawn p l).2);
    low = ok.low;
    heard = ok.heard;
  }

  pub begun_other : (p m : ℕ) (q : Process) → h.holder n ≡ p → (m ≡ p → ⊥) → ProcOk g s h m q → ProcOk g s kb m q
  begun_other p m q own d o = elim (cases_eq q.author 0) [
    | inl z ↦ idle_kept g s s h kb m q z (λ b. b) (omega arith) o
    | inr z ↦ proc_kept g s s h kb q (begun_kept q.author q.producer (λ y. d (sym (((o.draws).holder (omega (arith, z))).1) ∙ ap h.holder y ∙ own))) m o
  ]

  pub begun_cur : cur kb n ≡ Some x
  begun_cur = cur_here

  pub begun_low : (j : ℕ) → (seen s j n).next ≤ x.first
  begun_low = next_low

can_follow : (g : App) (w : World) (p : ℕ) (to : ℕ → ℕ) → can_read g w p to ≡ true → (k : ℕ) → k < g.sources →
    (offsets_of g (last (w.procs p).text) k ≤ to k) × (to k ≤ reach g k (w.shared.sources k))
can_follow g w p to e k l =
    let f : ℕ → Bool = λ k. nat_le (offsets_of g (last (w.procs p).text) k) (to k) && nat_le (to k) (reach g k (w.shared.sources k)) in
    let h = and_parts (nat_le (offsets_of g (last (w.procs p).text) k) (to k)) (nat_le (to k) (reach g k (w.shared.sources k))) (each_at g.sources f e k l) in
    (leb-true (offsets_of g (last (w.procs p).text) k) (to k) h.0, leb-true (to k) (reach g k (w.shared.sources k)) h.1)

pub consumed_ok : (g : App) (w : World) (i : Invariant g w) (p : ℕ) (skip : Extent) (to : ℕ → ℕ) (ms : List Message) → can_read g w p to ≡ true → ms ≡ parts g g.sources w.shared.sources (offsets_of g (last (w.procs p).text)) to →
    (f : Phase) → (w.procs p).phase ≡ f → Draws w.shared i.h p (w.procs p).author (w.procs p).producer → PhaseOk g w.shared i.h (w.procs p) f → Invariant g (moved w p (on_consumed g (w.procs p) skip to ms f))
consumed_ok g w i p skip to [] can is f e d o = moves g w i p (w.procs p) (i.procs p)
consumed_ok g w i p skip to (m ∷ ms) can is Reading e d o =
    let q = w.procs p in let s = w.shared in let h = i.h in let ok = i.shared in
    let x = transaction g q skip to (m ∷ ms) in
    let r : Rules s h q.text q.author = o.1 in
    let own : Own h q.producer q.text q.clock = o.3 in
    let st : (y : Transaction) → cur h q.producer ≡ Some y → Settled g s.outs y = λ y c. elim own.own [ inl z ↦ absurd (none_some (sym z ∙ c)) | inr z ↦ o.2 y (sym z ∙ c) ] in
    let k = record h { begun = updated h.begun q.producer (x ∷ h.begun q.producer) } in
    let q' = record q { phase = Publishing x; outs = λ j. Todo } in
    record {
      h = k;
      shared = begun_shared g s h ok q.producer q.author x refl (d.under o.0) r.pending (d.author).1 (d.own o.0) (d.taken o.0).1 st (let e = own.next in omega arith);
      procs = λ n. upd_each w.procs p q' (λ n r. ProcOk g s k n r)
          (record {
            draws = record { author = d.author; holder = d.holder; under = d.under; pos = d.pos; own = d.own; taken = d.taken };
            phase = (
              o.0,
              record { since = r.since; author = r.author; pending = r.pending },
              record {
                author = refl;
                producer = refl;
                seq = refl;
                current = begun_cur g s h ok q.producer q.author x refl (d.under o.0) r.pending (d.author).1 (d.own o.0) (d.taken o.0).1 st (let e = own.next in omega arith);
                follows = record { within = can_follow g w p to can; state = ap (λ l. Rattle.gz_once.specs.Applications.fold g (store_of q.text) l) is; emitted = ap (λ l. Rattle.gz_once.specs.Applications.emits g (store_of q.text) l) is };
                settled = o.2;
              },
              o.4,
              λ j. tt,
              λ _ j. begun_low g s h ok q.producer q.author x refl (d.under o.0) r.pending (d.author).1 (d.own o.0) (d.taken o.0).1 st (let e = own.next in omega arith) j,
            );
          })
          n (λ f. begun_other g s h ok q.producer q.author x refl (d.under o.0) r.pending (d.author).1 (d.own o.0) (d.taken o.0).1 st (let e = own.next in omega arith) p n (w.procs n) ((d.holder o.0).1) f (i.procs n));
    }
consumed_ok g w i p skip to (m ∷ ms) can is f e d o = moves g w i p (w.procs p) (i.procs p)
