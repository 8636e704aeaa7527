-- An append to the log is judged: what every fact on others comes to. An append that is refused, for which nothing landed, leaves
-- its process free to send the same again.
use Rattle.std.proofs.Common.{◌≡◌, ℕ, ◌<◌, ◌≤◌, List, refl, ap, sym, ◌∙◌, arith, true, Option, Some, None, subst, ◌⊎◌, inl, inr}
use Rattle.std.proofs.lemmas.Bool.{cases_eq}
use Rattle.gz_reader.specs.Lists.{In, Begins}
use Rattle.gz_reader.specs.Reader.{Line, updated}
use Rattle.gz_once.specs.Applications.{App}
use Rattle.gz_once.specs.Log.{Transaction, lines, Entry, Committed, last}
use Rattle.gz_once.specs.Processes.{Append, Handoff, Commit, Lines, Ack, Process}
use Rattle.gz_once.specs.Worlds.{Slot, Waits, Landed, Refused, Shared, mark, append_of}
use Rattle.gz_once.proofs.Facts.{want, before}
use Rattle.gz_reader.proofs.Updates.{some_same, upd_here, upd_other, upd_each}
use Rattle.gz_once.proofs.Logs.{Absent}
use Rattle.gz_once.proofs.Facts.{Ghost, Stock, RestOk, OutOk, CommitOk, HandoffWaits, CommitWaits, LinesWait, AckWaits, WaitsOk, LandedOk, ProcOk, SharedOk}
use Rattle.gz_once.proofs.Frames.{spoken_up, Kept, OfLog, proc_kept, idle_kept, commit_kept}
use Rattle.gz_once.proofs.Judged.{still_held, Judgement, judged_refused, still_waits, fresh_on, judged_kept, involved}

-- the ghost's pending appends once x was judged
abbrev pub after : (ℕ → Option ℕ) → Append → ℕ → Option ℕ
after f (Handoff b o nn) = updated f b None
after f (Commit y) = updated f y.author None
after f _ = f

pub after_other : (f : ℕ → Option ℕ) (x : Append) (c : ℕ) → (OfLog c x → ⊥) → after f x c ≡ f c
after_other f (Handoff b o nn) c d = upd_other f b None c (λ z. d (sym z))
after_other f (Commit y) c d = upd_other f y.author None c (λ z. d (sym z))
after_other f (Lines j p ls) c d = refl
after_other f (Ack j p a) c d = refl

none_upd : (f : ℕ → Option ℕ) (b c : ℕ) → f c ≡ None → updated f b None c ≡ None
none_upd f b c e = upd_each f b None (λ n r. f n ≡ None → r ≡ None) (λ _. refl) c (λ _ z. z) e

pub after_none : (f : ℕ → Option ℕ) (x : Append) (c : ℕ) → f c ≡ None → after f x c ≡ None
after_none f (Handoff b o nn) c e = none_upd f b c e
after_none f (Commit y) c e = none_upd f y.author c e
after_none f (Lines j p ls) c e = e
after_none f (Ack j p a) c e = e

of_log : (a : ℕ) (x : Append) → OfLog a x ⊎ (OfLog a x → ⊥)
of_log a (Handoff b o nn) = cases_eq b a
of_log a (Commit y) = cases_eq y.author a
of_log a (Lines j p ls) = inr (λ z. z)
of_log a (Ack j p c) = inr (λ z. z)

module _ (g : App) (s : Shared) (h : Ghost) (ok : SharedOk g s h) (i : ℕ) (x : Append) (e : s.slots i ≡ Waits x) where
  pub pend_of : (y : Append) (a m : ℕ) → OfLog a y → WaitsOk g s h m y → h.pending a ≡ Some m
  pend_of (Handoff b o nn) a m z w = ap h.pending (sym z) ∙ w.pending
  pend_of (Commit y) a m z w = ap h.pending (sym z) ∙ w.pending
  pend_of (Lines j p ls) a m z w = absurd z
  pend_of (Ack j p c) a m z w = absurd z

  -- who has another append that waits isn't its author
  pub not_of : (y : Append) (c m : ℕ) → OfLog c y → (m ≡ i → ⊥) → WaitsOk g s h m y → OfLog c x → ⊥
  not_of y c m z d w q = d (some_same (sym (pend_of y c m z w) ∙ pend_of x c i q (ok.waits i x e)))

  pub pends_on : (y : Append) (c m : ℕ) → OfLog c y → (m ≡ i → ⊥) → WaitsOk g s h m y → after h.pending x c ≡ Some m
  pends_on y c m z d w = after_other h.pending x c (not_of y c m z d w) ∙ pend_of y c m z w

  -- appends to outputs wait on, where the outputs stay and the log grows
  module _ (l : List Entry) (rg : ℕ) (v : Slot) (jd : Judgement x v) (f : ℕ → Option ℕ) (more : (y : Entry) → In y s.log → In y l) where
    abbrev t1 : Shared
    t1 = record s { log = l; register = rg; slots = updated s.slots i v }

    abbrev k1 : Ghost
    k1 = record h { pending = f }

    pub lines_on : (j p : ℕ) (ls : List Line) → LinesWait g s h j p ls → LinesWait g t1 k1 j p ls
    lines_on j p ls w = record { own = w.own; lines = w.lines }

    pub ack_on : (j p c : ℕ) → AckWaits g s h j p c → AckWaits g t1 k1 j p c
    ack_on j p c w = record { x = w.x; landed = more (Committed w.x) w.landed; producer = w.producer; clock = w.clock; needed = w.needed; state = w.state }

    pub rest_on : (j p : ℕ) → s.own p ≡ true → RestOk g t1 k1 j p
    rest_on j p z = let r = ok.rests j p z in record { chain = r.chain; level = r.level; steps = r.steps }

    pub commit_on : (y : Transaction) → CommitOk g s h y → CommitOk g t1 k1 y
    commit_on y c = record { under = c.under; pos = c.pos; own = c.own; taken = c.taken; drawn = c.drawn; current = c.current }

    -- its outputs too, where the new entry is no commit
    pub out_on : last l ≡ last s.log → ((j : ℕ) → want g j l ≡ want g j s.log) → ((j : ℕ) → before g j l ≡ before g j s.log) → (j : ℕ) → OutOk g t1 k1 j
    out_on same w b j = elim (ok.outs j) [
      | inl o ↦ inl (record { accepted = o.accepted ∙ sym (w j); acked = λ y z. o.acked y (sym same ∙ z) })
      | inr o ↦ inr (record {
        x = o.x;
        is_last = same ∙ o.is_last;
        accepted = o.accepted ∙ sym (b j);
        needed = o.needed;
        chain = o.chain;
        low = o.low;
        current = o.current;
        sole = λ m c z. o.sole m c (still_waits g s h ok i x e v jd m (Ack j (o.x).producer c) z).1;
      })
    ]

    -- what was judged before
    pub landed_on : LandedOk s x → (m : ℕ) (y : Append) → updated s.slots i v m ≡ Landed y → LandedOk s y
    landed_on q m y = upd_each s.slots i v (λ n r. r ≡ Landed y → LandedOk s y) (λ z. subst (LandedOk s) (some_same (sym jd.0 ∙ ap append_of z)) q) m (λ _ z. ok.landed m y z)

    pub landed_as : (y : Append) → LandedOk s y → LandedOk t1 y
    landed_as (Handoff b o nn) q = tt
    landed_as (Commit z) q = tt
    landed_as (Lines j p ls) q = tt
    landed_as (Ack j p c) q = q

  -- it is refused
  abbrev tr : Shared
  tr = mark s i (Refused x)

  abbrev kr : Ghost
  kr = record h { pending = after h.pending x }

  refused_kept : (a p : ℕ) → (OfLog a x → ⊥) → Kept g s tr h kr a p
  refused_kept a p d = judged_kept g s h ok i x e (Refused x) (judged_refused x) s.log s.register s.outs (after h.pending x) a p (inl refl) (λ j m z. z)
      (λ u n y j c q b. b) (λ u n y j c b. b) (λ u n y j c q b z. absurd (let z' : Refused x ≡ Landed (Lines j p (lines g y j)) = z in cc)) (after_other h.pending x a d) d

  refused_waits : (m : ℕ) (y : Append) → (m ≡ i → ⊥) → tr.slots m ≡ Waits y → WaitsOk g s h m y → WaitsOk g tr kr m y
  refused_waits m (Handoff b o nn) d z w = record { pending = pends_on (Handoff b o nn) b m refl d w; pos = w.pos; drawn = w.drawn; taken = w.taken; absent = w.absent; base = w.base }
  refused_waits m (Commit y) d z w = commit_kept g s tr h kr m y (refused_kept y.author y.producer (not_of (Commit y) y.author m refl d w)) z w
  refused_waits m (Lines j p ls) d z w = lines_on s.log s.register (Refused x) (judged_refused x) (after h.pending x) (λ y q. q) j p ls w
  refused_waits m (Ack j p c) d z w = ack_on s.log s.register (Refused x) (judged_refused x) (after h.pending x) (λ y q. q) j p c w

  pub refused_shared : SharedOk g tr kr
  refused_shared = record {
    log = ok.log;
    authors = ok.authors;
    commits = λ y q. commit_on s.log s.register (Refused x) (judged_refused x) (after h.pending x) (λ y q. q) y (ok.commits y q);
    rests = rest_on s.log s.register (Refused x) (judged_refused x) (after h.pending x) (λ y q. q);
    outs = out_on s.log s.register (Refused x) (judged_refused x) (after h.pending x) (λ y q. q) refl (λ j. refl) (λ j. refl);
    waits = λ m y z. let q = still_waits g s h ok i x e (Refused x) (judged_refused x) m y z in refused_waits m y q.0 z (ok.waits m y q.1);
    landed = λ m y. upd_each s.slots i (Refused x) (λ n r. r ≡ Landed y → LandedOk tr y) (λ z. absurd (let z' : Refused x ≡ Landed y = z in cc)) m
        (λ _ z. landed_as s.log s.register (Refused x) (judged_refused x) (after h.pending x) (λ y q. q) y (ok.landed m y z));
    fresh = fresh_on g s h ok i x e (Refused x) (judged_refused x);
    register = ok.register;
    spoken = spoken_up g s tr h kr (λ y z. z) (λ p y z. z) (λ m y z. inl (still_held g s h ok i x e (Refused x) (judged_refused x) m y z)) (λ j m z w. inl (z, w)) (λ y z. inl z) ok.spoken;
    history = ok.history;
    undrawn = λ p l. let u = ok.undrawn p l in (u.0, after_none h.pending x p u.1, u.2);
    low = ok.low;
    heard = ok.heard;
    frees = λ b z. let u = ok.frees b z in (u.0, u.1, u.2, u.3, after_none h.pending x b u.4);
  }

  -- a process, by whether the append is its own to the log
  pub other_or_own : (t : Shared) (k : Ghost) (m : ℕ) (q : Process) → (Begins q.text s.log → Begins q.text t.log) → s.drawn ≤ t.drawn →
      ((OfLog q.author x → ⊥) → Kept g s t h k q.author q.producer) → (0 < q.author → OfLog q.author x → ProcOk g t k m q) → ProcOk g s h m q → ProcOk g t k m q
  other_or_own t k m q b l kept own o = elim (cases_eq q.author 0) [
    | inl z ↦ idle_kept g s t h k m q z b l o
    | inr z ↦ elim (of_log q.author x) [ inl r ↦ own (omega (arith, z)) r | inr r ↦ proc_kept g s t h k q (kept r) m o ]
  ]

module _ (g : App) (s : Shared) (h : Ghost) (ok : SharedOk g s h) (i : ℕ) where
  refused_own : (x : Append) (e : s.slots i ≡ Waits x) (m : ℕ) (q : Process) → 0 < q.author → OfLog q.author x → ProcOk g s h m q → ProcOk g (mark s i (Refused x)) (record h { pending = after h.pending x }) m q
  refused_own (Handoff b n nn) e m q l r o =
      let w : HandoffWaits s h i b n nn = ok.waits i (Handoff b n nn) e in
      involved g s h ok i (Handoff b n nn) e (Refused (Handoff b n nn)) (judged_refused (Handoff b n nn)) s.log s.register b m q w.pending (sym r) l
      (λ z c. (c, (ap (updated h.pending b None) (sym r) ∙ upd_here h.pending b None, subst (λ a. Absent a s.log) r w.absent)))
      (λ y z f c. cc) o
  refused_own (Commit x) e m q l r o =
      let w : CommitWaits g s h i x = ok.waits i (Commit x) e in
      involved g s h ok i (Commit x) e (Refused (Commit x)) (judged_refused (Commit x)) s.log s.register x.author m q w.pending (sym r) l
      (λ z c. cc)
      (λ y z f c. let xy : x ≡ y = (let z' : Commit x ≡ Commit y = z in cc) in (
        ap (updated h.pending x.author None) (sym r) ∙ upd_here h.pending x.author None,
        c,
        λ u a j d v. let b = still_waits g s h ok i (Commit x) e (Refused (Commit x)) (judged_refused (Commit x)) a (Ack j q.producer d) v in
            (w.ready (u ∙ sym r)).quiet a j d (b.1 ∙ ap (λ n. Waits (Ack j n d)) (sym f.producer ∙ ap (λ n. n.producer) (sym xy))),
        λ u j. subst (λ n. Stock g s n j) xy ((w.ready (u ∙ sym r)).stock j),
      )) o
  refused_own (Lines j p ls) e m q l r o = absurd r
  refused_own (Ack j p c) e m q l r o = absurd r

  pub refused_proc : (x : Append) (e : s.slots i ≡ Waits x) (m : ℕ) (q : Process) → ProcOk g s h m q → ProcOk g (mark s i (Refused x)) (record h { pending = after h.pending x }) m q
  refused_proc x e m q o = other_or_own g s h ok i x e (mark s i (Refused x)) (record h { pending = after h.pending x }) m q (λ b. b) (omega arith)
      (λ d. refused_kept g s h ok i x e q.author q.producer d) (λ l r. refused_own x e m q l r o) o
