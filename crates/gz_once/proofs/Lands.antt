-- A handoff lands: its author is in force from now on, and nothing that is known of the author before holds any more. A commit lands:
-- its author is in force, so it goes on from the log, and its lines wait with each reader for their acknowledgement.
use Rattle.std.proofs.Common.{◌≡◌, ℕ, ◌+◌, ◌≤◌, List, ◌∷◌, ◌++◌, refl, ap, sym, ◌∙◌, arith, Bool, true, false, None, subst, inl, inr, append-nil}
use Rattle.std.proofs.lemmas.Bool.{true≢false}
use Rattle.gz_reader.specs.Lists.{In}
use Rattle.gz_reader.specs.Reader.{read, updated}
use Rattle.gz_once.specs.Applications.{App}
use Rattle.gz_once.specs.Log.{Transaction, ack, lines, needs, Entry, Handed, Committed, by, author_of, count, end_of}
use Rattle.gz_once.specs.Processes.{Append, Handoff, Commit, Lines, Ack, Process}
use Rattle.gz_once.specs.Worlds.{Waits, Landed, Shared, put, mark, append_of}
use Rattle.gz_reader.specs.Reader.{values_of}
use Rattle.gz_once.proofs.Facts.{want}
use Rattle.gz_reader.proofs.Updates.{some_same, upd_here, upd_each}
use Rattle.gz_reader.proofs.Appends.{ack_next}
use Rattle.gz_once.proofs.TxLines.{no_values}
use Rattle.gz_once.proofs.Logs.{ends_same, LastSettled, since_same}
use Rattle.gz_once.proofs.Facts.{Ghost, OutOk, CommitOk, Ready, HandoffWaits, CommitWaits, WaitsOk, LandedOk, ProcOk, SharedOk, newest_in}
use Rattle.gz_once.proofs.Frames.{spoken_up, Kept, new, commit_kept}
use Rattle.gz_once.proofs.Judged.{still_held, judged_landed, still_waits, fresh_on, judged_kept, involved}
use Rattle.gz_once.proofs.Entries.{after, after_other, after_none, not_of, pends_on, lines_on, ack_on, rest_on, commit_on, out_on, landed_as, other_or_own}

-- the last commit's acknowledgements are in, so its lines don't wait
pub no_open : (g : App) (s : Shared) (h : Ghost) → LastSettled g s.outs s.log → (j : ℕ) → OutOk g s h j → values_of s.own (read (s.outs j)).accepted ≡ want g j s.log
no_open g s h st j o = elim o [
  | inl a ↦ a.accepted
  | inr a ↦ absurd (
      let l = ack_next (a.x).producer (ack a.x) (s.outs j) (st a.x a.is_last j a.needed) in
      omega (arith, l, a.low))
]

module _ (g : App) (s : Shared) (h : Ghost) (ok : SharedOk g s h) (i b o nn : ℕ) (e : s.slots i ≡ Waits (Handoff b o nn)) (at : (o ≡ end_of s.log)) where
  abbrev x : Append
  x = Handoff b o nn

  abbrev l : List Entry
  l = Handed b nn ∷ s.log

  abbrev t : Shared
  t = mark (put s x) i (Landed x)

  abbrev k : Ghost
  k = record h { pending = after h.pending x }

  w : HandoffWaits s h i b o nn
  w = ok.waits i x e

  hand_kept : (a p : ℕ) → (b ≡ a → ⊥) → Kept g s t h k a p
  hand_kept a p d = judged_kept g s h ok i x e (Landed x) (judged_landed x) l b s.outs (after h.pending x) a p (inr (new (Handed b nn) refl d refl)) (λ j m z. z)
      (λ u n y j c q b. b) (λ u n y j c b. b) (λ u n y j c q b z. absurd (let z' : Landed x ≡ Landed (Lines j p (lines g y j)) = z in cc)) (after_other h.pending x a d) d

  hand_waits : (m : ℕ) (y : Append) → (m ≡ i → ⊥) → t.slots m ≡ Waits y → WaitsOk g s h m y → WaitsOk g t k m y
  hand_waits m (Handoff c n nn) d z v = record {
    pending = pends_on g s h ok i x e (Handoff c n nn) c m refl d v;
    pos = v.pos;
    drawn = v.drawn;
    taken = v.taken;
    absent = (not_of g s h ok i x e (Handoff c n nn) c m refl d v, v.absent);
    base = (let u = v.base in (u.0, inr u.1, u.2, u.3));
  }
  hand_waits m (Commit y) d z v = commit_kept g s t h k m y (hand_kept y.author y.producer (not_of g s h ok i x e (Commit y) y.author m refl d v)) z v
  hand_waits m (Lines j p ls) d z v = lines_on g s h ok i x e l b (Landed x) (judged_landed x) (after h.pending x) (λ y q. inr q) j p ls v
  hand_waits m (Ack j p c) d z v = ack_on g s h ok i x e l b (Landed x) (judged_landed x) (after h.pending x) (λ y q. inr q) j p c v

  -- the number that it has is the next one
  numbered : nn ≡ count s.log + 1
  numbered = let u = w.base in let same : u.0 ≡ s.log = ends_same u.0 s.log u.1 (let e1 = u.2 in omega (arith, at, e1)) in u.3 ∙ ap (λ v. count v + 1) same

  pub hand_shared : SharedOk g t k
  hand_shared = record {
    log = (numbered, w.absent, ok.log);
    authors = λ f q. elim q [ inl z ↦ subst (λ n. (by n ≤ s.drawn) × (s.free (by n) ≡ false)) (sym z) (w.drawn, w.taken) | inr z ↦ ok.authors f z ];
    commits = λ y q. elim q [
      | inl z ↦ absurd (let z' : Committed y ≡ Handed b nn = z in cc)
      | inr z ↦ commit_on g s h ok i x e l b (Landed x) (judged_landed x) (after h.pending x) (λ y q. inr q) y (ok.commits y z)
    ];
    rests = rest_on g s h ok i x e l b (Landed x) (judged_landed x) (after h.pending x) (λ y q. inr q);
    outs = out_on g s h ok i x e l b (Landed x) (judged_landed x) (after h.pending x) (λ y q. inr q) refl (λ j. refl) (λ j. refl);
    waits = λ m y z. let q = still_waits g s h ok i x e (Landed x) (judged_landed x) m y z in hand_waits m y q.0 z (ok.waits m y q.1);
    landed = λ m y. upd_each s.slots i (Landed x) (λ n r. r ≡ Landed y → LandedOk t y) (λ z. subst (LandedOk t) (some_same (ap append_of z)) tt) m
        (λ _ z. landed_as g s h ok i x e l b (Landed x) (judged_landed x) (after h.pending x) (λ y q. inr q) y (ok.landed m y z));
    fresh = fresh_on g s h ok i x e (Landed x) (judged_landed x);
    register = inr refl;
    spoken = spoken_up g s t h k (λ y z. inr z) (λ p y z. z) (λ m y z. inl (still_held g s h ok i x e (Landed x) (judged_landed x) m y z)) (λ j m z w. inl (z, w))
        (λ y z. elim z [ inl q ↦ absurd (let z' : Committed y ≡ Handed b nn = q in cc) | inr q ↦ inl q ]) ok.spoken;
    history = ok.history;
    undrawn = λ p z. let u = ok.undrawn p z in (u.0, after_none h.pending x p u.1, u.2);
    low = ok.low;
    heard = ok.heard;
    frees = λ b z. let u = ok.frees b z in (u.0, u.1, u.2, u.3, after_none h.pending x b u.4);
  }

  pub hand_proc : (m : ℕ) (q : Process) → ProcOk g s h m q → ProcOk g t k m q
  hand_proc m q c = other_or_own g s h ok i x e t k m q (λ z. inr z) (omega arith) (λ d. hand_kept q.author q.producer d)
      (λ u r. involved g s h ok i x e (Landed x) (judged_landed x) l b b m q w.pending (sym r) u
      (λ z n.
      let ol : o ≡ end_of q.text = cc in
      let kl : nn ≡ count q.text + 1 = cc in
      let same : q.text ≡ s.log = ends_same q.text s.log n (omega (arith, at, ol)) in
      let mine : Handed q.author (count q.text + 1) ∷ q.text ≡ l = ap₂ (λ y z. Handed y z ∷ q.text) (sym r) (sym kl) ∙ ap (λ y. Handed b nn ∷ y) same in
      (inr n, (ap (updated h.pending b None) (sym r) ∙ upd_here h.pending b None, inl mine)))
      (λ y z f n. cc) c) c
    where
      ap₂ : {A B C : Type 0} (f : A → B → C) {u v : A} {m n : B} → u ≡ v → m ≡ n → f u m ≡ f v n
      ap₂ f {u = u} {v = v} {m = m} {n = n} d e = ap (λ y. f y m) d ∙ ap (f v) e

module _ (g : App) (s : Shared) (h : Ghost) (ok : SharedOk g s h) (i : ℕ) (x : Transaction) (e : s.slots i ≡ Waits (Commit x)) (force : x.author ≡ author_of s.log) where
  abbrev cx : Append
  cx = Commit x

  abbrev lc : List Entry
  lc = Committed x ∷ s.log

  abbrev tc : Shared
  tc = mark (put s cx) i (Landed cx)

  abbrev kc : Ghost
  kc = record h { pending = after h.pending cx }

  wc : CommitWaits g s h i x
  wc = ok.waits i cx e

  rc : Ready g s h x
  rc = wc.ready (sym force)

  comm_kept : (a p : ℕ) → (x.author ≡ a → ⊥) → Kept g s tc h kc a p
  comm_kept a p d = judged_kept g s h ok i cx e (Landed cx) (judged_landed cx) lc s.register s.outs (after h.pending cx) a p (inr (new (Committed x) refl d (sym force))) (λ j m z. z)
      (λ u n y j c q b. b) (λ u n y j c b. b) (λ u n y j c q b z. absurd (let z' : Landed cx ≡ Landed (Lines j p (lines g y j)) = z in cc)) (after_other h.pending cx a d) d

  comm_waits : (m : ℕ) (y : Append) → (m ≡ i → ⊥) → tc.slots m ≡ Waits y → WaitsOk g s h m y → WaitsOk g tc kc m y
  comm_waits m (Handoff c n nn) d z v = record {
    pending = pends_on g s h ok i cx e (Handoff c n nn) c m refl d v;
    pos = v.pos;
    drawn = v.drawn;
    taken = v.taken;
    absent = (not_of g s h ok i cx e (Handoff c n nn) c m refl d v, v.absent);
    base = (let u = v.base in (u.0, inr u.1, u.2, u.3));
  }
  comm_waits m (Commit y) d z v = commit_kept g s tc h kc m y (comm_kept y.author y.producer (not_of g s h ok i cx e (Commit y) y.author m refl d v)) z v
  comm_waits m (Lines j p ls) d z v = lines_on g s h ok i cx e lc s.register (Landed cx) (judged_landed cx) (after h.pending cx) (λ y q. inr q) j p ls v
  comm_waits m (Ack j p c) d z v = ack_on g s h ok i cx e lc s.register (Landed cx) (judged_landed cx) (after h.pending cx) (λ y q. inr q) j p c v

  -- nothing of its producer waits to be acknowledged
  quiet_on : (m j c : ℕ) → tc.slots m ≡ Waits (Ack j x.producer c) → ⊥
  quiet_on m j c z = rc.quiet m j c (still_waits g s h ok i cx e (Landed cx) (judged_landed cx) m (Ack j x.producer c) z).1

  comm_out : (j : ℕ) (n : Bool) → needs g x j ≡ n → OutOk g tc kc j
  comm_out j true n = let st = rc.stock j n in
      inr (record {
        x = x;
        is_last = refl;
        accepted = no_open g s h rc.settled j (ok.outs j);
        needed = n;
        chain = st.0;
        low = st.1;
        current = wc.current;
        sole = λ m c z. absurd (quiet_on m j c z);
      })
  comm_out j false n = inl (record {
    accepted = no_open g s h rc.settled j (ok.outs j) ∙ sym (ap (λ v. want g j s.log ++ v) (no_values g x j n) ∙ append-nil (want g j s.log));
    acked = λ y z m. absurd (true≢false (sym m ∙ ap (λ v. needs g v j) (sym (some_same z)) ∙ n));
  })

  pub comm_shared : SharedOk g tc kc
  comm_shared = record {
    log = (rc.seq, force, rc.follows, rc.settled, ok.log);
    authors = λ f q. elim q [ inl z ↦ subst (λ n. (by n ≤ s.drawn) × (s.free (by n) ≡ false)) (sym z) ((wc.drawn).0, (wc.taken).0) | inr z ↦ ok.authors f z ];
    commits = λ y q. elim q [
      | inl z ↦ subst (CommitOk g tc kc) (let z' : Committed y ≡ Committed x = z in cc) (record { under = wc.under; pos = wc.pos; own = wc.own; taken = (wc.taken).1; drawn = (wc.drawn).1; current = inl wc.current })
      | inr z ↦ commit_on g s h ok i cx e lc s.register (Landed cx) (judged_landed cx) (after h.pending cx) (λ y q. inr q) y (ok.commits y z)
    ];
    rests = rest_on g s h ok i cx e lc s.register (Landed cx) (judged_landed cx) (after h.pending cx) (λ y q. inr q);
    outs = λ j. comm_out j (needs g x j) refl;
    waits = λ m y z. let q = still_waits g s h ok i cx e (Landed cx) (judged_landed cx) m y z in comm_waits m y q.0 z (ok.waits m y q.1);
    landed = λ m y. upd_each s.slots i (Landed cx) (λ n r. r ≡ Landed y → LandedOk tc y) (λ z. subst (LandedOk tc) (some_same (ap append_of z)) tt) m
        (λ _ z. landed_as g s h ok i cx e lc s.register (Landed cx) (judged_landed cx) (after h.pending cx) (λ y q. inr q) y (ok.landed m y z));
    fresh = fresh_on g s h ok i cx e (Landed cx) (judged_landed cx);
    register = ok.register;
    spoken = spoken_up g s tc h kc (λ y z. inr z) (λ p y z. z) (λ m y z. inl (still_held g s h ok i cx e (Landed cx) (judged_landed cx) m y z)) (λ j m z w. inl (z, w))
        (λ y z. elim z [
          | inl q ↦ inr (subst (λ v. In v (h.begun v.producer)) (let z' : Committed y ≡ Committed x = q in cc) (newest_in (h.begun x.producer) x wc.current))
          | inr q ↦ inl q
        ]) ok.spoken;
    history = ok.history;
    undrawn = λ p z. let u = ok.undrawn p z in (u.0, after_none h.pending cx p u.1, u.2);
    low = ok.low;
    heard = ok.heard;
    frees = λ b z. let u = ok.frees b z in (u.0, u.1, u.2, u.3, after_none h.pending cx b u.4);
  }

  pub comm_proc : (m : ℕ) (q : Process) → ProcOk g s h m q → ProcOk g tc kc m q
  comm_proc m q c = other_or_own g s h ok i cx e tc kc m q (λ z. inr z) (omega arith) (λ d. comm_kept q.author q.producer d)
      (λ u r. involved g s h ok i cx e (Landed cx) (judged_landed cx) lc s.register x.author m q wc.pending (sym r) u
      (λ z n. cc)
      (λ y z f n.
      let xy : x ≡ y = (let z' : Commit x ≡ Commit y = z in cc) in
      let same : s.log ≡ q.text = since_same g s.sources s.outs q.author q.text s.log ok.log n (sym force ∙ r) in
      let mine : Committed y ∷ q.text ≡ lc = ap (λ v. Committed v ∷ q.text) (sym xy) ∙ ap (λ v. Committed x ∷ v) (sym same) in (
        ap (updated h.pending x.author None) (sym r) ∙ upd_here h.pending x.author None,
        inl mine,
        λ _ a j d v. quiet_on a j d (v ∙ ap (λ n. Waits (Ack j n d)) (sym f.producer ∙ ap (λ n. n.producer) (sym xy))),
      )) c) c
