-- Whom an event doesn't concern. `Kept` says what an event has to leave alone of an author and a producer; then all that holds of
-- a process of these, in whichever phase, and of its commit that waits, holds after the event. Each event shows `Kept` for
-- everybody but the one whom it concerns.
use Rattle.std.proofs.Common.{◌≡◌, ℕ, ◌+◌, ◌≤◌, List, ◌∷◌, refl, ap, sym, ◌∙◌, arith, true, false, Option, Some, subst, ◌⊎◌, inl, inr}
use Rattle.gz_reader.specs.Lists.{In, Begins}
use Rattle.gz_reader.specs.Reader.{Message}
use Rattle.gz_once.specs.Applications.{App}
use Rattle.gz_once.specs.Log.{Transaction, lines, Entry, Handed, Committed, by, author_of, last, count}
use Rattle.gz_once.specs.Processes.{Append, Handoff, Commit, Lines, Ack, Stand, Todo, Asked, Done, Phase, Playing, Handing, Acking, Drawing, Reading, Publishing, Committing, Sending, Process}
use Rattle.gz_once.specs.Worlds.{Slot, Free, Waits, Landed, Refused, Shared, append_of}
use Rattle.gz_once.proofs.Logs.{Absent, Since, Follows, Up, follows_up, settled_up, LastSettled}
use Rattle.gz_once.proofs.Facts.{Ghost, newest, cur, bound, seen, NoAcks, Stock, InForce, HandOk, SendOk, AckStand, PubStand, Own, Unused, Rules, Fits, Silent, PhaseOk, ProcOk, Ready, CommitWaits, SpokenAs, TextAs, Spoken}

-- an append to the log by this author
abbrev pub OfLog : ℕ → Append → Type 0
OfLog a (Handoff b o nn) = b ≡ a
OfLog a (Commit x) = x.author ≡ a
OfLog a _ = ⊥

-- a new entry of another author, which is in force then
pub record New (es fs : List Entry) (a : ℕ) : Type 0 where
  pub e : Entry
  pub is : fs ≡ e ∷ es
  pub other : by e ≡ a → ⊥
  pub force : author_of fs ≡ by e

pub new : {es fs : List Entry} {a : ℕ} (e : Entry) → fs ≡ e ∷ es → (by e ≡ a → ⊥) → author_of fs ≡ by e → New es fs a
new e i o f = record { e = e; is = i; other = o; force = f }

-- what stays of the author a and the producer p
pub record Kept (g : App) (s t : Shared) (h k : Ghost) (a p : ℕ) : Type 0 where
  pub log : (t.log ≡ s.log) ⊎ New s.log t.log a
  pub outs : (j : ℕ) (m : Message) → In m (s.outs j) → In m (t.outs j)
  pub sources : Up g s.sources t.sources
  pub holds : (i : ℕ) (x : Append) → append_of (s.slots i) ≡ Some x → append_of (t.slots i) ≡ Some x
  pub landed : (i : ℕ) (x : Append) → s.slots i ≡ Landed x → t.slots i ≡ Landed x
  pub refused : (i : ℕ) (x : Append) → s.slots i ≡ Refused x → t.slots i ≡ Refused x
  pub main : (i : ℕ) (x : Append) → s.slots i ≡ Waits x → OfLog a x → t.slots i ≡ Waits x
  pub acks : author_of t.log ≡ a → (i j c : ℕ) → t.slots i ≡ Waits (Ack j p c) → s.slots i ≡ Waits (Ack j p c)
  pub stock : author_of t.log ≡ a → NoAcks s p → (x : Transaction) (j : ℕ) → cur h p ≡ Some x → x.producer ≡ p → Stock g s x j → Stock g t x j
  pub low : author_of t.log ≡ a → NoAcks s p → (x : Transaction) (j : ℕ) → cur h p ≡ Some x → (seen s j p).next ≤ x.first → (seen t j p).next ≤ x.first
  pub lines : author_of t.log ≡ a → NoAcks s p → (x : Transaction) (j i : ℕ) → cur h p ≡ Some x → x.producer ≡ p → (seen s j p).next ≤ x.first → t.slots i ≡ Landed (Lines j p (lines g x j)) →
      (s.slots i ≡ Landed (Lines j p (lines g x j))) ⊎ Stock g t x j
  pub pending : k.pending a ≡ h.pending a
  pub begun : k.begun p ≡ h.begun p
  pub holder : (k.holder a ≡ h.holder a) × (k.holder p ≡ h.holder p)
  pub under : k.under p ≡ h.under p
  pub drawn : s.drawn ≤ t.drawn
  pub own : (b : ℕ) → s.own b ≡ true → t.own b ≡ true
  pub taken : (s.free a ≡ false → t.free a ≡ false) × (s.free p ≡ false → t.free p ≡ false)

-- the log of a process that was in force is as it was
pub log_same : (es fs : List Entry) (a : ℕ) → (fs ≡ es) ⊎ New es fs a → author_of fs ≡ a → fs ≡ es
log_same es fs a l f = elim l [ inl e ↦ e | inr n ↦ absurd (n.other (sym n.force ∙ f)) ]

pub begins_more : (u es fs : List Entry) (a : ℕ) → (fs ≡ es) ⊎ New es fs a → Begins u es → Begins u fs
begins_more u es fs a l b = elim l [ inl e ↦ subst (Begins u) (sym e) b | inr n ↦ subst (Begins u) (sym n.is) (inr b) ]

since_more : (u es fs : List Entry) (a : ℕ) → (fs ≡ es) ⊎ New es fs a → Since a u es → Since a u fs
since_more u es fs a l b = elim l [ inl e ↦ subst (Since a u) (sym e) b | inr n ↦ subst (Since a u) (sym n.is) (inr (n.other, b)) ]

absent_more : (es fs : List Entry) (a : ℕ) → (fs ≡ es) ⊎ New es fs a → Absent a es → Absent a fs
absent_more es fs a l b = elim l [ inl e ↦ subst (Absent a) (sym e) b | inr n ↦ subst (Absent a) (sym n.is) (n.other, b) ]

module _ (g : App) (s t : Shared) (h k : Ghost) where
  module _ (q : Process) (c : Kept g s t h k q.author q.producer) where
    still_force : InForce t q → InForce s q
    still_force f = ap author_of (sym (log_same s.log t.log q.author c.log f)) ∙ f

    silent_kept : Silent s q → Silent t q
    silent_kept n f i j d e = n (still_force f) i j d (c.acks f i j d e)

    begun_kept : cur k q.producer ≡ cur h q.producer
    begun_kept = ap newest c.begun

    rules_kept : Rules s h q.text q.author → Rules t k q.text q.author
    rules_kept r = record { since = since_more q.text s.log t.log q.author c.log r.since; author = r.author; pending = c.pending ∙ r.pending }

    last_kept : LastSettled g s.outs q.text → LastSettled g t.outs q.text
    last_kept l x e = settled_up g s.outs t.outs c.outs x (l x e)

    fits_kept : (x : Transaction) → Fits g s h q.text q.author q.producer x → Fits g t k q.text q.author q.producer x
    fits_kept x f = record {
      author = f.author;
      producer = f.producer;
      seq = f.seq;
      current = begun_kept ∙ f.current;
      follows = follows_up g s.sources t.sources c.sources q.text x f.follows;
      settled = last_kept f.settled;
    }

    own_kept : Own h q.producer q.text q.clock → Own k q.producer q.text q.clock
    own_kept o = record { own = elim o.own [ inl e ↦ inl (begun_kept ∙ e) | inr e ↦ inr (begun_kept ∙ e) ]; next = o.next ∙ ap bound (sym begun_kept) }

    virgin_kept : Unused h q.producer q.clock → Unused k q.producer q.clock
    virgin_kept v = record { own = begun_kept ∙ v.own; next = v.next }

    stock_kept : (x : Transaction) → Fits g s h q.text q.author q.producer x → Silent s q → (j : ℕ) → (InForce s q → Stock g s x j) → InForce t q → Stock g t x j
    stock_kept x f n j b i = c.stock i (n (still_force i)) x j f.current f.producer (b (still_force i))

    hand_kept : (n : ℕ) (v : Slot) → s.slots n ≡ v → HandOk s h q v → HandOk t k q (t.slots n)
    hand_kept n Free e o = absurd o
    hand_kept n (Waits x) e o = subst (HandOk t k q) (sym (c.main n x e (subst (OfLog q.author) (sym o) refl))) o
    hand_kept n (Landed x) e o = subst (HandOk t k q) (sym (c.landed n x e)) (c.pending ∙ o.0, since_more (Handed q.author (count q.text + 1) ∷ q.text) s.log t.log q.author c.log o.1)
    hand_kept n (Refused x) e o = subst (HandOk t k q) (sym (c.refused n x e)) (c.pending ∙ o.0, absent_more s.log t.log q.author c.log o.1)

    send_kept : (x : Transaction) → Fits g s h q.text q.author q.producer x → (n : ℕ) (v : Slot) → s.slots n ≡ v → SendOk g s h q x v → SendOk g t k q x (t.slots n)
    send_kept x f n Free e o = absurd o
    send_kept x f n (Waits y) e o = subst (SendOk g t k q x) (sym (c.main n y e (subst (OfLog q.author) (sym o.0) f.author))) (o.0, since_more q.text s.log t.log q.author c.log o.1)
    send_kept x f n (Landed y) e o = subst (SendOk g t k q x) (sym (c.landed n y e)) (c.pending ∙ o.0, since_more (Committed x ∷ q.text) s.log t.log q.author c.log o.1, silent_kept o.2)
    send_kept x f n (Refused y) e o = subst (SendOk g t k q x) (sym (c.refused n y e))
        (c.pending ∙ o.0, since_more q.text s.log t.log q.author c.log o.1, silent_kept o.2, λ i j. stock_kept x f o.2 j (λ z. o.3 z j) i)

    ack_kept : (l : Option Transaction) (j : ℕ) (v : Stand) → AckStand g s l j v → AckStand g t l j v
    ack_kept l j Todo a = tt
    ack_kept l j (Asked i) a = (a.0, a.1, a.2, c.holds i _ a.3)
    ack_kept l j Done a = λ x e n. c.outs j _ (a x e n)

    pub_kept : (x : Transaction) → Fits g s h q.text q.author q.producer x → Silent s q → (InForce s q → (j : ℕ) → (seen s j q.producer).next ≤ x.first) → (j : ℕ) (v : Stand) → PubStand g s q x j v → PubStand g t q x j v
    pub_kept x f n l j Todo a = tt
    pub_kept x f n l j (Asked i) a = (
      c.holds i _ a.0,
      λ u e. elim (c.lines u (n (still_force u)) x j i f.current f.producer (l (still_force u) j) e) [
        | inl d ↦ stock_kept x f n j (λ z. a.1 z d) u
        | inr d ↦ d
      ],
    )
    pub_kept x f n l j Done a = λ u. stock_kept x f n j a u

    phase_kept : (f : Phase) → PhaseOk g s h q f → PhaseOk g t k q f
    phase_kept Playing o = (begins_more q.text s.log t.log q.author c.log o.0, λ l. let r = o.1 l in (c.pending ∙ r.0, absent_more s.log t.log q.author c.log r.1, virgin_kept r.2))
    phase_kept (Handing n) o = (o.0, begins_more q.text s.log t.log q.author c.log o.1, virgin_kept o.2, hand_kept n (s.slots n) refl o.3)
    phase_kept Acking o = (o.0, rules_kept o.1, own_kept o.2, λ j. ack_kept (last q.text) j (q.outs j) (o.3 j), λ d f i j b e. o.4 d (still_force f) i j b (c.acks f i j b e))
    phase_kept Drawing o = (o.0, rules_kept o.1, last_kept o.2)
    phase_kept Reading o = (o.0, rules_kept o.1, last_kept o.2, own_kept o.3, silent_kept o.4)
    phase_kept (Publishing x) o = (
      o.0,
      rules_kept o.1,
      fits_kept x o.2,
      silent_kept o.3,
      λ j. pub_kept x o.2 o.3 o.5 j (q.outs j) (o.4 j),
      λ i j. c.low i (o.3 (still_force i)) x j (o.2).current (o.5 (still_force i) j),
    )
    phase_kept (Committing x) o = (o.0, rules_kept o.1, fits_kept x o.2, silent_kept o.3, λ i j. stock_kept x o.2 o.3 j (λ z. o.4 z j) i)
    phase_kept (Sending x n) o = (o.0, o.1, fits_kept x o.2, send_kept x o.2 n (s.slots n) refl o.3)

    pub proc_kept : (p : ℕ) → ProcOk g s h p q → ProcOk g t k p q
    proc_kept p o = let d = o.draws in record {
      draws = record {
        author = let a = d.author in let m = c.drawn in (omega (arith, a.0, m), omega (arith, a.1, m));
        holder = λ l. let r = d.holder l in ((c.holder).0 ∙ r.0, (c.holder).1 ∙ r.1);
        under = λ l. c.under ∙ d.under l;
        pos = d.pos;
        own = λ l. c.own q.producer (d.own l);
        taken = λ l. let r = d.taken l in ((c.taken).0 r.0, (c.taken).1 r.1);
      };
      phase = phase_kept q.phase o.phase;
    }

  -- a process that holds no author only plays
  idle_phase : (q : Process) → (q.author ≡ 0) → (Begins q.text s.log → Begins q.text t.log) → (f : Phase) → PhaseOk g s h q f → PhaseOk g t k q f
  idle_phase q z b Playing o = (b o.0, λ l. absurd (omega arith))
  idle_phase q z b (Handing n) o = absurd (let l = o.0 in omega arith)
  idle_phase q z b Acking o = absurd (let l = o.0 in omega arith)
  idle_phase q z b Drawing o = absurd (let l = o.0 in omega arith)
  idle_phase q z b Reading o = absurd (let l = o.0 in omega arith)
  idle_phase q z b (Publishing x) o = absurd (let l = o.0 in omega arith)
  idle_phase q z b (Committing x) o = absurd (let l = o.0 in omega arith)
  idle_phase q z b (Sending x n) o = absurd (let l = o.0 in omega arith)

  pub idle_kept : (p : ℕ) (q : Process) → q.author ≡ 0 → (Begins q.text s.log → Begins q.text t.log) → s.drawn ≤ t.drawn → ProcOk g s h p q → ProcOk g t k p q
  idle_kept p q z b m o = let d = o.draws in record {
    draws = record { author = let a = d.author in (omega (arith, a.0, m), omega (arith, a.1, m)); holder = λ l. absurd (omega arith); under = λ l. absurd (omega arith); pos = λ l. absurd (omega arith); own = λ l. absurd (omega arith); taken = λ l. absurd (omega arith) };
    phase = idle_phase q z b q.phase o.phase;
  }

  -- a commit that waits
  pub commit_kept : (i : ℕ) (x : Transaction) → Kept g s t h k x.author x.producer → t.slots i ≡ Waits (Commit x) → CommitWaits g s h i x → CommitWaits g t k i x
  commit_kept i x c e o = record {
    pending = c.pending ∙ o.pending;
    pos = o.pos;
    drawn = let a = o.drawn in let m = c.drawn in (omega (arith, a.0, m), omega (arith, a.1, m));
    under = c.under ∙ o.under;
    own = c.own x.producer o.own;
    taken = ((c.taken).0 (o.taken).0, (c.taken).1 (o.taken).1);
    current = ap newest c.begun ∙ o.current;
    ready = λ f.
        let same : t.log ≡ s.log = log_same s.log t.log x.author c.log f in
        let r : Ready g s h x = o.ready (ap author_of (sym same) ∙ f) in
        record {
          seq = r.seq ∙ ap (λ l. count l + 1) (sym same);
          follows = follows_up g s.sources t.sources c.sources t.log x (subst (λ l. Follows g s.sources l x) (sym same) r.follows);
          settled = λ y e. settled_up g s.outs t.outs c.outs y (r.settled y (ap last (sym same) ∙ e));
          stock = λ j. c.stock f r.quiet x j o.current refl (r.stock j);
          quiet = λ i j d e. r.quiet i j d (c.acks f i j d e);
        };
  }

-- what was said stays so
module _ (g : App) (s t : Shared) (h k : Ghost) (log : (e : Entry) → In e s.log → In e t.log) (begun : (p : ℕ) (x : Transaction) → In x (h.begun p) → In x (k.begun p)) where
  pub spoken_as : (a : Append) → SpokenAs g s h a → SpokenAs g t k a
  spoken_as (Handoff a o nn) c = tt
  spoken_as (Commit x) c = begun x.producer x c
  spoken_as (Lines j p ls) c = (c.0, begun p c.0 c.1, c.2)
  spoken_as (Ack j p d) c = (c.0, log (Committed c.0) c.1, c.2, c.3, c.4)

  text_as : (j : ℕ) (m : Message) → TextAs g s h j m → TextAs g t k j m
  text_as j m c = elim c [
    | inl d ↦ inl (d.0, begun m.producer d.0 d.1, d.2, d.3)
    | inr d ↦ (let i = d.2 in inr (d.0, d.1, (i.0, log (Committed i.0) i.1, i.2, i.3, i.4)))
  ]

  pub spoken_up : ((i : ℕ) (a : Append) → append_of (t.slots i) ≡ Some a → (append_of (s.slots i) ≡ Some a) ⊎ SpokenAs g t k a) →
      ((j : ℕ) (m : Message) → In m (t.outs j) → t.own m.producer ≡ true → (In m (s.outs j) × (s.own m.producer ≡ true)) ⊎ TextAs g t k j m) →
      ((x : Transaction) → In (Committed x) t.log → In (Committed x) s.log ⊎ In x (k.begun x.producer)) → Spoken g s h → Spoken g t k
  spoken_up slots texts commits o = record {
    slots = λ i a e. elim (slots i a e) [ inl z ↦ spoken_as a (o.slots i a z) | inr z ↦ z ];
    texts = λ j m e w. elim (texts j m e w) [ inl z ↦ text_as j m (o.texts j m z.0 z.1) | inr z ↦ z ];
    commits = λ x e. elim (commits x e) [ inl z ↦ begun x.producer x (o.commits x z) | inr z ↦ z ];
  }
