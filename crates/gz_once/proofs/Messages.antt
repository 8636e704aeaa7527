-- Parts two and three: acknowledgements are of commits, and one producer and clock stand for one message, wherever it now is.
use Rattle.std.proofs.Common.{◌≡◌, ℕ, ◌+◌, ◌<◌, ◌≤◌, List, [], ◌∷◌, ap, sym, ◌∙◌, arith, true, eqb, subst, inl, inr}
use Rattle.std.proofs.lemmas.Bool.{cond_both, eqb-true, and_parts}
use Rattle.gz_reader.specs.Lists.{In}
use Rattle.gz_reader.specs.Reader.{Line, Message, Kind, Continue, Acknowledge}
use Rattle.gz_once.specs.Applications.{App, goes, lines_to, number}
use Rattle.gz_once.specs.Log.{Transaction, ack, lines}
use Rattle.gz_once.specs.Processes.{Append, Handoff, Commit, Lines, Ack}
use Rattle.gz_once.specs.Worlds.{Shared, Event, run, start}
use Rattle.gz_once.specs.Theorem.{Intent, Carries, Speaks, OfCommits, OneMessage}
use Rattle.gz_reader.proofs.Appends.{Ascending, Below}
use Rattle.gz_once.proofs.TxLines.{lines_ascending, lines_below}
use Rattle.gz_once.proofs.Facts.{Ghost, newest, bound, History, SpokenAs, TextAs, SharedOk, Invariant}
use Rattle.gz_once.proofs.Run.{holds}

ascending_in : (n : ℕ) (ls : List Line) (l : Line) → Ascending n ls → In l ls → n ≤ l.clock
ascending_in n [] l r i = absurd i
ascending_in n (x ∷ ls) l r i = elim i [ inl e ↦ subst (λ v. n ≤ v.clock) (sym e) r.0 | inr j ↦ (let h = ascending_in (x.clock + 1) ls l r.1 j in omega (arith, h, r.0)) ]

below_in : (n : ℕ) (ls : List Line) (l : Line) → Below n ls → In l ls → l.clock < n
below_in n [] l b i = absurd i
below_in n (x ∷ ls) l b i = elim i [ inl e ↦ subst (λ v. v.clock < n) (sym e) b.0 | inr j ↦ below_in n ls l b.1 j ]

number_rises : (c : ℕ) (vs : List ℕ) → Ascending c (number c vs)
number_rises c [] = tt
number_rises c (v ∷ vs) = (omega arith, number_rises (c + 1) vs)

-- one line for each clock
number_one : (c : ℕ) (vs : List ℕ) (l m : Line) → In l (number c vs) → In m (number c vs) → l.clock ≡ m.clock → l ≡ m
number_one c [] l m i j e = absurd i
number_one c (v ∷ vs) l m i j e = elim i [
  | inl p ↦ elim j [
    | inl q ↦ p ∙ sym q
    | inr q ↦ absurd (let h = ascending_in (c + 1) (number (c + 1) vs) m (number_rises (c + 1) vs) q in let lc : l.clock ≡ c = ap (λ v. v.clock) p in omega arith)
  ]
  | inr p ↦ elim j [
    | inl q ↦ absurd (let h = ascending_in (c + 1) (number (c + 1) vs) l (number_rises (c + 1) vs) p in let mc : m.clock ≡ c = ap (λ v. v.clock) q in omega arith)
    | inr q ↦ number_one (c + 1) vs l m p q e
  ]
]

to_in : (g : App) (j : ℕ) (ls : List Line) (l : Line) → In l (lines_to g j ls) → In l ls × (g.choose l.value ≡ j)
to_in g j [] l i = absurd i
to_in g j (x ∷ ls) l i = cond_both (goes g j x.value) _ _ (λ v. In l v → In l (x ∷ ls) × (g.choose l.value ≡ j))
    (λ e k. elim k [
      | inl p ↦ (inl p, ap (λ v. g.choose v.value) p ∙ eqb-true (g.choose x.value) j (and_parts (eqb (g.choose x.value) j) _ e).0)
      | inr p ↦ (let r = to_in g j ls l p in (inr r.0, r.1))
    ])
    (λ e k. let r = to_in g j ls l k in (inr r.0, r.1)) i

-- the transactions of one producer have clocks apart
history_below : (p : ℕ) (xs : List Transaction) (x : Transaction) → History p xs → In x xs → ack x + 1 ≤ bound (newest xs)
history_below p [] x o i = absurd i
history_below p (y ∷ xs) x o i = elim i [
  | inl e ↦ subst (λ v. ack v + 1 ≤ ack y + 1) (sym e) (omega arith)
  | inr j ↦ (let h = history_below p xs x o.2 j in omega (arith, h, o.1))
]

same_tx : (p c : ℕ) (xs : List Transaction) (x y : Transaction) → History p xs → In x xs → In y xs → x.first ≤ c → c ≤ ack x → y.first ≤ c → c ≤ ack y → x ≡ y
same_tx p c [] x y o i j a b d e = absurd i
same_tx p c (z ∷ xs) x y o i j a b d e = elim i [
  | inl q ↦ elim j [
    | inl r ↦ q ∙ sym r
    | inr r ↦ absurd (let h = history_below p xs y o.2 r in let f : z.first ≤ c = subst (λ v. v.first ≤ c) q a in omega (arith, h, o.1))
  ]
  | inr q ↦ elim j [
    | inl r ↦ absurd (let h = history_below p xs x o.2 q in let f : z.first ≤ c = subst (λ v. v.first ≤ c) r d in omega (arith, h, o.1))
    | inr r ↦ same_tx p c xs x y o.2 q r a b d e
  ]
]

message_same : (m n : Message) → m.producer ≡ n.producer → m.clock ≡ n.clock → m.kind ≡ n.kind → m.value ≡ n.value → m ≡ n
message_same m n a b c d =
    ap (λ v. record { producer = v; clock = m.clock; kind = m.kind; value = m.value }) a
    ∙ ap (λ v. record { producer = n.producer; clock = v; kind = m.kind; value = m.value }) b
    ∙ ap (λ v. record { producer = n.producer; clock = n.clock; kind = v; value = m.value }) c
    ∙ ap (λ v. record { producer = n.producer; clock = n.clock; kind = n.kind; value = v }) d

more_final : {k : Kind} → k ≡ Continue → k ≡ Acknowledge → ⊥
more_final {k = k} e f = let h : Continue ≡ Acknowledge = sym e ∙ f in cc

module _ (g : App) (s : Shared) (h : Ghost) (ok : SharedOk g s h) where
  carried : (j : ℕ) (m : Message) (a : Append) → SpokenAs g s h a → Carries a j m → TextAs g s h j m
  carried j m (Handoff b o nn) c d = absurd d
  carried j m (Commit x) c d = absurd d
  carried j m (Lines k p ls) c d = inl (
    c.0,
    subst (λ v. In c.0 (h.begun v)) (sym d.1) c.1,
    d.2,
    subst (λ v. In (record { clock = m.clock; value = m.value }) (lines g c.0 v)) d.0 (subst (In (record { clock = m.clock; value = m.value })) c.2 d.3),
  )
  carried j m (Ack k p e) c d = inr (ap (λ v. v.kind) d.1, ap (λ v. v.value) d.1, subst (λ v. Intent g s v m.producer m.clock) d.0 (subst (λ v. Intent g s k v.producer v.clock) (sym d.1) c))

  spoken : (j : ℕ) (m : Message) → Speaks s j m → s.own m.producer ≡ true → TextAs g s h j m
  spoken j m c o = elim c [ inl i ↦ (ok.spoken).texts j m i o | inr d ↦ carried j m d.1 ((ok.spoken).slots d.0 d.1 d.2) d.3 ]

  of_commits : OfCommits g s
  of_commits j m c o f = elim (spoken j m c o) [ inl d ↦ absurd (more_final d.2 f) | inr d ↦ d.2 ]

  -- where a transaction's clocks are
  line_low : (x : Transaction) (j : ℕ) (l : Line) → In l (lines g x j) → (x.first ≤ l.clock) × (l.clock < ack x)
  line_low x j l i = (ascending_in x.first (lines g x j) l (lines_ascending g x j) i, below_in (ack x) (lines g x j) l (lines_below g x j) i)

  -- an intent is of a transaction that began
  intent_begun : (j p c : ℕ) (i : Intent g s j p c) → In i.0 (h.begun p)
  intent_begun j p c i = subst (λ v. In i.0 (h.begun v)) i.2 ((ok.spoken).commits i.0 i.1)

  intent_clock : (j p c : ℕ) (i : Intent g s j p c) → ((i.0).first ≤ c) × (ack i.0 ≡ c)
  intent_clock j p c i = let e = i.3 in (omega arith, e)

  one : (j k : ℕ) (m n : Message) → m.producer ≡ n.producer → m.clock ≡ n.clock → TextAs g s h j m → TextAs g s h k n → (m ≡ n) × (m.kind ≡ Continue → j ≡ k)
  one j k m n pe ce a b = elim a [
    | inl x ↦ (let lx = line_low x.0 j (record { clock = m.clock; value = m.value }) x.3 in elim b [
      | inl y ↦ (let ly = line_low y.0 k (record { clock = n.clock; value = n.value }) y.3 in
          let iy : In y.0 (h.begun m.producer) = subst (λ v. In y.0 (h.begun v)) (sym pe) y.1 in
          let same : x.0 ≡ y.0 = same_tx m.producer m.clock (h.begun m.producer) x.0 y.0 (ok.history m.producer) x.1 iy lx.0 (omega (arith, lx.1)) (omega (arith, ly.0, ce)) (omega (arith, ly.1, ce)) in
          let u = to_in g j (number (x.0).first (x.0).emitted) (record { clock = m.clock; value = m.value }) x.3 in
          let v = to_in g k (number (y.0).first (y.0).emitted) (record { clock = n.clock; value = n.value }) y.3 in
          let v' : In (record { clock = n.clock; value = n.value }) (number (x.0).first (x.0).emitted) = subst (λ z. In (record { clock = n.clock; value = n.value }) (number z.first z.emitted)) (sym same) v.0 in
          let line = number_one (x.0).first (x.0).emitted (record { clock = m.clock; value = m.value }) (record { clock = n.clock; value = n.value }) u.0 v' ce in
          let val : m.value ≡ n.value = ap (λ z. z.value) line in
          (message_same m n pe ce (x.2 ∙ sym y.2) val, λ _. sym u.1 ∙ ap g.choose val ∙ v.1))
      | inr y ↦ absurd (
          let i = y.2 in
          let c = intent_clock k n.producer n.clock i in
          let iy : In i.0 (h.begun m.producer) = subst (λ v. In i.0 (h.begun v)) (sym pe) (intent_begun k n.producer n.clock i) in
          let same : x.0 ≡ i.0 = same_tx m.producer m.clock (h.begun m.producer) x.0 i.0 (ok.history m.producer) x.1 iy lx.0 (omega (arith, lx.1)) (omega (arith, c.0, ce)) (omega (arith, c.1, ce)) in
          let e : ack x.0 ≡ ack i.0 = ap ack same in
          omega (arith, lx.1, c.1, e, ce))
    ])
    | inr x ↦ (let i = x.2 in let c = intent_clock j m.producer m.clock i in elim b [
      | inl y ↦ absurd (
          let ly = line_low y.0 k (record { clock = n.clock; value = n.value }) y.3 in
          let iy : In y.0 (h.begun m.producer) = subst (λ v. In y.0 (h.begun v)) (sym pe) y.1 in
          let same : i.0 ≡ y.0 = same_tx m.producer m.clock (h.begun m.producer) i.0 y.0 (ok.history m.producer) (intent_begun j m.producer m.clock i) iy c.0 (omega (arith, c.1)) (omega (arith, ly.0, ce)) (omega (arith, ly.1, ce)) in
          let e : ack i.0 ≡ ack y.0 = ap ack same in
          omega (arith, ly.1, c.1, e, ce))
      | inr y ↦ (message_same m n pe ce (x.0 ∙ sym y.0) (x.1 ∙ sym y.1), λ f. absurd (more_final f x.0))
    ])
  ]

pub of_commits_all : (g : App) (es : List Event) → OfCommits g (run g es start).shared
of_commits_all g es = let i : Invariant g (run g es start) = holds g es in of_commits g (run g es start).shared i.h i.shared

pub one_message : (g : App) (es : List Event) → OneMessage (run g es start).shared
one_message g es = let i : Invariant g (run g es start) = holds g es in
    λ j k m n a b o p c. one g (run g es start).shared i.h i.shared j k m n p c (spoken g (run g es start).shared i.h i.shared j m a o) (spoken g (run g es start).shared i.h i.shared k n b (ap ((run g es start).shared).own (sym p) ∙ o))
