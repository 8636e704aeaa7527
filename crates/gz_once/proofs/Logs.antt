-- The log alone. Its entries are numbered on; each handoff is of an author that stands nowhere below it; each commit is of the
-- author in force, goes on from what is below it, and finds the acknowledgements of the commit before it in their outputs. All
-- that is claimed of the log is read off this; and while a process's author is in force, the log is what the process knows.
use Rattle.std.proofs.Common.{◌≡◌, ℕ, ◌+◌, ◌<◌, ◌≤◌, List, [], ◌∷◌, refl, ap, sym, ◌∙◌, arith, Bool, true, false, cond, Some, eqb, subst, ◌⊎◌, inl, inr, ◌&&◌}
use Rattle.std.proofs.lemmas.Bool.{cond_both, eqb-false}
use Rattle.gz_reader.specs.Lists.{In, Begins}
use Rattle.gz_reader.specs.Reader.{Message, acknowledgement}
use Rattle.gz_once.specs.Applications.{App, fold, emits, parts, reach}
use Rattle.gz_once.specs.Log.{Transaction, ack, needs, Entry, Handed, Committed, by, author_of, last, offsets_of, store_of, is_next, accepted, count, end_of, bytes}
use Rattle.gz_reader.proofs.Updates.{some_same, none_some}

-- no entry is of this author
abbrev pub Absent : ℕ → List Entry → Type 0
Absent a [] = Unit {0}
Absent a (e ∷ es) = (by e ≡ a → ⊥) × Absent a es

-- log has come to be t, and since then has got nothing of this author
abbrev pub Since : ℕ → List Entry → List Entry → Type 0
Since a t [] = t ≡ []
Since a t (e ∷ es) = (t ≡ e ∷ es) ⊎ ((by e ≡ a → ⊥) × Since a t es)

-- the sources have grown
pub record Up (g : App) (t u : ℕ → List Message) : Type 0 where
  pub len : (k : ℕ) → reach g k (t k) ≤ reach g k (u k)
  pub same : (n : ℕ) (from to : ℕ → ℕ) → ((i : ℕ) → i < n → (from i ≤ to i) × (to i ≤ reach g i (t i))) → parts g n u from to ≡ parts g n t from to

-- the commit goes on from the log es: it consumes the next parts of the sources' committed messages
pub record Follows (g : App) (sources : ℕ → List Message) (es : List Entry) (x : Transaction) : Type 0 where
  pub within : (k : ℕ) → k < g.sources → (offsets_of g (last es) k ≤ x.offsets k) × (x.offsets k ≤ reach g k (sources k))
  pub state : x.state ≡ fold g (store_of es) (parts g g.sources sources (offsets_of g (last es)) x.offsets)
  pub emitted : x.emitted ≡ emits g (store_of es) (parts g g.sources sources (offsets_of g (last es)) x.offsets)

-- the acknowledgement is in its output, if the transaction needs it
abbrev pub Acked : App → (ℕ → List Message) → Transaction → ℕ → Type 0
Acked g outs x j = needs g x j ≡ true → In (acknowledgement x.producer (ack x)) (outs j)

abbrev pub Settled : App → (ℕ → List Message) → Transaction → Type 0
Settled g outs x = (j : ℕ) → Acked g outs x j

abbrev pub LastSettled : App → (ℕ → List Message) → List Entry → Type 0
LastSettled g outs es = (x : Transaction) → last es ≡ Some x → Settled g outs x

abbrev pub LogOk : App → (ℕ → List Message) → (ℕ → List Message) → List Entry → Type 0
LogOk g sources outs [] = Unit {0}
LogOk g sources outs (Handed a k ∷ es) = (k ≡ count es + 1) × Absent a es × LogOk g sources outs es
LogOk g sources outs (Committed x ∷ es) = (x.seq ≡ count es + 1) × (x.author ≡ author_of es) × Follows g sources es x × LastSettled g outs es × LogOk g sources outs es

pub follows_up : (g : App) (t u : ℕ → List Message) → Up g t u → (es : List Entry) (x : Transaction) → Follows g t es x → Follows g u es x
follows_up g t u up es x f = record {
  within = λ k l. let w = f.within k l in let m = up.len k in (w.0, omega (arith, w.1, m));
  state = f.state ∙ ap (λ ms. fold g (store_of es) ms) (sym (up.same g.sources (offsets_of g (last es)) x.offsets f.within));
  emitted = f.emitted ∙ ap (λ ms. emits g (store_of es) ms) (sym (up.same g.sources (offsets_of g (last es)) x.offsets f.within));
}

pub settled_up : (g : App) (o p : ℕ → List Message) → ((j : ℕ) (m : Message) → In m (o j) → In m (p j)) → (x : Transaction) → Settled g o x → Settled g p x
settled_up g o p up x a = λ j n. up j (acknowledgement x.producer (ack x)) (a j n)

pub log_up : (g : App) (t u o p : ℕ → List Message) → Up g t u → ((j : ℕ) (m : Message) → In m (o j) → In m (p j)) → (es : List Entry) → LogOk g t o es → LogOk g u p es
log_up g t u o p a b [] k = tt
log_up g t u o p a b (Handed c n ∷ es) k = (k.0, k.1, log_up g t u o p a b es k.2)
log_up g t u o p a b (Committed x ∷ es) k = (k.0, k.1, follows_up g t u a es x k.2, λ y e. settled_up g o p b y (k.3 y e), log_up g t u o p a b es k.4)

pub since_begins : (a : ℕ) (t es : List Entry) → Since a t es → Begins t es
since_begins a t [] s = s
since_begins a t (e ∷ es) s = elim s [ inl x ↦ inl x | inr x ↦ inr (since_begins a t es x.1) ]

pub begins_end : (u es : List Entry) → Begins u es → end_of u ≤ end_of es
begins_end u [] b = subst (λ v. end_of v ≤ 0) (sym b) (omega arith)
begins_end u (e ∷ es) b = elim b [ inl x ↦ subst (λ v. end_of v ≤ end_of (e ∷ es)) (sym x) (omega arith) | inr c ↦ (let h = begins_end u es c in omega (arith, h)) ]

some_bytes : (e : Entry) → 0 < bytes e
some_bytes (Handed a k) = omega arith
some_bytes (Committed x) = omega arith

-- a text that ends where the log ends is the log
pub ends_same : (u es : List Entry) → Begins u es → end_of es ≤ end_of u → u ≡ es
ends_same u [] b l = b
ends_same u (e ∷ es) b l = elim b [ inl x ↦ x | inr c ↦ absurd (let h = begins_end u es c in let k = some_bytes e in omega (arith, h, k)) ]

pub absent_begins : (a : ℕ) (t es : List Entry) → Begins t es → Absent a es → Absent a t
absent_begins a t [] b n = rw b tt
absent_begins a t (e ∷ es) b n = elim b [ inl x ↦ rw x n | inr x ↦ absent_begins a t es x n.1 ]

pub absent_in : (a : ℕ) (t : List Entry) (x : Transaction) → Absent a t → In (Committed x) t → x.author ≡ a → ⊥
absent_in a [] x n i = absurd i
absent_in a (e ∷ es) x n i = elim i [ inl q ↦ λ r. n.0 (ap by (sym q) ∙ r) | inr j ↦ absent_in a es x n.1 j ]

pub in_begins : (t es : List Entry) (e : Entry) → Begins t es → In e t → In e es
in_begins t [] e b i = let k : In e [] = subst (In e) b i in k
in_begins t (f ∷ es) e b i = elim b [ inl x ↦ subst (In e) x i | inr c ↦ inr (in_begins t es e c i) ]

pub in_since : (a : ℕ) (t es : List Entry) (x : Transaction) → Since a t es → In (Committed x) es → x.author ≡ a → In (Committed x) t
in_since a t [] x s i e = absurd i
in_since a t (f ∷ es) x s i e = elim s [
  | inl q ↦ subst (In (Committed x)) (sym q) i
  | inr c ↦ elim i [ inl q ↦ absurd (c.0 (ap by (sym q) ∙ e)) | inr j ↦ in_since a t es x c.1 j e ]
]

pub last_in : (es : List Entry) (x : Transaction) → last es ≡ Some x → In (Committed x) es
last_in [] x e = absurd (none_some e)
last_in (Handed a k ∷ es) x e = inr (last_in es x e)
last_in (Committed y ∷ es) x e = inl (ap Committed (sym (some_same e)))

module _ (g : App) (t o : ℕ → List Message) where
  pub author_by : (e : Entry) (es : List Entry) → LogOk g t o (e ∷ es) → author_of (e ∷ es) ≡ by e
  author_by (Handed a k) es ok = refl
  author_by (Committed x) es ok = sym ok.1

  pub ok_tail : (e : Entry) (es : List Entry) → LogOk g t o (e ∷ es) → LogOk g t o es
  ok_tail (Handed a k) es ok = ok.2
  ok_tail (Committed x) es ok = ok.4

  pub ok_begins : (u es : List Entry) → Begins u es → LogOk g t o es → LogOk g t o u
  ok_begins u [] b ok = rw b tt
  ok_begins u (e ∷ es) b ok = elim b [ inl x ↦ rw x ok | inr x ↦ ok_begins u es x (ok_tail e es ok) ]

  -- while its author is in force, the log is as the process knows it
  pub since_same : (a : ℕ) (u es : List Entry) → LogOk g t o es → Since a u es → author_of es ≡ a → es ≡ u
  since_same a u [] ok s e = sym s
  since_same a u (f ∷ es) ok s e = elim s [ inl x ↦ sym x | inr x ↦ absurd (x.0 (sym (author_by f es ok) ∙ e)) ]

  -- the author in force has nothing in a text that another author's handoff ends
  pub foreign : (u es : List Entry) → LogOk g t o es → Begins u es → (author_of u ≡ author_of es → ⊥) → Absent (author_of es) u
  foreign u [] ok b d = absurd (d (ap author_of b))
  foreign u (Handed a k ∷ es) ok b d = elim b [ inl x ↦ absurd (d (ap author_of x)) | inr x ↦ absent_begins a u es x ok.1 ]
  foreign u (Committed x ∷ es) ok b d = elim b [ inl y ↦ absurd (d (ap author_of y)) | inr y ↦ foreign u es ok.4 y d ]

  -- acknowledgements of all commits but the last one are in
  pub in_settled : (es : List Entry) (x : Transaction) → LogOk g t o es → In (Committed x) es → (last es ≡ Some x) ⊎ Settled g o x
  in_settled [] x ok i = absurd i
  in_settled (Handed a k ∷ es) x ok i = elim i [ inl e ↦ absurd (let n : Committed x ≡ Handed a k = e in cc) | inr j ↦ in_settled es x ok.2 j ]
  in_settled (Committed y ∷ es) x ok i = elim i [
    | inl e ↦ inl (ap Some (let n : Committed x ≡ Committed y = e in cc))
    | inr j ↦ elim (in_settled es x ok.4 j) [ inl e ↦ inr (ok.3 x e) | inr s ↦ inr s ]
  ]

  -- a process's last commit is the log's, if one author made both
  pub same_last : (a : ℕ) (u es : List Entry) (x y : Transaction) → LogOk g t o es → Since a u es → author_of u ≡ a → last u ≡ Some x → last es ≡ Some y → x.author ≡ y.author → x ≡ y
  same_last a u [] x y ok s c e f w = absurd (none_some f)
  same_last a u (Handed b k ∷ es) x y ok s c e f w = elim s [
    | inl q ↦ some_same (sym e ∙ ap last q ∙ f)
    | inr q ↦ same_last a u es x y ok.2 q.1 c e f w
  ]
  same_last a u (Committed z ∷ es) x y ok s c e f w = elim s [
    | inl q ↦ some_same (sym e ∙ ap last q ∙ f)
    | inr q ↦ absurd (
        let zy : z ≡ y = some_same f in
        let n : Absent (author_of es) u = foreign u es ok.4 (since_begins a u es q.1) (λ r. q.0 (ok.1 ∙ sym r ∙ c)) in
        absent_in (author_of es) u x n (last_in u x e) (w ∙ ap (λ v. v.author) (sym zy) ∙ ok.1))
  ]

  next_is : (e : Entry) (es : List Entry) → LogOk g t o (e ∷ es) → is_next es e ≡ true
  next_is (Handed a k) es ok = rw ok.0 (eq_self (count es + 1))
    where
      eq_self : (n : ℕ) → eqb n n ≡ true
      eq_self n = cond_both (eqb n n) true false (λ b. b ≡ true → eqb n n ≡ true) (λ e _. e) (λ e. absurd (eqb-false n n e refl)) (eq_in n)
        where
          eq_in : (m : ℕ) → cond (eqb m m) true false ≡ true
          eq_in m = cond_both (eqb m m) true false (λ b. b ≡ true) (λ _. refl) (λ e. absurd (eqb-false m m e refl))
  next_is (Committed x) es ok = both_true (eqb x.seq (count es + 1)) (eqb x.author (author_of es)) (equal x.seq (count es + 1) ok.0) (equal x.author (author_of es) ok.1)
    where
      both_true : (a b : Bool) → a ≡ true → b ≡ true → (a && b) ≡ true
      both_true a b e f = rw e f

      equal : (m n : ℕ) → m ≡ n → eqb m n ≡ true
      equal m n e = elim (bool_cases (eqb m n)) [ inl h ↦ h | inr h ↦ absurd (eqb-false m n h e) ]
        where
          bool_cases : (b : Bool) → (b ≡ true) ⊎ (b ≡ false)
          bool_cases true = inl refl
          bool_cases false = inr refl

  pub all_accepted : (es : List Entry) → LogOk g t o es → accepted es ≡ es
  all_accepted [] ok = refl
  all_accepted (e ∷ es) ok =
      let i : accepted es ≡ es = all_accepted es (ok_tail e es ok) in
      let n : is_next (accepted es) e ≡ true = ap (λ l. is_next l e) i ∙ next_is e es ok in
      ap (λ b. cond b (e ∷ accepted es) (accepted es)) n ∙ ap (λ l. e ∷ l) i
