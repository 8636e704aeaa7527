-- What the facts say of a run: parts one, four and five of what is claimed.
use Rattle.std.proofs.Common.{◌≡◌, ℕ, ◌<◌, ◌≤◌, List, [], ◌∷◌, ◌++◌, length, drop, refl, ap, sym, ◌∙◌, arith, leb, subst, inl, inr, append_assoc, append-nil}
use Rattle.std.proofs.lemmas.Bool.{cond_both, leb-true, leb-false}
use Rattle.gz_model.specs.Prefix.{IsPrefix}
use Rattle.gz_reader.specs.Lists.{In, Begins}
use Rattle.gz_reader.specs.Reader.{Message, read, committed}
use Rattle.gz_once.specs.Applications.{App, fold, values_to, part, reach, upto}
use Rattle.gz_once.specs.Log.{Entry, Handed, Committed, by, author_of, last, offsets_of, store_of, read_order, consumed}
use Rattle.gz_once.specs.Worlds.{Event, run, start}
use Rattle.gz_once.specs.Theorem.{Fenced, emitted, emitted_before, parts_of, ExactlyOnce, AcknowledgedBefore, OneProcess}
use Rattle.gz_reader.proofs.Updates.{drop_append}
use Rattle.gz_reader.proofs.Appends.{released_by}
use Rattle.gz_once.proofs.Texts.{upto_begins}
use Rattle.gz_once.proofs.Logs.{Absent, LogOk, Follows, all_accepted, ok_begins}
use Rattle.gz_once.proofs.Facts.{want, before, SharedOk, Invariant}
use Rattle.gz_once.proofs.Run.{holds}

fold_join : (g : App) (x : ℕ) (xs ys : List Message) → fold g x (xs ++ ys) ≡ fold g (fold g x xs) ys
fold_join g x [] ys = refl
fold_join g x (m ∷ xs) ys = fold_join g (g.apply x m) xs ys

module _ (g : App) (texts outs : ℕ → List Message) where
  store_is : (es : List Entry) → LogOk g texts outs es → store_of es ≡ fold g 0 (read_order g texts es)
  store_is [] ok = refl
  store_is (Handed a k ∷ es) ok = store_is es ok.2
  store_is (Committed x ∷ es) ok = let f : Follows g texts es x = ok.2 in
      f.state ∙ ap (λ v. fold g v (consumed g texts es x)) (store_is es ok.4) ∙ sym (fold_join g 0 (read_order g texts es) (consumed g texts es x))

  want_is : (j : ℕ) (es : List Entry) → LogOk g texts outs es → want g j es ≡ emitted g texts j es
  want_is j [] ok = refl
  want_is j (Handed a k ∷ es) ok = want_is j es ok.2
  want_is j (Committed x ∷ es) ok = let f : Follows g texts es x = ok.2 in
      ap (λ v. v ++ values_to g j x.emitted) (want_is j es ok.4) ∙ ap (λ v. emitted g texts j es ++ values_to g j v) f.emitted

  before_is : (j : ℕ) (es : List Entry) → LogOk g texts outs es → before g j es ≡ emitted_before g texts j es
  before_is j [] ok = refl
  before_is j (Handed a k ∷ es) ok = before_is j es ok.2
  before_is j (Committed x ∷ es) ok = want_is j es ok.4

absent_entry : (a : ℕ) (es : List Entry) (f : Entry) → Absent a es → In f es → by f ≡ a → ⊥
absent_entry a [] f n i z = absurd i
absent_entry a (e ∷ es) f n i z = elim i [ inl q ↦ n.0 (ap by (sym q) ∙ z) | inr j ↦ absent_entry a es f n.1 j z ]

in_back : {A : Type 0} (xs ys : List A) (x : A) → In x ys → In x (xs ++ ys)
in_back [] ys x i = i
in_back (y ∷ xs) ys x i = inr (in_back xs ys x i)

-- what was accepted of a prefix is a prefix
prefix_refl : {A : Type 0} (xs : List A) → IsPrefix xs xs
prefix_refl xs = ([], append-nil xs)

prefix_more : {A : Type 0} (xs ys zs : List A) → IsPrefix xs ys → IsPrefix xs (ys ++ zs)
prefix_more xs ys zs p = (p.0 ++ zs, sym (append_assoc xs p.0 zs) ∙ ap (λ v. v ++ zs) p.1)

pub prefix_drop : {A : Type 0} (xs ys : List A) → IsPrefix xs ys → xs ++ drop (length xs) ys ≡ ys
prefix_drop xs ys p = ap (λ v. xs ++ drop (length xs) v) (sym p.1) ∙ ap (λ v. xs ++ v) (drop_append xs p.0) ∙ p.1

pub commits_more : (t u : List Message) → Begins t u → IsPrefix (committed t) (committed u)
commits_more t [] b = subst (λ v. IsPrefix (committed t) (committed v)) b (prefix_refl (committed t))
commits_more t (m ∷ u) b = elim b [
  | inl e ↦ subst (λ v. IsPrefix (committed t) (committed v)) e (prefix_refl (committed t))
  | inr c ↦ (let r = released_by (read u) m in subst (IsPrefix (committed t)) (sym r.1) (prefix_more (committed t) (committed u) r.0 (commits_more t u c)))
]

pub upto_upto : (g : App) (k m n : ℕ) (t : List Message) → m ≤ n → Begins (upto g k m t) (upto g k n t)
upto_upto g k m n [] l = refl
upto_upto g k m n (x ∷ t) l = cond_both (leb (reach g k (x ∷ t)) n) _ _ (λ v. Begins (upto g k m (x ∷ t)) v)
    (λ _. upto_begins g k m (x ∷ t))
    (λ e. cond_both (leb (reach g k (x ∷ t)) m) _ _ (λ v. Begins v (upto g k n t))
    (λ f. absurd (let a = leb-false (reach g k (x ∷ t)) n e in let b = leb-true (reach g k (x ∷ t)) m f in omega arith))
    (λ _. upto_upto g k m n t l))

reach_low : (g : App) (k : ℕ) (t : List Message) → g.begin k ≤ reach g k t
reach_low g k [] = omega arith
reach_low g k (m ∷ t) = let h = reach_low g k t in omega (arith, h)

pub upto_none : (g : App) (k : ℕ) (t : List Message) → upto g k (g.begin k) t ≡ []
upto_none g k [] = refl
upto_none g k (m ∷ t) = cond_both (leb (reach g k (m ∷ t)) (g.begin k)) _ _ (λ v. v ≡ [])
    (λ e. absurd (let l = leb-true (reach g k (m ∷ t)) (g.begin k) e in let h = reach_low g k t in omega (arith, l, h))) (λ _. upto_none g k t)

-- the parts of a source are what is committed below the log's offset
parts_are : (g : App) (texts outs : ℕ → List Message) (k : ℕ) → k < g.sources → (es : List Entry) → LogOk g texts outs es →
    parts_of g texts k es ≡ (committed (upto g k (offsets_of g (last es) k) (texts k)))
parts_are g texts outs k l [] ok = ap committed (sym (upto_none g k (texts k)))
parts_are g texts outs k l (Handed a n ∷ es) ok = parts_are g texts outs k l es ok.2
parts_are g texts outs k l (Committed x ∷ es) ok =
    let f : Follows g texts es x = ok.2 in
    let w = f.within k l in
    ap (λ v. v ++ part g k (texts k) (offsets_of g (last es) k) (x.offsets k)) (parts_are g texts outs k l es ok.4)
    ∙ prefix_drop (committed (upto g k (offsets_of g (last es) k) (texts k))) (committed (upto g k (x.offsets k) (texts k)))
    (commits_more (upto g k (offsets_of g (last es) k) (texts k)) (upto g k (x.offsets k) (texts k)) (upto_upto g k (offsets_of g (last es) k) (x.offsets k) (texts k) w.0))

-- the author in force is from no place before a handoff that stands
not_before : (g : App) (texts outs : ℕ → List Message) (above es : List Entry) (b k : ℕ) → LogOk g texts outs (above ++ Handed b k ∷ es) → (f : Entry) → In f es → by f ≡ author_of (above ++ Handed b k ∷ es) → ⊥
not_before g texts outs [] es b k ok f i e = absent_entry b es f ok.1 i e
not_before g texts outs (Handed a n ∷ above) es b k ok f i e = absent_entry a (above ++ Handed b k ∷ es) f ok.1 (in_back above (Handed b k ∷ es) f (inr i)) e
not_before g texts outs (Committed x ∷ above) es b k ok f i e = not_before g texts outs above es b k ok.4 f i e

none_after : (g : App) (texts outs : ℕ → List Message) (above es : List Entry) (b k : ℕ) → LogOk g texts outs (above ++ Handed b k ∷ es) → (e f : Entry) → In e above → In f es → by e ≡ by f → ⊥
none_after g texts outs [] es b k ok e f i j z = absurd i
none_after g texts outs (Handed a n ∷ above) es b k ok e f i j z = elim i [
  | inl q ↦ absent_entry a (above ++ Handed b k ∷ es) f ok.1 (in_back above (Handed b k ∷ es) f (inr j)) (sym z ∙ ap by q)
  | inr q ↦ none_after g texts outs above es b k ok.2 e f q j z
]
none_after g texts outs (Committed x ∷ above) es b k ok e f i j z = elim i [
  | inl q ↦ not_before g texts outs above es b k ok.4 f j (sym z ∙ ap by q ∙ ok.1)
  | inr q ↦ none_after g texts outs above es b k ok.4 e f q j z
]

pub fenced : (g : App) (es : List Event) → Fenced (run g es start).shared
fenced g es = let i : Invariant g (run g es start) = holds g es in let s = (run g es start).shared in record {
  all = all_accepted g s.sources s.outs s.log (i.shared).log;
  register = (i.shared).register;
  after = λ above u b k z e f p q r. none_after g s.sources s.outs above u b k (subst (LogOk g s.sources s.outs) (sym z) (i.shared).log) e f p q r;
}

pub once : (g : App) (es : List Event) → ExactlyOnce g (run g es start).shared
once g es =
    let i : Invariant g (run g es start) = holds g es in
    let s = (run g es start).shared in
    let ok : SharedOk g s i.h = i.shared in
    record {
      rises = λ k l x u b. let o : LogOk g s.sources s.outs (Committed x ∷ u) = ok_begins g s.sources s.outs (Committed x ∷ u) s.log b ok.log in let f : Follows g s.sources u x = o.2 in (f.within k l).0;
      store = λ u b. let o = ok_begins g s.sources s.outs u s.log b ok.log in
          subst (λ v. store_of v ≡ fold g 0 (read_order g s.sources v)) (sym (all_accepted g s.sources s.outs u o)) (store_is g s.sources s.outs u o);
      order = λ k l. subst (λ v. IsPrefix v (committed (s.sources k))) (sym (parts_are g s.sources s.outs k l s.log ok.log))
          (commits_more (upto g k (offsets_of g (last s.log) k) (s.sources k)) (s.sources k) (upto_begins g k (offsets_of g (last s.log) k) (s.sources k)));
      outputs = λ j. elim (ok.outs j) [
        | inl a ↦ inl (a.accepted ∙ want_is g s.sources s.outs j s.log ok.log)
        | inr a ↦ inr (a.accepted ∙ before_is g s.sources s.outs j s.log ok.log)
      ];
    }

pub acknowledged : (g : App) (es : List Event) → AcknowledgedBefore g (run g es start).shared
acknowledged g es x y u b e j n =
    let i : Invariant g (run g es start) = holds g es in
    let s = (run g es start).shared in
    let l : LogOk g s.sources s.outs (Committed x ∷ u) = ok_begins g s.sources s.outs (Committed x ∷ u) s.log b (i.shared).log in
    l.3 y e j n

pub one_process : (g : App) (es : List Event) → OneProcess (run g es start)
one_process g es p q a b =
    let i : Invariant g (run g es start) = holds g es in
    let d = (i.procs p).draws in
    let f = (i.procs q).draws in
    (λ z. sym (d.holder a).0 ∙ ap (i.h).holder z ∙ (f.holder b).0, λ z. sym (d.holder a).1 ∙ ap (i.h).holder z ∙ (f.holder b).1)
