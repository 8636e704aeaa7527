-- The laws of who runs such shards, from the claims on the log.
use Rattle.std.proofs.Common.{◌≡◌, ℕ, List, [], ◌∷◌, ◌++◌, ap, sym, ◌∙◌, subst, ◌⊎◌, inl, inr, append_assoc}
use Rattle.gz_reader.specs.Lists.{In, Begins}
use Rattle.gz_once.specs.Applications.{App}
use Rattle.gz_once.specs.Log.{Handed, Committed}
use Rattle.gz_once.specs.Worlds.{Event, run, start}
use Rattle.gz_once.specs.Theorem.{Fenced, IsFenced, LandsNothing, WithoutGap, OneCommits}
use Rattle.gz_once.proofs.Logs.{LogOk, Follows, ok_begins}
use Rattle.gz_once.proofs.Facts.{Invariant}
use Rattle.gz_once.proofs.Run.{holds}
use Rattle.gz_once.proofs.Claims.{fenced}
use Rattle.gz_once.proofs.Grows.{grows}

-- what has come on top
come : {A : Type 0} (xs ys : List A) → Begins xs ys → (zs : List A) × (zs ++ xs ≡ ys)
come xs [] b = ([], b)
come xs (y ∷ ys) b = elim b [ inl e ↦ ([], e) | inr c ↦ (let r = come xs ys c in (y ∷ r.0, ap (λ v. y ∷ v) r.1)) ]

in_two : {A : Type 0} (xs ys : List A) (x : A) → In x (xs ++ ys) → (In x xs) ⊎ (In x ys)
in_two [] ys x i = inr i
in_two (y ∷ xs) ys x i = elim i [ inl e ↦ inl (inl e) | inr j ↦ elim (in_two xs ys x j) [ inl k ↦ inl (inr k) | inr k ↦ inr k ] ]

in_prefix : {A : Type 0} (xs ys : List A) (x : A) → In x xs → In x (xs ++ ys)
in_prefix [] ys x i = absurd i
in_prefix (y ∷ xs) ys x i = elim i [ inl e ↦ inl e | inr j ↦ inr (in_prefix xs ys x j) ]

pub fenced_lands_nothing : (g : App) (es later : List Event) (a : ℕ) → IsFenced a (run g es start).shared → LandsNothing a (run g es start).shared (run g (es ++ later) start).shared
fenced_lands_nothing g es later a f e is i =
    let s = (run g es start).shared in
    let t = (run g (es ++ later) start).shared in
    let new = come s.log t.log (grows g es later).log in
    let split : (new.0 ++ f.above) ++ Handed f.other f.number ∷ f.below ≡ t.log =
    append_assoc new.0 f.above (Handed f.other f.number ∷ f.below) ∙ ap (λ v. new.0 ++ v) f.is_log ∙ new.1 in
    let k : Fenced t = fenced g (es ++ later) in
    elim (in_two new.0 s.log e (subst (In e) (sym new.1) i)) [
      | inl j ↦ absurd (let h = f.handed in k.after (new.0 ++ f.above) f.below f.other f.number split e h.0 (in_prefix new.0 f.above e j) h.1 (is ∙ sym h.2))
      | inr j ↦ j
    ]

pub without_gap : (g : App) (es : List Event) → WithoutGap g (run g es start).shared
without_gap g es x u b =
    let i : Invariant g (run g es start) = holds g es in
    let s = (run g es start).shared in
    let ok : LogOk g s.sources s.outs (Committed x ∷ u) = ok_begins g s.sources s.outs (Committed x ∷ u) s.log b (i.shared).log in
    let f : Follows g s.sources u x = ok.2 in
    record { number = ok.0; offsets = λ k l. (f.within k l).0; state = f.state; emitted = f.emitted }

pub one_commits : (g : App) (es : List Event) → OneCommits (run g es start)
one_commits g es p q k above below is h x i e =
    let f : Fenced (run g es start).shared = fenced g es in
    f.after above below ((run g es start).procs q).author k is (Committed x) h.0 i h.1 (e ∙ sym h.2)
