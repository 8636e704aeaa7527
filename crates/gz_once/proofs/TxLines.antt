-- The lines of a transaction: their clocks rise from its first one and are below its acknowledgement's, and that releases of them
-- exactly what the transaction emits to the output. Publishing and Committing rest on it.
use Rattle.std.proofs.Common.{◌≡◌, ℕ, ◌+◌, ◌<◌, ◌≤◌, List, [], ◌∷◌, length, refl, ap, sym, ◌∙◌, arith, Bool, true, false, cond, eqb, leb, inl, inr}
use Rattle.std.proofs.lemmas.Bool.{cond_both, cases_lt, leb-false, ltb-true, and_parts, true≢false}
use Rattle.gz_reader.specs.Reader.{Line, up_to}
use Rattle.gz_reader.specs.Reader.{values_of}
use Rattle.gz_once.specs.Applications.{App, lines_to, values_to, number, goes}
use Rattle.gz_once.specs.Log.{Transaction, ack, lines, needs, some_lines}
use Rattle.gz_reader.proofs.Appends.{Ascending, Below, ascending_down}

-- the lines of a transaction
number_ascending : (c : ℕ) (vs : List ℕ) → Ascending c (number c vs)
number_ascending c [] = tt
number_ascending c (v ∷ vs) = (omega arith, number_ascending (c + 1) vs)

number_below : (c : ℕ) (vs : List ℕ) (n : ℕ) → c + length vs ≤ n → Below n (number c vs)
number_below c [] n l = tt
number_below c (v ∷ vs) n l = (omega arith, number_below (c + 1) vs n (omega arith))

to_ascending : (g : App) (j n : ℕ) (ls : List Line) → Ascending n ls → Ascending n (lines_to g j ls)
to_ascending g j n [] r = tt
to_ascending g j n (l ∷ ls) r = cond_both (goes g j l.value) _ _ (Ascending n)
    (λ _. (r.0, to_ascending g j (l.clock + 1) ls r.1))
    (λ _. ascending_down n (l.clock + 1) (lines_to g j ls) (omega (arith, r.0)) (to_ascending g j (l.clock + 1) ls r.1))

to_below : (g : App) (j n : ℕ) (ls : List Line) → Below n ls → Below n (lines_to g j ls)
to_below g j n [] b = tt
to_below g j n (l ∷ ls) b = cond_both (goes g j l.value) _ _ (Below n) (λ _. (b.0, to_below g j n ls b.1)) (λ _. to_below g j n ls b.1)

pub lines_ascending : (g : App) (x : Transaction) (j : ℕ) → Ascending x.first (lines g x j)
lines_ascending g x j = to_ascending g j x.first (number x.first x.emitted) (number_ascending x.first x.emitted)

pub lines_below : (g : App) (x : Transaction) (j : ℕ) → Below (ack x) (lines g x j)
lines_below g x j = to_below g j (ack x) (number x.first x.emitted) (number_below x.first x.emitted (ack x) (omega arith))

pub no_lines : (ls : List Line) → some_lines ls ≡ false → ls ≡ []
no_lines [] e = refl
no_lines (l ∷ ls) e = absurd (true≢false e)

-- an acknowledgement of a transaction's clock releases the values of its lines
abbrev values_up_to : ℕ → List Line → List ℕ
values_up_to a [] = []
values_up_to a (l ∷ ls) = cond (leb l.clock a) (l.value ∷ values_up_to a ls) (values_up_to a ls)

released : (g : App) (j a c : ℕ) (vs : List ℕ) → c + length vs ≤ a → values_up_to a (lines_to g j (number c vs)) ≡ values_to g j vs
released g j a c [] l = refl
released g j a c (v ∷ vs) l = cond_both (goes g j v) _ _ (λ ls. values_up_to a ls ≡ cond (goes g j v) (v ∷ values_to g j vs) (values_to g j vs))
    (λ e. cond_both (leb c a) _ _ (λ us. us ≡ cond (goes g j v) (v ∷ values_to g j vs) (values_to g j vs))
    (λ _. ap (λ us. v ∷ us) (released g j a (c + 1) vs (omega arith)) ∙ ap (λ b. cond b (v ∷ values_to g j vs) (values_to g j vs)) (sym e))
    (λ f. absurd (let h = leb-false c a f in omega arith)))
    (λ e. released g j a (c + 1) vs (omega arith) ∙ ap (λ b. cond b (v ∷ values_to g j vs) (values_to g j vs)) (sym e))

own_up_to : (own : ℕ → Bool) (p a : ℕ) (ls : List Line) → own p ≡ true → values_of own (up_to p a ls) ≡ values_up_to a ls
own_up_to own p a [] e = refl
own_up_to own p a (l ∷ ls) e = cond_both (leb l.clock a) _ _ (λ v. values_of own v ≡ cond (leb l.clock a) (l.value ∷ values_up_to a ls) (values_up_to a ls))
    (λ f. ap (λ b. cond b (l.value ∷ values_of own (up_to p a ls)) (values_of own (up_to p a ls))) e ∙ ap (λ v. l.value ∷ v) (own_up_to own p a ls e)
    ∙ ap (λ b. cond b (l.value ∷ values_up_to a ls) (values_up_to a ls)) (sym f))
    (λ f. own_up_to own p a ls e ∙ ap (λ b. cond b (l.value ∷ values_up_to a ls) (values_up_to a ls)) (sym f))

pub tx_released : (own : ℕ → Bool) (g : App) (x : Transaction) (j p : ℕ) → own p ≡ true → values_of own (up_to p (ack x) (lines g x j)) ≡ values_to g j x.emitted
tx_released own g x j p e = own_up_to own p (ack x) (lines g x j) e ∙ released g j (ack x) x.first x.emitted (omega arith)

-- a transaction without lines for an output emits nothing to it
pub no_values : (g : App) (x : Transaction) (j : ℕ) → needs g x j ≡ false → values_to g j x.emitted ≡ []
no_values g x j e = sym (released g j (ack x) x.first x.emitted (omega arith)) ∙ ap (values_up_to (ack x)) (no_lines (lines g x j) e)

-- outputs beyond the last have no lines
beyond : (g : App) (j : ℕ) (ls : List Line) → g.outputs ≤ j → lines_to g j ls ≡ []
beyond g j [] l = refl
beyond g j (x ∷ ls) l = cond_both (goes g j x.value) _ _ (λ r. r ≡ [])
    (λ e. absurd (let h = and_parts (eqb (g.choose x.value) j) _ e in let k = ltb-true j g.outputs h.1 in omega arith))
    (λ _. beyond g j ls l)

pub needs_less : (g : App) (x : Transaction) (j : ℕ) → needs g x j ≡ true → j < g.outputs
needs_less g x j e = elim (cases_lt j g.outputs) [ inl l ↦ l | inr l ↦ absurd (true≢false (sym e ∙ ap some_lines (beyond g j (number x.first x.emitted) l))) ]
