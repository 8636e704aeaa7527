-- The ends that members hold, member by member.
use Rattle.std.proofs.Common.{◌≡◌, ℕ, zero, suc, ◌+◌, ◌<◌, ◌≤◌, Bool, true, false, List, [], ◌∷◌, ◌++◌, length, take, drop, set, get_or, min, max, refl, ap, sym, ◌∙◌, arith, append_assoc}
use Rattle.std.specs.Prelude.{if◌then◌else◌}
use Rattle.std.specs.Str.{bytes_eq}
use Rattle.std.proofs.lemmas.List.{drop_more}
use Rattle.gz_replica.specs.Slots.{all_at, least, held_raised}

one_behind : (n : ℕ) → suc n ≡ n + 1
one_behind n = omega arith

-- one end for one more name
pub all_left : (done : List (List ℕ × ℕ)) (end : ℕ) (names : List (List ℕ)) (i : ℕ) (m : List ℕ) → i < length names → m ≡ get_or names i m
    → (done ++ (m, end) ∷ []) ++ all_at end (drop (i + 1) names) ≡ done ++ all_at end (drop i names)
all_left done end names i m within is =
    append_assoc done ((m, end) ∷ []) (all_at end (drop (i + 1) names))
    ∙ ap (λ (y : List ℕ). done ++ all_at end (y ∷ drop (i + 1) names)) is
    ∙ ap (λ (ns : List (List ℕ)). done ++ all_at end ns) (sym (drop_more names i m within))

least_less : (end other : ℕ) (ps : List (List ℕ × ℕ)) → least (min end other) ps ≡ min other (least end ps)
least_less end other [] = omega arith
least_less end other (q ∷ qs) = let l : least (min end other) qs ≡ min other (least end qs) = least_less end other qs in omega arith

least_next : (end : ℕ) (ps : List (List ℕ × ℕ)) (i : ℕ) (p : List ℕ × ℕ) → i < length ps → p ≡ get_or ps i p → least (min end p.1) (drop (suc i) ps) ≡ least end (drop i ps)
least_next end [] i p within is = absurd (omega arith)
least_next end (x ∷ ps) zero p within is = ap (λ (q : List ℕ × ℕ). least (min end q.1) ps) is ∙ least_less end x.1 ps
least_next end (x ∷ ps) (suc i) p within is = least_next end ps i p (omega arith) is

-- the least of an end and of what a place leaves, and of what one more leaves
pub least_step : (end : ℕ) (ps : List (List ℕ × ℕ)) (i : ℕ) (p : List ℕ × ℕ) → i < length ps → p ≡ get_or ps i p → least (min end p.1) (drop (i + 1) ps) ≡ least end (drop i ps)
least_step end ps i p within is = ap (λ (n : ℕ). least (min end p.1) (drop n ps)) (sym (one_behind i)) ∙ least_next end ps i p within is

-- ---- where one member's end is raised

raised_first : (end reached : ℕ) (x : List ℕ × ℕ) (qs : List (List ℕ × ℕ)) (b : Bool)
    → least (min end (if b then max x.1 reached else x.1)) qs ≡ min (if b then (x.0, max x.1 reached) else x).1 (least end qs)
raised_first end reached x qs true = least_less end (max x.1 reached) qs
raised_first end reached x qs false = least_less end x.1 qs

raised_next : (m : List ℕ) (end reached : ℕ) (ps : List (List ℕ × ℕ)) (i : ℕ) (p : List ℕ × ℕ) → i < length ps → p ≡ get_or ps i p
    → least (min end (if bytes_eq m p.0 then max p.1 reached else p.1)) (held_raised m reached (drop (suc i) ps)) ≡ least end (held_raised m reached (drop i ps))
raised_next m end reached [] i p within is = absurd (omega arith)
raised_next m end reached (x ∷ ps) zero p within is =
    ap (λ (q : List ℕ × ℕ). least (min end (if bytes_eq m q.0 then max q.1 reached else q.1)) (held_raised m reached ps)) is
    ∙ raised_first end reached x (held_raised m reached ps) (bytes_eq m x.0)
raised_next m end reached (x ∷ ps) (suc i) p within is = raised_next m end reached ps i p (omega arith) is

-- the least of an end and of what a place leaves, and of what one more leaves
pub raised_step : (m : List ℕ) (end reached : ℕ) (ps : List (List ℕ × ℕ)) (i : ℕ) (p : List ℕ × ℕ) → i < length ps → p ≡ get_or ps i p
    → least (min end (if bytes_eq m p.0 then max p.1 reached else p.1)) (held_raised m reached (drop (i + 1) ps)) ≡ least end (held_raised m reached (drop i ps))
raised_step m end reached ps i p within is =
    ap (λ (n : ℕ). least (min end (if bytes_eq m p.0 then max p.1 reached else p.1)) (held_raised m reached (drop n ps))) (sym (one_behind i))
    ∙ raised_next m end reached ps i p within is

raise_next : (m : List ℕ) (end : ℕ) (ps : List (List ℕ × ℕ)) (i : ℕ) (p : List ℕ × ℕ) → i < length ps → p ≡ get_or (held_raised m end (take i ps) ++ drop i ps) i p
    → set (held_raised m end (take i ps) ++ drop i ps) i (if bytes_eq m p.0 then (p.0, max p.1 end) else p) ≡ held_raised m end (take (suc i) ps) ++ drop (suc i) ps
raise_next m end [] i p within is = absurd (omega arith)
raise_next m end (x ∷ ps) zero p within is = ap (λ (q : List ℕ × ℕ). (if bytes_eq m q.0 then (q.0, max q.1 end) else q) ∷ ps) is
raise_next m end (x ∷ ps) (suc i) p within is =
    ap (λ (qs : List (List ℕ × ℕ)). (if bytes_eq m x.0 then (x.0, max x.1 end) else x) ∷ qs) (raise_next m end ps i p (omega arith) is)

-- one more place is raised
pub raise_step : (m : List ℕ) (end : ℕ) (ps : List (List ℕ × ℕ)) (i : ℕ) (p : List ℕ × ℕ) → i < length ps → p ≡ get_or (held_raised m end (take i ps) ++ drop i ps) i p
    → set (held_raised m end (take i ps) ++ drop i ps) i (if bytes_eq m p.0 then (p.0, max p.1 end) else p) ≡ held_raised m end (take (i + 1) ps) ++ drop (i + 1) ps
raise_step m end ps i p within is =
    raise_next m end ps i p within is ∙ ap (λ (n : ℕ). held_raised m end (take n ps) ++ drop n ps) (one_behind i)

-- as many as before
pub length_raised : (m : List ℕ) (end : ℕ) (ps : List (List ℕ × ℕ)) → length (held_raised m end ps) ≡ length ps
length_raised m end [] = refl
length_raised m end (p ∷ ps) = ap (λ (n : ℕ). suc n) (length_raised m end ps)
