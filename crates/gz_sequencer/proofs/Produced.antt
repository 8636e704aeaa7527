-- What the messages of one producer release doesn't depend on the other producers'.
use Rattle.std.proofs.Common.{◌≡◌, ℕ, List, [], ◌∷◌, ◌++◌, map, filter, refl, ap, sym, ◌∙◌, subst, append_assoc, Bool, true, false, cond, Option, Some}
use Rattle.std.specs.Prelude.{⊤}
use Rattle.std.proofs.lemmas.List.{append-nil, map-append}
use Rattle.std.proofs.lemmas.List.Elements.{filter-append}
use Rattle.std.proofs.lemmas.Slice.Eq.{bytes_eq-Decides}
use Rattle.std.specs.List.{list_any}
use Rattle.std.specs.Str.{bytes_eq}
use Rattle.gz_frame.specs.Messages.{Message, is_ack, is_outside, is_end}
use Rattle.gz_frame.specs.Release.{Release, released, of_producer, chain, ascending, since_end, is_above, greatest}
use Rattle.gz_frame.specs.Text.{Placed}
use Rattle.gz_sequencer.specs.Committed.{messages_alone, released_in, committed_after}
use Rattle.gz_sequencer.proofs.PartHistories.{released_of_line}

-- what messages release in order behind a history
abbrev pub released_behind : List Message → List Message → List Message
released_behind history [] = []
released_behind history (m ∷ ms) = released (of_producer m.producer history) m ++ released_behind (history ++ m ∷ []) ms

-- the released messages of a text are those of its messages
pub messages_behind : (h : List Message) (ps : List Placed) → released_in (committed_after h ps) ≡ released_behind h (messages_alone ps)
messages_behind h [] = refl
messages_behind h (p ∷ ps) =
    let ms : List Message = released (of_producer p.message.producer h) p.message in
    let rest : List Release = committed_after (h ++ p.message ∷ []) ps in
    map-append (λ r. r.message) (map (λ r. record { message = r; end = p.end }) ms) rest
    ∙ rw (released_of_line p.end ms, messages_behind (h ++ p.message ∷ []) ps) refl

-- ---- what holds of each message of a history, and so of each that is released

abbrev pub Each : (Message → Type 0) → List Message → Type 0
Each P [] = ⊤
Each P (m ∷ ms) = P m × Each P ms

pub each_two : (P : Message → Type 0) (xs ys : List Message) → Each P xs → Each P ys → Each P (xs ++ ys)
each_two P [] ys a c = c
each_two P (x ∷ xs) ys a c = (a.0, each_two P xs ys a.1 c)

each_if : (P : Message → Type 0) (m : Message) (xs ys : List Message) (b : Bool) → P m → Each P xs → Each P ys → Each P (cond b (m ∷ xs) ys)
each_if P m xs ys true e a c = (e, a)
each_if P m xs ys false e a c = c

pub each_filter : (t : Message → Bool) (P : Message → Type 0) (ms : List Message) → Each P ms → Each P (filter t ms)
each_filter t P [] a = tt
each_filter t P (m ∷ ms) a = each_if P m (filter t ms) (filter t ms) (t m) a.0 (each_filter t P ms a.1) (each_filter t P ms a.1)

each_ascending : (top : Option ℕ) (P : Message → Type 0) (ms : List Message) → Each P ms → Each P (ascending top ms)
each_ascending top P [] a = tt
each_ascending top P (m ∷ ms) a =
    each_if P m (ascending (Some m.clock) ms) (ascending top ms) (is_above top m.clock) a.0 (each_ascending (Some m.clock) P ms a.1) (each_ascending top P ms a.1)

each_either : (P : Message → Type 0) (xs ys : List Message) (b : Bool) → Each P xs → Each P ys → Each P (cond b xs ys)
each_either P xs ys true a c = a
each_either P xs ys false a c = c

each_since : (P : Message → Type 0) (ms : List Message) → Each P ms → Each P (since_end ms)
each_since P [] a = tt
each_since P (m ∷ ms) a = each_either P (since_end ms) (m ∷ ms) (list_any is_end (m ∷ ms)) (each_since P ms a.1) a

pub each_released : (P : Message → Type 0) (h : List Message) (m : Message) → Each P h → P m → Each P (released h m)
each_released P h m a e =
    let waits : Each P (chain h) = each_ascending _ P _ (each_filter _ P (since_end h) (each_since P h a)) in
    each_either P _ _ (is_ack m) (each_filter _ P (chain h) waits)
    (each_either P _ _ (is_outside m) (each_either P (m ∷ []) [] (is_above (greatest h) m.clock) (e, tt) tt) tt)

pub each_behind : (P : Message → Type 0) (h ms : List Message) → Each P h → Each P ms → Each P (released_behind h ms)
each_behind P h [] a c = tt
each_behind P h (m ∷ ms) a c =
    each_two P (released (of_producer m.producer h) m) (released_behind (h ++ m ∷ []) ms)
    (each_released P (of_producer m.producer h) m (each_filter (λ o. bytes_eq o.producer m.producer) P h a) c.0)
    (each_behind P (h ++ m ∷ []) ms (each_two P h (m ∷ []) a (c.0, tt)) c.1)

-- ---- messages that are all of one producer

abbrev pub AllOf : List ℕ → List Message → Type 0
AllOf p ms = Each (λ m. bytes_eq m.producer p ≡ true) ms

all_of_test : (p : List ℕ) (m : Message) (xs : List Message) (b : Bool) → bytes_eq m.producer p ≡ b → AllOf p xs → AllOf p (cond b (m ∷ xs) xs)
all_of_test p m xs true e a = (e, a)
all_of_test p m xs false e a = a

pub all_of_producer : (p : List ℕ) (ms : List Message) → AllOf p (of_producer p ms)
all_of_producer p [] = tt
all_of_producer p (m ∷ ms) = all_of_test p m (of_producer p ms) (bytes_eq m.producer p) refl (all_of_producer p ms)

all_released : (p : List ℕ) (h : List Message) (m : Message) → AllOf p h → bytes_eq m.producer p ≡ true → AllOf p (released h m)
all_released p h m a e = each_released (λ o. bytes_eq o.producer p ≡ true) h m a e

-- the messages of their producer are all of them
pub of_all : (p : List ℕ) (ms : List Message) → AllOf p ms → of_producer p ms ≡ ms
of_all p [] a = refl
of_all p (m ∷ ms) a = rw (a.0, of_all p ms a.1) refl

-- and none of them is of another one
pub of_none : (p q : List ℕ) (ms : List Message) → bytes_eq q p ≡ false → AllOf q ms → of_producer p ms ≡ []
of_none p q [] other a = refl
of_none p q (m ∷ ms) other a =
    let same : m.producer ≡ q = (bytes_eq-Decides m.producer q).0 a.0 in
    let test : bytes_eq m.producer p ≡ false = ap (λ (o : List ℕ). bytes_eq o p) same ∙ other in
    rw (test, of_none p q ms other a.1) refl

-- ---- one producer's messages

one_of : (p : List ℕ) (h ms : List Message) (m : Message) (b : Bool) → bytes_eq m.producer p ≡ b
    → of_producer p (released_behind (h ++ m ∷ []) ms) ≡ released_behind (of_producer p (h ++ m ∷ [])) (of_producer p ms)
    → of_producer p (released_behind h (m ∷ ms)) ≡ released_behind (of_producer p h) (cond b (m ∷ of_producer p ms) (of_producer p ms))
one_of p h ms m true is more =
    let same : m.producer ≡ p = (bytes_eq-Decides m.producer p).0 is in
    let own : List Message = of_producer m.producer h in
    let first : of_producer p (released own m) ≡ released own m =
    of_all p (released own m) (all_released p own m (subst (λ (q : List ℕ). AllOf q own) same (all_of_producer m.producer h)) is) in
    let again : of_producer m.producer (of_producer p h) ≡ own =
    ap (λ (q : List ℕ). of_producer m.producer (of_producer q h)) (sym same) ∙ of_all m.producer own (all_of_producer m.producer h) in
    let last : of_producer p (m ∷ []) ≡ m ∷ [] = rw is refl in
    let grows : of_producer p (h ++ m ∷ []) ≡ of_producer p h ++ m ∷ [] =
    filter-append (λ o. bytes_eq o.producer p) h (m ∷ []) ∙ ap (λ (xs : List Message). of_producer p h ++ xs) last in
    filter-append (λ o. bytes_eq o.producer p) (released own m) (released_behind (h ++ m ∷ []) ms)
    ∙ ap (λ (xs : List Message). xs ++ of_producer p (released_behind (h ++ m ∷ []) ms)) first
    ∙ ap (λ (xs : List Message). released own m ++ xs) (more ∙ ap (λ (g : List Message). released_behind g (of_producer p ms)) grows)
    ∙ ap (λ (g : List Message). released g m ++ released_behind (of_producer p h ++ m ∷ []) (of_producer p ms)) (sym again)
one_of p h ms m false is more =
    let own : List Message = of_producer m.producer h in
    let first : of_producer p (released own m) ≡ [] =
    of_none p m.producer (released own m) is (all_released m.producer own m (all_of_producer m.producer h) ((bytes_eq-Decides m.producer m.producer).1 refl)) in
    let last : of_producer p (m ∷ []) ≡ [] = rw is refl in
    let keeps : of_producer p (h ++ m ∷ []) ≡ of_producer p h =
    filter-append (λ o. bytes_eq o.producer p) h (m ∷ []) ∙ ap (λ (xs : List Message). of_producer p h ++ xs) last ∙ append-nil (of_producer p h) in
    filter-append (λ o. bytes_eq o.producer p) (released own m) (released_behind (h ++ m ∷ []) ms)
    ∙ ap (λ (xs : List Message). xs ++ of_producer p (released_behind (h ++ m ∷ []) ms)) first
    ∙ more
    ∙ ap (λ (g : List Message). released_behind g (of_producer p ms)) keeps

pub of_released : (p : List ℕ) (h ms : List Message) → of_producer p (released_behind h ms) ≡ released_behind (of_producer p h) (of_producer p ms)
of_released p h [] = refl
of_released p h (m ∷ ms) = one_of p h ms m (bytes_eq m.producer p) refl (of_released p (h ++ m ∷ []) ms)
