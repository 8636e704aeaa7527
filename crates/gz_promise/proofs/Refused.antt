-- Accounts that the promise refuses.
use Rattle.std.proofs.Common.{◌≡◌, ℕ, zero, suc, ◌<◌, ◌==◌, List, [], ◌∷◌, ◌++◌, filter, refl, ap, sym, ◌∙◌, Bool, true, false, cond, arith, inl, inr}
use Rattle.std.specs.Prelude.{◌⊎◌}
use Rattle.std.proofs.lemmas.Bool.{eqb-false}
use Rattle.std.proofs.lemmas.List.{map-append, append-nil}
use Rattle.gz_frame.specs.Messages.{Message}
use Rattle.gz_app.specs.Applications.{Output}
use Rattle.gz_app.specs.States.{State}
use Rattle.gz_app.specs.declared.app.AppKind.{AppKind}
use Rattle.gz_app.specs.declared.app.AppKind.TheVariants.{Count}
use Rattle.gz_promise.specs.Accounts.{starts_of}
use Rattle.gz_promise.specs.Applications.{emitted}
use Rattle.gz_promise.specs.Laws.{takes_nothing, takes_two_orders, message_of, first_count}
use Rattle.gz_promise.specs.Outputs.{routed}
use Rattle.gz_promise.specs.Promise.{AllWithin, ExactlyOnce, Interleaves, Accept, Taken, emitted_by, earlier, joined, messages_in, of_source}

-- a commit without an offset
pub nothing_refused : (app : AppKind) (m n : Message) (first second store : State) (outputs : List (List Output))
    → ExactlyOnce (takes_nothing app m n first second store outputs) → ⊥
nothing_refused app m n first second store outputs once =
    let none : 0 ≡ 1 = once.offsets.0 in
    absurd (omega (arith, none))

-- ---- two orders

neither : (n : ℕ) → n < 2 → (n ≡ 0 → ⊥) → (n ≡ 1 → ⊥) → ⊥
neither zero less is_zero is_one = is_zero refl
neither (suc zero) less is_zero is_one = is_one refl
neither (suc (suc n)) less is_zero is_one = absurd (omega (arith, less))

low_if : (m : Message) (ms ns ks : List Message) (source : ℕ) (is_zero is_one : Bool) → (source == 0) ≡ is_zero → (source == 1) ≡ is_one → source < 2
    → (ns ≡ [] → ms ≡ ks) → cond is_one (m ∷ ns) ns ≡ [] → m ∷ ms ≡ cond is_zero (m ∷ ks) ks
low_if m ms ns ks source true true z o few rest none = cc
low_if m ms ns ks source true false z o few rest none = ap (λ (xs : List Message). m ∷ xs) (rest none)
low_if m ms ns ks source false true z o few rest none = cc
low_if m ms ns ks source false false z o few rest none =
    absurd (neither source few (λ e. eqb-false source 0 z e) (λ e. eqb-false source 1 o e))

high_if : (m : Message) (ms ns ks : List Message) (source : ℕ) (is_zero is_one : Bool) → (source == 0) ≡ is_zero → (source == 1) ≡ is_one → source < 2
    → (ks ≡ [] → ms ≡ ns) → cond is_zero (m ∷ ks) ks ≡ [] → m ∷ ms ≡ cond is_one (m ∷ ns) ns
high_if m ms ns ks source true true z o few rest none = cc
high_if m ms ns ks source true false z o few rest none = cc
high_if m ms ns ks source false true z o few rest none = ap (λ (xs : List Message). m ∷ xs) (rest none)
high_if m ms ns ks source false false z o few rest none = absurd (neither source few (λ e. eqb-false source 0 z e) (λ e. eqb-false source 1 o e))

split_if : (b : Bool) (t : Taken) (us : List Taken) → messages_in (cond b (t ∷ us) us) ≡ cond b (t.message ∷ messages_in us) (messages_in us)
split_if true t us = refl
split_if false t us = refl

-- the first one of what was taken
split_first : (k : ℕ) (t : Taken) (ts : List Taken) → of_source k (t ∷ ts) ≡ cond (t.source == k) (t.message ∷ of_source k ts) (of_source k ts)
split_first k t ts = split_if (t.source == k) t (filter (λ u. u.source == k) ts)

-- where nothing of the second source was taken, all is of the first one
all_low : (ts : List Taken) → AllWithin 2 ts → of_source 1 ts ≡ [] → messages_in ts ≡ of_source 0 ts
all_low [] within none = refl
all_low (t ∷ ts) within none =
    low_if t.message (messages_in ts) (of_source 1 ts) (of_source 0 ts) t.source (t.source == 0) (t.source == 1) refl refl within.0 (λ e. all_low ts within.1 e) (sym (split_first 1 t ts) ∙ none)
    ∙ sym (split_first 0 t ts)

-- where nothing of the first source was taken, all is of the second one
all_high : (ts : List Taken) → AllWithin 2 ts → of_source 0 ts ≡ [] → messages_in ts ≡ of_source 1 ts
all_high [] within none = refl
all_high (t ∷ ts) within none =
    high_if t.message (messages_in ts) (of_source 1 ts) (of_source 0 ts) t.source (t.source == 0) (t.source == 1) refl refl within.0 (λ e. all_high ts within.1 e) (sym (split_first 0 t ts) ∙ none)
    ∙ sym (split_first 1 t ts)

of_two : (ts us : List Taken) → messages_in (joined (ts ∷ us ∷ [])) ≡ messages_in ts ++ messages_in us
of_two ts us =
    map-append (λ t. t.message) ts (us ++ []) ∙ ap (λ (xs : List Taken). messages_in ts ++ messages_in xs) (append-nil us)

of_one : (ts : List Taken) → messages_in (joined (ts ∷ [])) ≡ messages_in ts
of_one ts = ap (λ (xs : List Taken). messages_in xs) (append-nil ts)

abbrev key_a : Message
key_a = message_of (97 ∷ [])

abbrev key_b : Message
key_b = message_of (98 ∷ [])

-- what readers accept
abbrev read_first : List Output
read_first = first_count (98 ∷ []) ∷ first_count (97 ∷ []) ∷ []

first_of : List ℕ → ℕ
first_of [] = 0
first_of (b ∷ bs) = b

head_of : List Output → ℕ
head_of [] = 0
head_of (o ∷ os) = first_of o.key

other_order : (xs ys : List Message) → xs ≡ key_a ∷ [] → ys ≡ key_a ∷ key_b ∷ []
    → (read_first ≡ routed 1 0 (emitted Count [] xs)) ⊎ (read_first ≡ routed 1 0 (emitted Count [] ys)) → ⊥
unfolding head_of first_of
other_order xs ys early all (inl is) =
    let clash : read_first ≡ first_count (97 ∷ []) ∷ [] = is ∙ ap (λ (ms : List Message). routed 1 0 (emitted Count [] ms)) early in
    cc
other_order xs ys early all (inr is) =
    let clash : read_first ≡ first_count (97 ∷ []) ∷ first_count (98 ∷ []) ∷ [] = is ∙ ap (λ (ms : List Message). routed 1 0 (emitted Count [] ms)) all in
    let keys : 98 ≡ 97 = ap (λ (os : List Output). head_of os) clash in
    absurd (omega (arith, keys))

no_order : (order : List (List Taken)) → Interleaves takes_two_orders.sources (starts_of takes_two_orders.sources) takes_two_orders.commits order
    → Accept 1 0 (emitted_by Count (earlier order)) (emitted_by Count order) takes_two_orders.outputs → ⊥
no_order [] is accepts = absurd is
no_order (ts ∷ []) is accepts = absurd is.2
no_order (ts ∷ us ∷ vs ∷ order) is accepts = absurd is.2.2
no_order (ts ∷ us ∷ []) is accepts =
    let first : messages_in ts ≡ key_a ∷ [] = all_low ts is.0 is.1.1.0 ∙ is.1.0 in
    let second : messages_in us ≡ key_b ∷ [] = all_high us is.2.0 is.2.1.0 ∙ is.2.1.1.0 in
    let early : messages_in (joined (ts ∷ [])) ≡ key_a ∷ [] = of_one ts ∙ first in
    let all : messages_in (joined (ts ∷ us ∷ [])) ≡ key_a ∷ key_b ∷ [] = of_two ts us ∙ rw (first, second) refl in
    other_order (messages_in (joined (ts ∷ []))) (messages_in (joined (ts ∷ us ∷ []))) early all accepts.0

pub two_orders_refused : ExactlyOnce takes_two_orders → ⊥
two_orders_refused once = no_order once.order once.interleaves once.accepted
