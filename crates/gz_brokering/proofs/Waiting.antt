-- Answers that wait, from the first one on.
use Rattle.std.proofs.Common.{◌≡◌, ℕ, suc, ◌-◌, ◌<◌, ◌≤◌, List, [], ◌∷◌, ◌++◌, length, get_or, Bool, true, false, nat_le, refl, ap, sym, ◌∙◌, arith, append_assoc, append-nil}
use Rattle.std.proofs.lemmas.Bool.{and_from, and_parts, cond_both, le-leb, leb-false, leb-true}
use Rattle.gz_wire.specs.declared.msg.Send.{Send}
use Rattle.gz_replica.specs.Member.{send}
use Rattle.gz_broker.specs.Brokers.{Queued}
use Rattle.gz_broker.specs.Brokers.{append_done, reached, waiting}
use Rattle.gz_broker.specs.Closing.{closed, closings_of}
use Rattle.gz_brokering.specs.Queues.{is_ascending_from, is_first_reached}

pub first_read : (head : ℕ) (qs : List Queued) (q : Queued) → 0 < length qs → q ≡ get_or qs 0 q → is_first_reached head qs ≡ nat_le q.reach head
first_read head [] q some is = absurd (omega arith)
first_read head (x ∷ qs) q some is = ap (λ (y : Queued). nat_le y.reach head) (sym is)

here_reached : (head : ℕ) (all qs : List Queued) (q : Queued) → all ≡ q ∷ qs → is_first_reached head all ≡ true → nat_le q.reach head ≡ true
here_reached head all qs q is first = ap (λ (rs : List Queued). is_first_reached head rs) (sym is) ∙ first

-- the first of them that is sent
pub next_sent : (done : List Send) (j : List ℕ) (head : ℕ) (all qs : List Queued) (q : Queued) → all ≡ q ∷ qs → is_first_reached head all ≡ true
    → (done ++ send q.to (append_done j q.answer) ∷ []) ++ reached j head qs ≡ done ++ reached j head all
next_sent done j head all qs q is first =
    let one : reached j head (q ∷ qs) ≡ send q.to (append_done j q.answer) ∷ reached j head qs = rw (here_reached head all qs q is first) refl in
    append_assoc done (send q.to (append_done j q.answer) ∷ []) (reached j head qs)
    ∙ ap (λ (ss : List Send). done ++ ss) (sym one)
    ∙ ap (λ (rs : List Queued). done ++ reached j head rs) (sym is)

-- waits no more
pub next_waits : (head : ℕ) (all qs : List Queued) (q : Queued) → all ≡ q ∷ qs → is_first_reached head all ≡ true → waiting head qs ≡ waiting head all
next_waits head all qs q is first =
    let one : waiting head (q ∷ qs) ≡ waiting head qs = rw (here_reached head all qs q is first) refl in
    sym one ∙ ap (λ (rs : List Queued). waiting head rs) (sym is)

-- ---- ascending

from_lower : (low lower : ℕ) (qs : List Queued) → lower ≤ low → is_ascending_from low qs ≡ true → is_ascending_from lower qs ≡ true
from_lower low lower [] less all = refl
from_lower low lower (q ∷ qs) less all =
    let parts = and_parts (nat_le low q.reach) (is_ascending_from q.reach qs) all in
    and_from (nat_le lower q.reach) (is_ascending_from q.reach qs) (le-leb lower q.reach (let h = leb-true low q.reach parts.0 in omega arith)) parts.1

pub next_ascends : (all qs : List Queued) (q : Queued) → all ≡ q ∷ qs → is_ascending_from 0 all ≡ true → is_ascending_from 0 qs ≡ true
next_ascends all qs q is ascends =
    let first : is_ascending_from 0 (q ∷ qs) ≡ true = ap (λ (rs : List Queued). is_ascending_from 0 rs) (sym is) ∙ ascends in
    let parts = and_parts (nat_le 0 q.reach) (is_ascending_from q.reach qs) first in
    from_lower q.reach 0 qs (omega arith) parts.1

-- the last is none below the first
last_above : (low : ℕ) (qs : List Queued) (q : Queued) → is_ascending_from low qs ≡ true → 0 < length qs → (get_or qs (length qs - 1) q).reach ≤ q.reach → low ≤ q.reach
last_above low [] q ascends some last = absurd (omega arith)
last_above low (x ∷ []) q ascends some last =
    let parts = and_parts (nat_le low x.reach) true ascends in
    let h = leb-true low x.reach parts.0 in omega arith
last_above low (x ∷ y ∷ qs) q ascends some last =
    let parts = and_parts (nat_le low x.reach) (is_ascending_from x.reach (y ∷ qs)) ascends in
    let h = leb-true low x.reach parts.0 in
    let back : length (x ∷ y ∷ qs) - 1 ≡ suc (length (y ∷ qs) - 1) = omega arith in
    let more : x.reach ≤ q.reach = last_above x.reach (y ∷ qs) q parts.1 (omega arith) (rw back at last) in
    omega arith

-- one more behind the last
ascends_behind : (low : ℕ) (qs : List Queued) (q : Queued) → is_ascending_from low qs ≡ true → low ≤ q.reach → ((d : Queued) → 0 < length qs → (get_or qs (length qs - 1) d).reach ≤ q.reach)
    → is_ascending_from low (qs ++ q ∷ []) ≡ true
ascends_behind low [] q ascends less last = and_from (nat_le low q.reach) true (le-leb low q.reach less) refl
ascends_behind low (x ∷ []) q ascends less last =
    let parts = and_parts (nat_le low x.reach) true ascends in
    and_from (nat_le low x.reach) (is_ascending_from x.reach (q ∷ [])) parts.0 (and_from (nat_le x.reach q.reach) true (le-leb x.reach q.reach (last x (omega arith))) refl)
ascends_behind low (x ∷ y ∷ qs) q ascends less last =
    let parts = and_parts (nat_le low x.reach) (is_ascending_from x.reach (y ∷ qs)) ascends in
    let back : length (x ∷ y ∷ qs) - 1 ≡ suc (length (y ∷ qs) - 1) = omega arith in
    let rest : (d : Queued) → 0 < length (y ∷ qs) → (get_or (y ∷ qs) (length (y ∷ qs) - 1) d).reach ≤ q.reach =
    λ d some. rw back at (last d (omega arith)) in
    let behind : x.reach ≤ q.reach = last_above x.reach (y ∷ qs) q parts.1 (omega arith) (rest q (omega arith)) in
    and_from (nat_le low x.reach) (is_ascending_from x.reach ((y ∷ qs) ++ q ∷ [])) parts.0 (ascends_behind x.reach (y ∷ qs) q parts.1 behind rest)

-- ---- none is reached

abbrev pub AllWait : ℕ → List Queued → Type 0
AllWait head qs = ((j : List ℕ) → reached j head qs ≡ []) × (waiting head qs ≡ qs)

-- where the first isn't reached, none is
pub none_reached : (low head : ℕ) (qs : List Queued) → head < low → is_ascending_from low qs ≡ true → AllWait head qs
none_reached low head [] above ascends = (λ j. refl, refl)
none_reached low head (q ∷ qs) above ascends =
    let parts = and_parts (nat_le low q.reach) (is_ascending_from q.reach qs) ascends in
    let behind : head < q.reach = let h = leb-true low q.reach parts.0 in omega arith in
    let rest = none_reached q.reach head qs behind parts.1 in (
      λ j. cond_both (nat_le q.reach head) _ _ (λ (ss : List Send). ss ≡ []) (λ t. absurd (let h = leb-true q.reach head t in omega arith)) (λ _. rest.0 j),
      cond_both (nat_le q.reach head) _ _ (λ (rs : List Queued). rs ≡ q ∷ qs) (λ t. absurd (let h = leb-true q.reach head t in omega arith)) (λ _. ap (λ (rs : List Queued). q ∷ rs) rest.1),
    )

-- ---- one that waits

-- the first is reached, where its reach isn't above the head
pub first_reached : (head : ℕ) (all qs : List Queued) (q : Queued) → all ≡ q ∷ qs → q.reach ≤ head → is_first_reached head all ≡ true
first_reached head all qs q is below = ap (λ (rs : List Queued). is_first_reached head rs) is ∙ le-leb q.reach head below

pub next_kept : (left : List Queued) (head : ℕ) (all qs : List Queued) (q : Queued) → all ≡ q ∷ qs → head < q.reach → (left ++ q ∷ []) ++ waiting head qs ≡ left ++ waiting head all
next_kept left head all qs q is above =
    let one : waiting head (q ∷ qs) ≡ q ∷ waiting head qs =
    cond_both (nat_le q.reach head) _ _ (λ (rs : List Queued). rs ≡ q ∷ waiting head qs) (λ t. absurd (let h = leb-true q.reach head t in omega arith)) (λ _. refl) in
    append_assoc left (q ∷ []) (waiting head qs)
    ∙ ap (λ (rs : List Queued). left ++ rs) (sym one)
    ∙ ap (λ (rs : List Queued). left ++ waiting head rs) (sym is)

pub next_unsent : (j : List ℕ) (head : ℕ) (all qs : List Queued) (q : Queued) → all ≡ q ∷ qs → head < q.reach → reached j head qs ≡ reached j head all
next_unsent j head all qs q is above =
    let one : reached j head (q ∷ qs) ≡ reached j head qs =
    cond_both (nat_le q.reach head) _ _ (λ (ss : List Send). ss ≡ reached j head qs) (λ t. absurd (let h = leb-true q.reach head t in omega arith)) (λ _. refl) in
    sym one ∙ ap (λ (rs : List Queued). reached j head rs) (sym is)

-- ---- all that wait

-- one more at the end, where those before it ascend and none of them has a greater reach
pub pushed_ascends : (was stays : Bool) (qs new : List Queued) (q : Queued) → (was ≡ true → is_ascending_from 0 qs ≡ true) → (stays ≡ true → was ≡ true)
    → (stays ≡ true → (d : Queued) → 0 < length qs → (get_or qs (length qs - 1) d).reach ≤ q.reach) → new ≡ qs ++ q ∷ [] → stays ≡ true → is_ascending_from 0 new ≡ true
pushed_ascends was stays qs new q all before behind is t =
    ap (λ (rs : List Queued). is_ascending_from 0 rs) is ∙ ascends_behind 0 qs q (all (before t)) (omega arith) (behind t)

wait_from : (head : ℕ) (qs : List Queued) → is_first_reached head qs ≡ false → is_ascending_from 0 qs ≡ true → AllWait head qs
wait_from head [] first ascends = (λ j. refl, refl)
wait_from head (q ∷ qs) first ascends =
    let parts = and_parts (nat_le 0 q.reach) (is_ascending_from q.reach qs) ascends in
    let above : head < q.reach = leb-false q.reach head first in
    let rest = none_reached q.reach head qs above parts.1 in
    (λ j. rw first (rest.0 j), rw first (ap (λ (rs : List Queued). q ∷ rs) rest.1))

-- where the first isn't reached, all wait
pub all_wait : (j : List ℕ) (head : ℕ) (qs : List Queued) → is_first_reached head qs ≡ false → is_ascending_from 0 qs ≡ true → (reached j head qs ≡ []) × (waiting head qs ≡ qs)
all_wait j head qs first ascends = let all = wait_from head qs first ascends in (all.0 j, all.1)

-- so those that were sent are all that are reached
pub all_sent : (new old : List Send) (j : List ℕ) (head : ℕ) (qs all : List Queued) → new ++ reached j head qs ≡ old ++ reached j head all
    → is_first_reached head qs ≡ false → is_ascending_from 0 qs ≡ true → new ≡ old ++ reached j head all
all_sent new old j head qs all is first ascends =
    let none : reached j head qs ≡ [] = (all_wait j head qs first ascends).0 in
    sym (append-nil new) ∙ ap (λ (ss : List Send). new ++ ss) (sym none) ∙ is

pub next_closed : (done : List Send) (j : List ℕ) (promised : ℕ) (all qs : List Queued) (q : Queued) → all ≡ q ∷ qs
    → (done ++ send q.to (append_done j (closed promised q.answer)) ∷ []) ++ closings_of j promised qs ≡ done ++ closings_of j promised all
next_closed done j promised all qs q is =
    append_assoc done (send q.to (append_done j (closed promised q.answer)) ∷ []) (closings_of j promised qs)
    ∙ ap (λ (rs : List Queued). done ++ closings_of j promised rs) (sym is)
