-- A message to each of several nodes, node by node.
use Rattle.std.proofs.Common.{◌≡◌, ℕ, zero, suc, ◌+◌, ◌<◌, List, [], ◌∷◌, ◌++◌, length, take, get_or, ap, sym, ◌∙◌, arith, append_assoc}
use Rattle.gz_wire.specs.declared.msg.Msg.{Msg}
use Rattle.gz_wire.specs.declared.msg.Send.{Send}
use Rattle.gz_replica.specs.Member.{send, to_each}

one_behind : (n : ℕ) → suc n ≡ n + 1
one_behind n = omega arith

each_next : (msg : Msg) (ms : List (List ℕ)) (i : ℕ) (m : List ℕ) → i < length ms → m ≡ get_or ms i m → to_each msg (take (suc i) ms) ≡ to_each msg (take i ms) ++ send m msg ∷ []
each_next msg [] i m within is = absurd (omega arith)
each_next msg (x ∷ ms) zero m within is = ap (λ (y : List ℕ). send y msg ∷ []) (sym is)
each_next msg (x ∷ ms) (suc i) m within is = ap (λ (sends : List Send). send x msg ∷ sends) (each_next msg ms i m (omega arith) is)

-- a message to one more
pub each_step : (msg : Msg) (ms : List (List ℕ)) (i : ℕ) (m : List ℕ) → i < length ms → m ≡ get_or ms i m → to_each msg (take (i + 1) ms) ≡ to_each msg (take i ms) ++ send m msg ∷ []
each_step msg ms i m within is = ap (λ (n : ℕ). to_each msg (take n ms)) (sym (one_behind i)) ∙ each_next msg ms i m within is

-- the same behind what is there already
pub each_behind : (old : List Send) (msg : Msg) (ms : List (List ℕ)) (i : ℕ) (m : List ℕ) → i < length ms → m ≡ get_or ms i m → (old ++ to_each msg (take i ms)) ++ send m msg ∷ [] ≡ old ++ to_each msg (take (i + 1) ms)
each_behind old msg ms i m within is =
    append_assoc old (to_each msg (take i ms)) (send m msg ∷ []) ∙ ap (λ (sends : List Send). old ++ sends) (sym (each_step msg ms i m within is))
