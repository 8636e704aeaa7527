-- The store is the fold over the whole read order; and what `count` has of a key.
use Rattle.std.proofs.Common.{◌≡◌, ℕ, ◌+◌, ◌-◌, ◌^◌, ◌≤◌, min, List, [], ◌∷◌, ◌++◌, filter, length, refl, ap, sym, ◌∙◌, append_assoc, append-nil, Bool, true, false, cond, Option, Some, None, arith}
use Rattle.std.proofs.lemmas.Grind.{common_steps}
use Rattle.std.specs.Ordering.{nat_cmp, is_eq, match_ordering}
use Rattle.std.specs.declared.cmp.Ordering.{Ordering}
use Rattle.std.specs.declared.cmp.Ordering.TheVariants.{Less, Equal, Greater}
use Rattle.std.specs.Cmp.Lexicographic.{slice_cmp}
use Rattle.std.specs.Map.{lookup}
use Rattle.std.specs.BTreeMap.{insert_entry, is_at}
use Rattle.std.specs.Str.{bytes_eq}
use Rattle.std.proofs.lemmas.Map.Text.{is_eq-slice_cmp}
use Rattle.std.proofs.lemmas.Slice.Eq.{bytes_eq-Decides}
use Rattle.gz_frame.specs.Messages.{Message}
use Rattle.gz_app.specs.Applications.{raised}
use Rattle.gz_app.specs.States.{State, keep, kept_at, number_at, number_in}
use Rattle.gz_app.specs.declared.app.AppKind.{AppKind}
use Rattle.gz_app.specs.declared.app.AppKind.TheVariants.{Count}
use Rattle.gz_app.specs.declared.state.Kept.{Kept}
use Rattle.gz_app.specs.declared.state.Kept.TheVariants.{Number}
use Rattle.gz_sequencer.proofs.PartLookups.{at_is, same_bytes}
use Rattle.gz_promise.specs.Accounts.{Account, Commit, Stream, last_state}
use Rattle.gz_promise.specs.Applications.{folded}
use Rattle.gz_promise.specs.Clients.{count_of}
use Rattle.gz_promise.specs.Promise.{AreFolds, ExactlyOnce, Interleaves, Taken, joined, messages_in, read_order}

-- ---- the store

last_fold : (app : AppKind) (state : State) (read : List Taken) (ss : List Stream) (froms : List ℕ) (commits : List Commit) (order : List (List Taken))
    → Interleaves ss froms commits order → state ≡ folded app [] (messages_in read) → AreFolds app read commits order
    → last_state state commits ≡ folded app [] (messages_in (read ++ joined order))
last_fold app state read ss froms [] [] weaves is are = is ∙ ap (λ (ts : List Taken). folded app [] (messages_in ts)) (sym (append-nil read))
last_fold app state read ss froms [] (ts ∷ order) weaves is are = absurd weaves
last_fold app state read ss froms (c ∷ commits) [] weaves is are = absurd weaves
last_fold app state read ss froms (c ∷ commits) (ts ∷ order) weaves is are =
    last_fold app c.state (read ++ ts) ss c.offsets commits order weaves.2 are.0 are.1
    ∙ ap (λ (xs : List Taken). folded app [] (messages_in xs)) (append_assoc read ts (joined order))

-- the store is the application's fold over the read order
pub store_folds : (a : Account) (once : ExactlyOnce a) → a.store ≡ folded a.app [] (messages_in (read_order a once))
store_folds a once = once.store ∙ last_fold a.app [] [] a.sources _ a.commits once.order once.interleaves refl once.states

-- ---- what is kept of a key

abbrev by_bytes : List ℕ → List ℕ → Ordering
by_bytes x y = slice_cmp nat_cmp x y

put_equal : {X : Type 0} (b : Bool) (v w rest : X) → cond b v rest ≡ cond b v (cond b w rest)
put_equal true v w rest = refl
put_equal false v w rest = refl

put_greater : {X : Type 0} (t b : Bool) (v w rest : X) → (t ≡ true → b ≡ true → ⊥) → cond t w (cond b v rest) ≡ cond b v (cond t w rest)
put_greater true true v w rest apart = absurd (apart refl refl)
put_greater true false v w rest apart = refl
put_greater false b v w rest apart = refl

-- bytes that compare as equal are equal
same_at : (x y : List ℕ) → Equal ≡ by_bytes x y → x ≡ y
same_at x y h = same_bytes x y (sym (is_eq-slice_cmp x y) ∙ ap (λ (o : Ordering). is_eq o) (sym h))

-- bytes that compare as greater are not equal
apart_at : (x y q : List ℕ) → Greater ≡ by_bytes x y → bytes_eq y q ≡ true → bytes_eq x q ≡ true → ⊥
apart_at x y q h yq xq =
    let same : x ≡ y = same_bytes x q xq ∙ sym (same_bytes y q yq) in
    let equal : is_eq (by_bytes x y) ≡ true = is_eq-slice_cmp x y ∙ (bytes_eq-Decides x y).1 same in
    let greater : is_eq Greater ≡ true = ap (λ (o : Ordering). is_eq o) h ∙ equal in
    cc

kept_put : (q k : List ℕ) (v : Kept) (es : State) → kept_at q (keep k v es) ≡ cond (bytes_eq k q) (Some v) (kept_at q es)
kept_put q k v [] = rw (at_is q k) refl
kept_put q k v (e ∷ es) = by_order (by_bytes k e.0) refl (kept_put q k v es)
  where
    by_order : (o : Ordering) → o ≡ by_bytes k e.0
        → lookup (is_at (by_bytes q)) (insert_entry by_bytes es k v) ≡ cond (bytes_eq k q) (Some v) (lookup (is_at (by_bytes q)) es)
        → lookup (is_at (by_bytes q)) (match_ordering o ((k, v) ∷ e ∷ es) ((e.0, v) ∷ es) (e ∷ insert_entry by_bytes es k v)) ≡ cond (bytes_eq k q) (Some v) (lookup (is_at (by_bytes q)) (e ∷ es))
    by_order Less h ih = rw (at_is q k) refl
    by_order Equal h ih =
        let same : k ≡ e.0 = same_at k e.0 h in
        let test : is_at (by_bytes q) e.0 ≡ bytes_eq k q = at_is q e.0 ∙ ap (λ (x : List ℕ). bytes_eq x q) (sym same) in
        rw test (put_equal (bytes_eq k q) (Some v) (Some e.1) (lookup (is_at (by_bytes q)) es))
    by_order Greater h ih =
        rw (at_is q e.0, ih) (put_greater (bytes_eq e.0 q) (bytes_eq k q) (Some v) (Some e.1) (lookup (is_at (by_bytes q)) es) (apart_at k e.0 q h))

-- ---- counts

abbrev most : ℕ
most = 2 ^ 64 - 1

number_if : (here : Bool) (n : ℕ) (kept : Option Kept) → number_in (cond here (Some (Number n)) kept) ≡ cond here n (number_in kept)
number_if true n kept = refl
number_if false n kept = refl

count_if : (here : Bool) (m : Message) (ms : List Message) (n c : ℕ) → c ≡ length ms → n ≤ most
    → min (cond here (min (n + 1) most) n + c) most ≡ min (n + length (cond here (m ∷ ms) ms)) most
count_if true m ms n c is small = omega (arith, is, small)
count_if false m ms n c is small = ap (λ (k : ℕ). min (n + k) most) is

small_if : (here : Bool) (n : ℕ) → n ≤ most → cond here (min (n + 1) most) n ≤ most
small_if true n small = omega (arith, small)
small_if false n small = small

counted_from : (key : List ℕ) (ms : List Message) (state : State) → number_at key state ≤ most → number_at key (folded Count state ms) ≡ min (number_at key state + count_of key ms) most
counted_from key [] state small = omega (arith, small)
counted_from key (m ∷ ms) state small =
    let next : State = keep m.key (Number (raised (number_at m.key state))) state in
    let here : Bool = bytes_eq m.key key in
    let number : number_at key next ≡ cond here (raised (number_at key state)) (number_at key state) =
    ap (λ (o : Option Kept). number_in o) (kept_put key m.key (Number (raised (number_at m.key state))) state)
    ∙ number_if here (raised (number_at m.key state)) (kept_at key state)
    ∙ same_key here refl in
    counted_from key ms next (small_next next here number)
    ∙ ap (λ (n : ℕ). min (n + count_of key ms) most) number
    ∙ count_if here m (filter (λ o. bytes_eq o.key key) ms) (number_at key state) (count_of key ms) refl small
  where
    same_key : (b : Bool) → bytes_eq m.key key ≡ b → cond b (raised (number_at m.key state)) (number_at key state) ≡ cond b (raised (number_at key state)) (number_at key state)
    same_key true is = ap (λ (k : List ℕ). raised (number_at k state)) (same_bytes m.key key is)
    same_key false is = refl

    small_next : (next : State) (b : Bool) → number_at key next ≡ cond b (raised (number_at key state)) (number_at key state) → number_at key next ≤ most
    small_next next b is =
        let upto : cond b (raised (number_at key state)) (number_at key state) ≤ most = small_if b (number_at key state) small in
        omega (arith, is, upto)

-- the number of a key is how often it stands in the read order
pub counts : (a : Account) (once : ExactlyOnce a) (key : List ℕ) → a.app ≡ Count → number_at key a.store ≡ min (count_of key (messages_in (read_order a once))) (2 ^ 64 - 1)
counts a once key app =
    let store : a.store ≡ folded Count [] (messages_in (read_order a once)) = store_folds a once ∙ ap (λ (k : AppKind). folded k [] (messages_in (read_order a once))) app in
    ap (λ (s : State). number_at key s) store
    ∙ counted_from key (messages_in (read_order a once)) [] (omega arith)
    ∙ ap (λ (n : ℕ). min n most) (omega arith)
