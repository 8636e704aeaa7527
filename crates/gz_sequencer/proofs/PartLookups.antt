-- What is kept of one producer, after a message of this one or of another one.
use Rattle.std.proofs.Common.{◌≡◌, ℕ, List, [], ◌∷◌, filter, refl, ap, sym, ◌∙◌, Bool, true, false, cond, Option, Some, None, unwrap_or, nat_lt}
use Rattle.std.specs.Ordering.{nat_cmp, is_eq, match_ordering}
use Rattle.std.specs.declared.cmp.Ordering.{Ordering}
use Rattle.std.specs.declared.cmp.Ordering.TheVariants.{Less, Equal, Greater}
use Rattle.std.specs.Cmp.Lexicographic.{slice_cmp}
use Rattle.std.specs.Map.{lookup, set_value}
use Rattle.std.specs.BTreeMap.{insert_entry, is_at}
use Rattle.std.specs.Str.{bytes_eq}
use Rattle.std.proofs.lemmas.Map.Text.{is_eq-slice_cmp}
use Rattle.std.proofs.lemmas.Slice.Eq.{bytes_eq-Decides}
use Rattle.gz_frame.specs.Text.{Placed}
use Rattle.gz_sequencer.specs.Parts.{Part, Parts, nothing, part_of, part_after, part_again, parts_after, parts_after_all}

abbrev by_bytes : List ℕ → List ℕ → Ordering
by_bytes x y = slice_cmp nat_cmp x y

pub same_bytes : (x y : List ℕ) → bytes_eq x y ≡ true → x ≡ y
same_bytes x y h = (bytes_eq-Decides x y).0 h

-- the test of bytes may be turned round
turned : (b c : Bool) → (b ≡ true → c ≡ true) → (c ≡ true → b ≡ true) → b ≡ c
turned true true there back = refl
turned true false there back = sym (there refl)
turned false true there back = back refl
turned false false there back = refl

pub bytes_turned : (x y : List ℕ) → bytes_eq x y ≡ bytes_eq y x
bytes_turned x y = turned (bytes_eq x y) (bytes_eq y x)
    (λ h. (bytes_eq-Decides y x).1 (sym (same_bytes x y h)))
    (λ h. (bytes_eq-Decides x y).1 (sym (same_bytes y x h)))

pub at_is : (q k : List ℕ) → is_at (by_bytes q) k ≡ bytes_eq k q
at_is q k = is_eq-slice_cmp q k ∙ bytes_turned q k

put_equal : {X : Type 0} (b : Bool) (v w rest : X) → cond b v rest ≡ cond b v (cond b w rest)
put_equal true v w rest = refl
put_equal false v w rest = refl

put_greater : {X : Type 0} (t b : Bool) (v w rest : X) → (t ≡ true → b ≡ true → ⊥) → cond t w (cond b v rest) ≡ cond b v (cond t w rest)
put_greater true true v w rest apart = absurd (apart refl refl)
put_greater true false v w rest apart = refl
put_greater false b v w rest apart = refl

-- bytes that compare as equal are equal
same_at : (x y : List ℕ) → Equal ≡ by_bytes x y → x ≡ y
same_at x y h = same_bytes x y (sym (is_eq-slice_cmp x y) ∙ ap (λ (o : Ordering). is_eq o) (sym h))

-- bytes that compare as greater are not equal
apart_at : (x y q : List ℕ) → Greater ≡ by_bytes x y → bytes_eq y q ≡ true → bytes_eq x q ≡ true → ⊥
apart_at x y q h yq xq =
    let same : x ≡ y = same_bytes x q xq ∙ sym (same_bytes y q yq) in
    let equal : is_eq (by_bytes x y) ≡ true = is_eq-slice_cmp x y ∙ (bytes_eq-Decides x y).1 same in
    let greater : is_eq Greater ≡ true = ap (λ (o : Ordering). is_eq o) h ∙ equal in
    cc

-- a look-up after an entry was put
pub lookup_put : (q k : List ℕ) (v : Part) (es : Parts) → lookup (is_at (by_bytes q)) (insert_entry by_bytes es k v) ≡ cond (bytes_eq k q) (Some v) (lookup (is_at (by_bytes q)) es)
lookup_put q k v [] = rw (at_is q k) refl
lookup_put q k v (e ∷ es) = by_order (by_bytes k e.0) refl (lookup_put q k v es)
  where
    by_order : (o : Ordering) → o ≡ by_bytes k e.0
        → lookup (is_at (by_bytes q)) (insert_entry by_bytes es k v) ≡ cond (bytes_eq k q) (Some v) (lookup (is_at (by_bytes q)) es)
        → lookup (is_at (by_bytes q)) (match_ordering o ((k, v) ∷ e ∷ es) ((e.0, v) ∷ es) (e ∷ insert_entry by_bytes es k v)) ≡ cond (bytes_eq k q) (Some v) (lookup (is_at (by_bytes q)) (e ∷ es))
    by_order Less h ih = rw (at_is q k) refl
    by_order Equal h ih =
        let same : k ≡ e.0 = same_at k e.0 h in
        let test : is_at (by_bytes q) e.0 ≡ bytes_eq k q = at_is q e.0 ∙ ap (λ (x : List ℕ). bytes_eq x q) (sym same) in
        rw test (put_equal (bytes_eq k q) (Some v) (Some e.1) (lookup (is_at (by_bytes q)) es))
    by_order Greater h ih =
        rw (at_is q e.0, ih) (put_greater (bytes_eq e.0 q) (bytes_eq k q) (Some v) (Some e.1) (lookup (is_at (by_bytes q)) es) (apart_at k e.0 q h))

-- a value that is written in the place of one that is there
abbrev again : Part → Option Part → Option Part
again w None = None
again w (Some v) = Some w

both_none : (b : Bool) (w : Part) → None ≡ cond b (again w None) None
both_none true w = refl
both_none false w = refl

set_found : (b : Bool) (w v : Part) (rest : Option Part) → cond b (Some w) rest ≡ cond b (again w (cond b (Some v) rest)) (cond b (Some v) rest)
set_found true w v rest = refl
set_found false w v rest = refl

set_further : (t b : Bool) (w v : Part) (rest : Option Part) → (t ≡ true → b ≡ true → ⊥) → cond t (Some v) (cond b (again w rest) rest) ≡ cond b (again w (cond t (Some v) rest)) (cond t (Some v) rest)
set_further true true w v rest apart = absurd (apart refl refl)
set_further true false w v rest apart = refl
set_further false b w v rest apart = refl

apart_test : (x y q : List ℕ) → bytes_eq x y ≡ false → bytes_eq x q ≡ true → bytes_eq y q ≡ true → ⊥
apart_test x y q apart xq yq =
    let equal : bytes_eq x y ≡ true = (bytes_eq-Decides x y).1 (same_bytes x q xq ∙ sym (same_bytes y q yq)) in
    cc

-- a look-up after the entry of a producer was written, where there is one
pub lookup_set : (q k : List ℕ) (w : Part) (es : Parts) → lookup (is_at (by_bytes q)) (set_value (is_at (by_bytes k)) es w) ≡ cond (bytes_eq k q) (again w (lookup (is_at (by_bytes q)) es)) (lookup (is_at (by_bytes q)) es)
lookup_set q k w [] = both_none (bytes_eq k q) w
lookup_set q k w (e ∷ es) = by_test (bytes_eq e.0 k) refl (lookup_set q k w es)
  where
    by_test : (b : Bool) → b ≡ bytes_eq e.0 k
        → lookup (is_at (by_bytes q)) (set_value (is_at (by_bytes k)) es w) ≡ cond (bytes_eq k q) (again w (lookup (is_at (by_bytes q)) es)) (lookup (is_at (by_bytes q)) es)
        → lookup (is_at (by_bytes q)) (set_value (is_at (by_bytes k)) (e ∷ es) w) ≡ cond (bytes_eq k q) (again w (lookup (is_at (by_bytes q)) (e ∷ es))) (lookup (is_at (by_bytes q)) (e ∷ es))
    by_test true h ih =
        let same : e.0 ≡ k = same_bytes e.0 k (sym h) in
        let test : is_at (by_bytes k) e.0 ≡ true = at_is k e.0 ∙ sym h in
        let other : is_at (by_bytes q) e.0 ≡ bytes_eq k q = at_is q e.0 ∙ ap (λ (x : List ℕ). bytes_eq x q) same in
        rw test (rw other (set_found (bytes_eq k q) w e.1 (lookup (is_at (by_bytes q)) es)))
    by_test false h ih =
        let test : is_at (by_bytes k) e.0 ≡ false = at_is k e.0 ∙ sym h in
        rw test (rw (at_is q e.0, ih) (set_further (bytes_eq e.0 q) (bytes_eq k q) w e.1 (lookup (is_at (by_bytes q)) es) (λ eq kq. apart_test e.0 k q (sym h) eq kq)))

-- what a message changes of a producer
abbrev pub part_step : ℕ → Part → Placed → Part
part_step until part p = cond (nat_lt p.begin until) (part_again part p) (part_after part p)

-- nothing is read again of a producer of which nothing is kept
found_again : (o : Option Part) (p : Placed) → unwrap_or (again (part_again (unwrap_or o nothing) p) o) nothing ≡ part_again (unwrap_or o nothing) p
found_again None p = refl
found_again (Some v) p = refl

some_case : (b : Bool) (v : Part) (o : Option Part) → unwrap_or (cond b (Some v) o) nothing ≡ cond b v (unwrap_or o nothing)
some_case true v o = refl
some_case false v o = refl

again_case : (b : Bool) (w v : Part) (o : Option Part) → (b ≡ true → unwrap_or (again w o) nothing ≡ v) → unwrap_or (cond b (again w o) o) nothing ≡ cond b v (unwrap_or o nothing)
again_case true w v o h = h refl
again_case false w v o h = refl

at_producer : (b : Bool) (v w o : Part) → (b ≡ true → v ≡ w) → cond b v o ≡ cond b w o
at_producer true v w o h = h refl
at_producer false v w o h = refl

-- a message changes what is kept of its producer, and of no other one
pub part_of_after : (q : List ℕ) (until : ℕ) (parts : Parts) (p : Placed) → part_of q (parts_after until parts p) ≡ cond (bytes_eq p.message.producer q) (part_step until (part_of q parts) p) (part_of q parts)
part_of_after q until parts p = by_phase (nat_lt p.begin until)
  where
    by_phase : (b : Bool) → part_of q (cond b (set_value (is_at (by_bytes p.message.producer)) parts (part_again (part_of p.message.producer parts) p)) (insert_entry by_bytes parts p.message.producer (part_after (part_of p.message.producer parts) p)))
        ≡ cond (bytes_eq p.message.producer q) (cond b (part_again (part_of q parts) p) (part_after (part_of q parts) p)) (part_of q parts)
    by_phase true =
        rw (lookup_set q p.message.producer (part_again (part_of p.message.producer parts) p) parts)
        (again_case (bytes_eq p.message.producer q) (part_again (part_of p.message.producer parts) p) (part_again (part_of q parts) p) (lookup (is_at (by_bytes q)) parts)
        (λ (h : bytes_eq p.message.producer q ≡ true).
        let same : p.message.producer ≡ q = same_bytes p.message.producer q h in
        ap (λ (x : List ℕ). unwrap_or (again (part_again (part_of x parts) p) (lookup (is_at (by_bytes q)) parts)) nothing) same
        ∙ found_again (lookup (is_at (by_bytes q)) parts) p))
    by_phase false =
        rw (lookup_put q p.message.producer (part_after (part_of p.message.producer parts) p) parts)
        (some_case (bytes_eq p.message.producer q) (part_after (part_of p.message.producer parts) p) (lookup (is_at (by_bytes q)) parts)
        ∙ at_producer (bytes_eq p.message.producer q) (part_after (part_of p.message.producer parts) p) (part_after (part_of q parts) p) (part_of q parts) (λ (h : bytes_eq p.message.producer q ≡ true). ap (λ (x : List ℕ). part_after (part_of x parts) p) (same_bytes p.message.producer q h)))

-- the messages of a producer
abbrev pub placed_of : List ℕ → List Placed → List Placed
placed_of q ps = filter (λ p. bytes_eq p.message.producer q) ps

abbrev pub part_after_all : ℕ → Part → List Placed → Part
part_after_all until part [] = part
part_after_all until part (p ∷ ps) = part_after_all until (part_step until part p) ps

run_case : (b : Bool) (until : ℕ) (part : Part) (p : Placed) (ps : List Placed) → part_after_all until (cond b (part_step until part p) part) ps ≡ part_after_all until part (cond b (p ∷ ps) ps)
run_case true until part p ps = refl
run_case false until part p ps = refl

-- what is kept of a producer after messages comes from its own ones
pub part_of_after_all : (ps : List Placed) (q : List ℕ) (until : ℕ) (parts : Parts) → part_of q (parts_after_all until parts ps) ≡ part_after_all until (part_of q parts) (placed_of q ps)
part_of_after_all [] q until parts = refl
part_of_after_all (p ∷ ps) q until parts =
    part_of_after_all ps q until (parts_after until parts p)
    ∙ ap (λ (part : Part). part_after_all until part (placed_of q ps)) (part_of_after q until parts p)
    ∙ run_case (bytes_eq p.message.producer q) until (part_of q parts) p (placed_of q ps)

equal_is : (o : Ordering) → is_eq o ≡ true → o ≡ Equal
equal_is Less h = cc
equal_is Equal h = refl
equal_is Greater h = cc

-- bytes compare as equal to themselves
pub itself : (k : List ℕ) → by_bytes k k ≡ Equal
itself k = equal_is (by_bytes k k) (is_eq-slice_cmp k k ∙ (bytes_eq-Decides k k).1 refl)

-- an entry that is put twice is the second one
pub insert_twice : (es : Parts) (k : List ℕ) (v w : Part) → insert_entry by_bytes (insert_entry by_bytes es k v) k w ≡ insert_entry by_bytes es k w
insert_twice [] k v w = rw (itself k) refl
insert_twice (e ∷ es) k v w = by_order (by_bytes k e.0) refl (insert_twice es k v w)
  where
    by_order : (o : Ordering) → o ≡ by_bytes k e.0
        → insert_entry by_bytes (insert_entry by_bytes es k v) k w ≡ insert_entry by_bytes es k w
        → insert_entry by_bytes (match_ordering o ((k, v) ∷ e ∷ es) ((e.0, v) ∷ es) (e ∷ insert_entry by_bytes es k v)) k w ≡ match_ordering o ((k, w) ∷ e ∷ es) ((e.0, w) ∷ es) (e ∷ insert_entry by_bytes es k w)
    by_order Less h ih = rw (itself k) refl
    by_order Equal h ih = rw (← h) refl
    by_order Greater h ih = rw (← h) (ap (λ (fs : Parts). e ∷ fs) ih)

-- nothing is written where there is no entry
pub set_none : (test : List ℕ → Bool) (es : Parts) (w : Part) → lookup test es ≡ None → set_value test es w ≡ es
set_none test [] w none = refl
set_none test (e ∷ es) w none = by_test (test e.0) none (set_none test es w)
  where
    by_test : (b : Bool) → cond b (Some e.1) (lookup test es) ≡ None → (lookup test es ≡ None → set_value test es w ≡ es) → cond b ((e.0, w) ∷ es) (e ∷ set_value test es w) ≡ e ∷ es
    by_test true h ih = cc
    by_test false h ih = ap (λ (fs : Parts). e ∷ fs) (ih h)

-- what is kept of a producer was put twice: first nothing, and then what follows on what was kept
pub put_after : (es once twice : Parts) (k : List ℕ) (old : Option Part) (v d u w : Part) (p : Placed)
    → k ≡ p.message.producer → once ≡ insert_entry by_bytes es k v → old ≡ lookup (is_at (by_bytes k)) es → d ≡ nothing → u ≡ unwrap_or old d → w ≡ part_after u p → twice ≡ insert_entry by_bytes once k w
    → (seen : Parts) → es ≡ seen → twice ≡ insert_entry by_bytes seen p.message.producer (part_after (part_of p.message.producer seen) p)
put_after es once twice k old v d u w p key first found none kept after second seen same =
    let what : u ≡ part_of p.message.producer es = kept ∙ rw (found, none) (ap (λ (x : List ℕ). part_of x es) key) in
    second ∙ ap (λ (fs : Parts). insert_entry by_bytes fs k w) first ∙ insert_twice es k v w
    ∙ ap (λ (x : List ℕ). insert_entry by_bytes es x w) key
    ∙ ap (λ (x : Part). insert_entry by_bytes es p.message.producer x) (after ∙ ap (λ (x : Part). part_after x p) what)
    ∙ ap (λ (fs : Parts). insert_entry by_bytes fs p.message.producer (part_after (part_of p.message.producer fs) p)) same

pub found_at : (es : Parts) (k : List ℕ) (old : Option Part) (d u : Part) (p : Placed)
    → k ≡ p.message.producer → old ≡ lookup (is_at (by_bytes k)) es → d ≡ nothing → u ≡ unwrap_or old d
    → (seen : Parts) → es ≡ seen → u ≡ part_of p.message.producer seen
found_at es k old d u p key found none kept seen same = kept ∙ rw (found, none) (ap (λ (x : List ℕ). part_of x es) key ∙ ap (λ (fs : Parts). part_of p.message.producer fs) same)

-- what is kept of a producer was written in its place
pub set_after : (es after : Parts) (k : List ℕ) (v w : Part) (p : Placed)
    → k ≡ p.message.producer → Some v ≡ lookup (is_at (by_bytes k)) es → w ≡ part_again v p → after ≡ set_value (is_at (by_bytes k)) es w
    → (seen : Parts) → es ≡ seen → after ≡ set_value (is_at (by_bytes p.message.producer)) seen (part_again (part_of p.message.producer seen) p)
set_after es after k v w p key found again set seen same =
    let what : v ≡ part_of p.message.producer es = ap (λ (o : Option Part). unwrap_or o nothing) found ∙ ap (λ (x : List ℕ). part_of x es) key in
    set
    ∙ ap (λ (x : List ℕ). set_value (is_at (by_bytes x)) es w) key
    ∙ ap (λ (x : Part). set_value (is_at (by_bytes p.message.producer)) es x) (again ∙ ap (λ (x : Part). part_again x p) what)
    ∙ ap (λ (fs : Parts). set_value (is_at (by_bytes p.message.producer)) fs (part_again (part_of p.message.producer fs) p)) same

-- nothing is kept of the producer, and nothing was written
pub set_nothing : (es after : Parts) (k : List ℕ) (p : Placed)
    → k ≡ p.message.producer → None ≡ lookup (is_at (by_bytes k)) es → after ≡ es
    → (seen : Parts) → es ≡ seen → after ≡ set_value (is_at (by_bytes p.message.producer)) seen (part_again (part_of p.message.producer seen) p)
set_nothing es after k p key found kept seen same =
    let none : lookup (is_at (by_bytes p.message.producer)) es ≡ None = ap (λ (x : List ℕ). lookup (is_at (by_bytes x)) es) (sym key) ∙ sym found in
    kept
    ∙ sym (set_none (is_at (by_bytes p.message.producer)) es (part_again (part_of p.message.producer es) p) none)
    ∙ ap (λ (fs : Parts). set_value (is_at (by_bytes p.message.producer)) fs (part_again (part_of p.message.producer fs) p)) same
