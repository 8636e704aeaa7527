-- What is kept of all producers, in their order: its keys, and when two such lists are one.
use Rattle.std.proofs.Common.{◌≡◌, ℕ, List, [], ◌∷◌, refl, ap, sym, ◌∙◌, subst, Bool, true, false, None}
use Rattle.std.specs.Ordering.{nat_cmp, match_ordering, ordering_reverse}
use Rattle.std.specs.declared.cmp.Ordering.{Ordering}
use Rattle.std.specs.declared.cmp.Ordering.TheVariants.{Less, Equal, Greater}
use Rattle.std.specs.Cmp.Lexicographic.{slice_cmp}
use Rattle.std.specs.List.{AllByRecursion}
use Rattle.std.specs.List.Sorted.{IsStrictlySortedBy}
use Rattle.std.specs.Map.{keys_of, lookup, set_value}
use Rattle.std.specs.BTreeMap.{insert_entry, is_at}
use Rattle.std.specs.Str.{bytes_eq}
use Rattle.std.proofs.lemmas.Cmp.{nat_list_cmp_total}
use Rattle.std.proofs.lemmas.Map.{keys-set_value}
use Rattle.std.proofs.lemmas.Slice.Eq.{bytes_eq-Decides}
use Rattle.gz_frame.specs.Text.{Placed}
use Rattle.gz_sequencer.specs.Parts.{Part, Parts, part_of, part_after, part_again, parts_after, parts_after_all}
use Rattle.gz_sequencer.proofs.PartLookups.{same_bytes, at_is}
use Rattle.gz_sequencer.proofs.PartHistories.{AllFrom}
use Rattle.gz_sequencer.proofs.Placement.{AllBelow}
use Rattle.gz_sequencer.proofs.Again.{is_below, not_below}

abbrev by_bytes : List ℕ → List ℕ → Ordering
by_bytes x y = slice_cmp nat_cmp x y

abbrev AllAbove : List ℕ → List (List ℕ) → Type 0
AllAbove k ks = AllByRecursion (λ x. by_bytes k x ≡ Less) ks

abbrev pub InOrder : Parts → Type 0
InOrder parts = IsStrictlySortedBy by_bytes (keys_of parts)

above_lower : (ks : List (List ℕ)) (j k : List ℕ) → by_bytes j k ≡ Less → AllAbove k ks → AllAbove j ks
above_lower [] j k below all = tt
above_lower (x ∷ ks) j k below all = (nat_list_cmp_total.trans j k x below all.0, above_lower ks j k below all.1)

above_put : (o : Ordering) (j k : List ℕ) (v : Part) (e : List ℕ × Part) (es fs : Parts) → by_bytes j k ≡ Less → AllAbove j (keys_of (e ∷ es)) → AllAbove j (keys_of fs)
    → AllAbove j (keys_of (match_ordering o ((k, v) ∷ e ∷ es) ((e.0, v) ∷ es) (e ∷ fs)))
above_put Less j k v e es fs below all more = (below, all)
above_put Equal j k v e es fs below all more = all
above_put Greater j k v e es fs below all more = (all.0, more)

above_insert : (es : Parts) (j k : List ℕ) (v : Part) → by_bytes j k ≡ Less → AllAbove j (keys_of es) → AllAbove j (keys_of (insert_entry by_bytes es k v))
above_insert [] j k v below all = (below, tt)
above_insert (e ∷ es) j k v below all = above_put (by_bytes k e.0) j k v e es (insert_entry by_bytes es k v) below all (above_insert es j k v below all.1)

order_put : (o : Ordering) (k : List ℕ) (v : Part) (e : List ℕ × Part) (es fs : Parts) → o ≡ by_bytes k e.0 → InOrder (e ∷ es) → InOrder fs → (by_bytes e.0 k ≡ Less → AllAbove e.0 (keys_of fs))
    → InOrder (match_ordering o ((k, v) ∷ e ∷ es) ((e.0, v) ∷ es) (e ∷ fs))
unfolding IsStrictlySortedBy
order_put Less k v e es fs h order more above = ((sym h, above_lower (keys_of es) k e.0 (sym h) order.0), order)
order_put Equal k v e es fs h order more above = order
order_put Greater k v e es fs h order more above =
    (above (nat_list_cmp_total.antisymm e.0 k ∙ ap (λ (o : Ordering). ordering_reverse o) (sym h)), more)

order_tail : (e : List ℕ × Part) (es : Parts) → InOrder (e ∷ es) → AllAbove e.0 (keys_of es) × InOrder es
unfolding IsStrictlySortedBy
order_tail e es order = order

order_none : InOrder []
unfolding IsStrictlySortedBy
order_none = tt

order_one : (k : List ℕ) (v : Part) → InOrder ((k, v) ∷ [])
unfolding IsStrictlySortedBy
order_one k v = (tt, tt)

order_insert : (es : Parts) (k : List ℕ) (v : Part) → InOrder es → InOrder (insert_entry by_bytes es k v)
order_insert [] k v order = order_one k v
order_insert (e ∷ es) k v order =
    let t : AllAbove e.0 (keys_of es) × InOrder es = order_tail e es order in
    order_put (by_bytes k e.0) k v e es (insert_entry by_bytes es k v) refl order (order_insert es k v t.1) (λ below. above_insert es e.0 k v below t.0)

-- messages that are read for the first time keep the order
pub order_run : (ps : List Placed) (until : ℕ) (parts : Parts) → AllFrom until ps → InOrder parts → InOrder (parts_after_all until parts ps)
order_run [] until parts from order = order
order_run (p ∷ ps) until parts from order =
    let same : insert_entry by_bytes parts p.message.producer (part_after (part_of p.message.producer parts) p) ≡ parts_after until parts p = rw (not_below p.begin until from.0) refl in
    order_run ps until (parts_after until parts p) from.1 (subst (λ (x : Parts). InOrder x) same (order_insert parts p.message.producer (part_after (part_of p.message.producer parts) p) order))

pub order_start : InOrder []
order_start = order_none

-- messages that are read again keep the keys
pub keys_again : (ps : List Placed) (until : ℕ) (parts : Parts) → AllBelow until ps → keys_of (parts_after_all until parts ps) ≡ keys_of parts
keys_again [] until parts below = refl
keys_again (p ∷ ps) until parts below =
    let w : Part = part_again (part_of p.message.producer parts) p in
    let same : parts_after until parts p ≡ set_value (is_at (by_bytes p.message.producer)) parts w = rw (is_below p.begin until below.0) refl in
    keys_again ps until (parts_after until parts p) below.1
    ∙ ap (λ (x : Parts). keys_of x) same ∙ keys-set_value (is_at (by_bytes p.message.producer)) parts w

none_above : (es : Parts) (k : List ℕ) → AllAbove k (keys_of es) → lookup (is_at (by_bytes k)) es ≡ None
none_above [] k all = refl
none_above (e ∷ es) k all = rw (all.0) (none_above es k all.1)

self_at : (k : List ℕ) → is_at (by_bytes k) k ≡ true
self_at k = at_is k k ∙ (bytes_eq-Decides k k).1 refl

tail_at : (b : Bool) (q : List ℕ) (e f : List ℕ × Part) (es fs : Parts) → b ≡ bytes_eq e.0 q → e.0 ≡ f.0 → AllAbove e.0 (keys_of es) → AllAbove e.0 (keys_of fs)
    → part_of q (e ∷ es) ≡ part_of q (f ∷ fs) → part_of q es ≡ part_of q fs
tail_at true q e f es fs h key a b same =
    let k : e.0 ≡ q = same_bytes e.0 q (sym h) in
    let x : lookup (is_at (by_bytes q)) es ≡ None = ap (λ (z : List ℕ). lookup (is_at (by_bytes z)) es) (sym k) ∙ none_above es e.0 a in
    let y : lookup (is_at (by_bytes q)) fs ≡ None = ap (λ (z : List ℕ). lookup (is_at (by_bytes z)) fs) (sym k) ∙ none_above fs e.0 b in
    rw (x, y) refl
tail_at false q e f es fs h key a b same =
    let x : is_at (by_bytes q) e.0 ≡ false = at_is q e.0 ∙ sym h in
    let y : is_at (by_bytes q) f.0 ≡ false = ap (λ (z : List ℕ). is_at (by_bytes q) z) (sym key) ∙ x in
    let prefix : part_of q (e ∷ es) ≡ part_of q es = rw x refl in
    let back : part_of q (f ∷ fs) ≡ part_of q fs = rw y refl in
    sym prefix ∙ same ∙ back

-- two lists with the same keys, in order, of which each producer has the same, are one
pub same_parts : (es fs : Parts) → InOrder es → keys_of es ≡ keys_of fs → ((q : List ℕ) → part_of q es ≡ part_of q fs) → es ≡ fs
same_parts [] [] order keys same = refl
same_parts [] (f ∷ fs) order keys same = cc
same_parts (e ∷ es) [] order keys same = cc
same_parts (e ∷ es) (f ∷ fs) order keys same =
    let key : e.0 ≡ f.0 = cc in
    let rest : keys_of es ≡ keys_of fs = cc in
    let t : AllAbove e.0 (keys_of es) × InOrder es = order_tail e es order in
    let above : AllAbove e.0 (keys_of fs) = subst (λ (ks : List (List ℕ)). AllAbove e.0 ks) rest t.0 in
    let first : part_of e.0 (e ∷ es) ≡ e.1 = rw (self_at e.0) refl in
    let at_f : is_at (by_bytes e.0) f.0 ≡ true = ap (λ (z : List ℕ). is_at (by_bytes e.0) z) (sym key) ∙ self_at e.0 in
    let second : part_of e.0 (f ∷ fs) ≡ f.1 = rw at_f refl in
    let value : e.1 ≡ f.1 = sym first ∙ same e.0 ∙ second in
    let more : es ≡ fs = same_parts es fs t.1 rest (λ q. tail_at (bytes_eq e.0 q) q e f es fs refl key t.0 above (same q)) in
    ap (λ (k : List ℕ). (k, e.1) ∷ es) key ∙ ap (λ (v : Part). (f.0, v) ∷ es) value ∙ ap (λ (r : Parts). (f.0, f.1) ∷ r) more
