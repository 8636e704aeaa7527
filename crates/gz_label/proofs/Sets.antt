-- Ascending lists of labels.
use Rattle.std.proofs.Common.{◌≡◌, ℕ, suc, ◌+◌, ◌<◌, ◌≤◌, ◌&&◌, List, [], ◌∷◌, ◌++◌, length, take, drop, filter, refl, ap, sym, ◌∙◌, cond, get_or, Bool, true, false, is_lt, nat_lt, nat_le, Some, None, option_to_list, Ok, arith, Ordering, Less, Equal, Greater}
use Rattle.std.proofs.lemmas.Grind.{common_steps}
use Rattle.std.specs.List.{list_all, insert}
use Rattle.std.specs.Ordering.{match_ordering}
use Rattle.std.specs.Cmp.{IsTotalOrder}
use Rattle.std.proofs.lemmas.Cmp.{then_total, on_total, nat_list_cmp_total}
use Rattle.gz_label.specs.declared.label.Label.{Label}
use Rattle.gz_label.specs.Labels.{is_label, is_label_name, is_label_value, label_cmp, comes_before, are_ascending, is_label_set, put_label, put_labels, with_label, label_of, label_in, labels_in}
use Rattle.gz_label.specs.Items.{max_labels, limited, has_byte, before_byte, after_byte, place_of}
use Rattle.gz_label.specs.Outcomes.{Fails}
use Rattle.gz_label.specs.declared.name.LabelError.{LabelError}
use Rattle.gz_label.proofs.Parts.{items_left, cut, fails_more, limited_is, limited_few, put_all-append}
use Rattle.std.proofs.Math.Seq.{drop-cons}
use Rattle.std.proofs.lemmas.List.{drop_all}
use Rattle.std.proofs.lemmas.List.Folds.{list_all_at}

pub label_total : IsTotalOrder label_cmp
label_total = then_total (on_total (λ (l : Label). l.name) nat_list_cmp_total) (on_total (λ (l : Label). l.value) nat_list_cmp_total)

-- what comes after the other has the other before it
pub turned : (l m : Label) → label_cmp l m ≡ Greater → label_cmp m l ≡ Less
turned l m after = rw (label_total.antisymm m l, after) refl

pub both_left : (b c : Bool) → (b && c) ≡ true → b ≡ true
both_left true c both = refl
both_left false c both = both

pub both_right : (b c : Bool) → (b && c) ≡ true → c ≡ true
both_right true c both = both
both_right false c both = cc

before_placed : (o : Ordering) (m l k : Label) (ms rest : List Label) → label_cmp m l ≡ Less → is_lt (label_cmp m k) ≡ true
    → comes_before m (match_ordering o (l ∷ k ∷ ms) (k ∷ ms) (k ∷ rest)) ≡ true
before_placed Less m l k ms rest below first = rw below refl
before_placed Equal m l k ms rest below first = first
before_placed Greater m l k ms rest below first = first

-- what comes before the list and the label comes before the list with the label
before_put : (m l : Label) (ms : List Label) → label_cmp m l ≡ Less → comes_before m ms ≡ true → comes_before m (put_label l ms) ≡ true
before_put m l [] below first = rw below refl
before_put m l (k ∷ ms) below first = before_placed (label_cmp l k) m l k ms (put_label l ms) below first

ascending_placed : (o : Ordering) (l m : Label) (ms : List Label) → label_cmp l m ≡ o → comes_before m ms ≡ true → are_ascending ms ≡ true → are_ascending (put_label l ms) ≡ true
    → are_ascending (match_ordering o (l ∷ m ∷ ms) (m ∷ ms) (m ∷ put_label l ms)) ≡ true
ascending_placed Less l m ms is first rest more = rw (is, first, rest) refl
ascending_placed Equal l m ms is first rest more = rw (first, rest) refl
ascending_placed Greater l m ms is first rest more = rw (before_put m l ms (turned l m is) first, more) refl

-- an ascending list stays one
pub ascending_put : (l : Label) (ms : List Label) → are_ascending ms ≡ true → are_ascending (put_label l ms) ≡ true
ascending_put l [] up = refl
ascending_put l (m ∷ ms) up =
    let rest : are_ascending ms ≡ true = both_right (comes_before m ms) _ up in
    ascending_placed (label_cmp l m) l m ms refl (both_left (comes_before m ms) _ up) rest (ascending_put l ms rest)

all_placed : (o : Ordering) (p : Label → Bool) (l m : Label) (ms rest : List Label) → p l ≡ true → p m ≡ true → list_all p ms ≡ true → list_all p rest ≡ true
    → list_all p (match_ordering o (l ∷ m ∷ ms) (m ∷ ms) (m ∷ rest)) ≡ true
all_placed Less p l m ms rest new first old more = rw (new, first, old) refl
all_placed Equal p l m ms rest new first old more = rw (first, old) refl
all_placed Greater p l m ms rest new first old more = rw (first, more) refl

-- what holds of the label and of each in the list holds of each
pub all_put : (p : Label → Bool) (l : Label) (ms : List Label) → p l ≡ true → list_all p ms ≡ true → list_all p (put_label l ms) ≡ true
all_put p l [] new all = rw new refl
all_put p l (m ∷ ms) new all =
    let rest : list_all p ms ≡ true = both_right (p m) _ all in
    all_placed (label_cmp l m) p l m ms (put_label l ms) new (both_left (p m) _ all) rest (all_put p l ms new rest)

fits : (n : ℕ) → n ≤ 64 → nat_le n 64 ≡ true
fits n few = grind (arith, common_steps)

pub ascending_of_set : (ms : List Label) → is_label_set ms ≡ true → are_ascending ms ≡ true
unfolding is_label_set
ascending_of_set ms set = both_left (are_ascending ms) (list_all is_label ms) (both_left (are_ascending ms && list_all is_label ms) (nat_le (length ms) max_labels) set)

pub valid_of_set : (ms : List Label) → is_label_set ms ≡ true → list_all is_label ms ≡ true
unfolding is_label_set
valid_of_set ms set = both_right (are_ascending ms) (list_all is_label ms) (both_left (are_ascending ms && list_all is_label ms) (nat_le (length ms) max_labels) set)

pub few_of_set : (ms : List Label) → is_label_set ms ≡ true → length ms ≤ 64
unfolding is_label_set
few_of_set ms set =
    let few : nat_le (length ms) 64 ≡ true = both_right (are_ascending ms && list_all is_label ms) (nat_le (length ms) max_labels) set in
    grind (arith, common_steps)

-- a set with one more label that fits is a set
pub is_label_set-put : (l : Label) (ms : List Label) → is_label l ≡ true → is_label_set ms ≡ true → length (put_label l ms) ≤ 64 → is_label_set (put_label l ms) ≡ true
unfolding is_label_set
is_label_set-put l ms valid set few =
    rw (ascending_put l ms (ascending_of_set ms set), all_put is_label l ms valid (valid_of_set ms set), fits (length (put_label l ms)) few) refl

-- the same, where the label was put at a place
pub is_label_set-insert : (i : ℕ) (l : Label) (ms : List Label) → is_label l ≡ true → is_label_set ms ≡ true → put_label l ms ≡ insert ms i l → length (insert ms i l) ≤ 64 → is_label_set (insert ms i l) ≡ true
is_label_set-insert i l ms valid set is few = rw (← is) (is_label_set-put l ms valid set (rw is few))

-- a label that is there stays
pub with_label-there : (l : Label) (ms : List Label) → is_label l ≡ true → is_label_set ms ≡ true → put_label l ms ≡ ms → with_label l ms ≡ Ok ms
unfolding with_label
with_label-there l ms valid set there = rw (valid, there, fits (length ms) (few_of_set ms set)) refl

-- ---- leaving some out

pub less : (o : Ordering) → is_lt o ≡ true → o ≡ Less
less Less is = refl
less Equal is = cc
less Greater is = cc

before_next : (l m : Label) (ms : List Label) → is_lt (label_cmp l m) ≡ true → comes_before m ms ≡ true → comes_before l ms ≡ true
before_next l m [] first next = refl
before_next l m (k ∷ ms) first next = rw (label_total.trans l m k (less (label_cmp l m) first) (less (label_cmp m k) next)) refl

before_kept : (kept : Bool) (l m : Label) (rest : List Label) → is_lt (label_cmp l m) ≡ true → comes_before l rest ≡ true → comes_before l (cond kept (m ∷ rest) rest) ≡ true
before_kept true l m rest first more = first
before_kept false l m rest first more = more

ascending_kept : (kept : Bool) (m : Label) (rest : List Label) → comes_before m rest ≡ true → are_ascending rest ≡ true → are_ascending (cond kept (m ∷ rest) rest) ≡ true
ascending_kept true m rest first more = rw (first, more) refl
ascending_kept false m rest first more = more

all_kept_step : (kept : Bool) (q : Label → Bool) (m : Label) (rest : List Label) → q m ≡ true → list_all q rest ≡ true → list_all q (cond kept (m ∷ rest) rest) ≡ true
all_kept_step true q m rest first more = rw (first, more) refl
all_kept_step false q m rest first more = more

fewer_step : (kept : Bool) (m : Label) (rest : List Label) (n : ℕ) → length rest ≤ n → length (cond kept (m ∷ rest) rest) ≤ suc n
fewer_step true m rest n few = omega arith
fewer_step false m rest n few = omega arith

before_filtered : (p : Label → Bool) (l : Label) (ms : List Label) → comes_before l ms ≡ true → are_ascending ms ≡ true → comes_before l (filter p ms) ≡ true
before_filtered p l [] first up = refl
before_filtered p l (m ∷ ms) first up =
    let rest : are_ascending ms ≡ true = both_right (comes_before m ms) (are_ascending ms) up in
    before_kept (p m) l m (filter p ms) first (before_filtered p l ms (before_next l m ms first (both_left (comes_before m ms) (are_ascending ms) up)) rest)

ascending_filtered : (p : Label → Bool) (ms : List Label) → are_ascending ms ≡ true → are_ascending (filter p ms) ≡ true
ascending_filtered p [] up = refl
ascending_filtered p (m ∷ ms) up =
    let first : comes_before m ms ≡ true = both_left (comes_before m ms) (are_ascending ms) up in
    let rest : are_ascending ms ≡ true = both_right (comes_before m ms) (are_ascending ms) up in
    ascending_kept (p m) m (filter p ms) (before_filtered p m ms first rest) (ascending_filtered p ms rest)

all_kept : (p q : Label → Bool) (ms : List Label) → list_all q ms ≡ true → list_all q (filter p ms) ≡ true
all_kept p q [] all = refl
all_kept p q (m ∷ ms) all = all_kept_step (p m) q m (filter p ms) (both_left (q m) (list_all q ms) all) (all_kept p q ms (both_right (q m) (list_all q ms) all))

fewer : (p : Label → Bool) (ms : List Label) → length (filter p ms) ≤ length ms
fewer p [] = omega arith
fewer p (m ∷ ms) = fewer_step (p m) m (filter p ms) (length ms) (fewer p ms)

-- a part of a set is a set
pub is_label_set-filter : (p : Label → Bool) (ms : List Label) → is_label_set ms ≡ true → is_label_set (filter p ms) ≡ true
unfolding is_label_set
is_label_set-filter p ms set =
    let few : length ms ≤ 64 = few_of_set ms set in
    let less : length (filter p ms) ≤ length ms = fewer p ms in
    rw (ascending_filtered p ms (ascending_of_set ms set), all_kept p is_label ms (valid_of_set ms set), fits (length (filter p ms)) (omega arith)) refl

-- ---- putting in

put_length : (o : Ordering) (l m : Label) (ms rest : List Label) → length ms ≤ length rest → length (m ∷ ms) ≤ length (match_ordering o (l ∷ m ∷ ms) (m ∷ ms) (m ∷ rest))
put_length Less l m ms rest more = omega arith
put_length Equal l m ms rest more = omega arith
put_length Greater l m ms rest more = omega arith

-- a label that is put in takes none away
pub put_grows : (l : Label) (ms : List Label) → length ms ≤ length (put_label l ms)
put_grows l [] = omega arith
put_grows l (m ∷ ms) = put_length (label_cmp l m) l m ms (put_label l ms) (put_grows l ms)

-- a label that is valid is put in as far as there is room
pub with_label-valid : (l : Label) (ms : List Label) → is_label l ≡ true → with_label l ms ≡ limited (put_label l ms)
unfolding with_label
with_label-valid l ms valid = rw valid refl

valid_cond : (name value : List ℕ) (l : Label) (valid : Bool) → (is_label_name name && is_label_value value) ≡ valid
    → cond valid (Some (record { name = name; value = value })) None ≡ Some l → is_label l ≡ true
unfolding is_label
valid_cond name value l true valid is =
    let same : l ≡ record { name = name; value = value } = cc in
    rw (same, valid) refl
valid_cond name value l false valid is = cc

pub label_of-valid : (name value : List ℕ) (l : Label) → label_of name value ≡ Some l → is_label l ≡ true
unfolding label_of
label_of-valid name value l is = valid_cond name value l (is_label_name name && is_label_value value) refl is

in_cond : (item : List ℕ) (l : Label) (equals : Bool) → cond equals (label_of (before_byte 61 item) (after_byte 61 item)) None ≡ Some l → is_label l ≡ true
in_cond item l true is = label_of-valid (before_byte 61 item) (after_byte 61 item) l is
in_cond item l false is = cc

-- what an item says is a label
pub label_in-valid : (item : List ℕ) (l : Label) → label_in item ≡ Some l → is_label l ≡ true
label_in-valid item l is = in_cond item l (has_byte 61 item) is

-- ---- item by item

labels_more : (goes_on : Bool) (rest : List ℕ) (set all : List Label) → goes_on ≡ true → put_labels (labels_in (items_left goes_on rest)) set ≡ all
    → all ≡ put_labels (option_to_list (label_in (take (place_of 44 rest) rest)) ++ labels_in (items_left (nat_lt (place_of 44 rest) (length rest)) (drop (place_of 44 rest + 1) rest))) set
labels_more goes_on rest set all on is = rw (← is, on, cut rest) refl

-- an item that doesn't fit
pub label_item_fails : (e : LabelError) (goes_on : Bool) (rest : List ℕ) (set all : List Label) → goes_on ≡ true → put_labels (labels_in (items_left goes_on rest)) set ≡ all
    → Fails e (limited (put_labels (option_to_list (label_in (take (place_of 44 rest) rest))) set)) → Fails e (limited all)
label_item_fails e goes_on rest set all on is fails =
    rw (labels_more goes_on rest set all on is)
    (fails_more put_label put_grows e (option_to_list (label_in (take (place_of 44 rest) rest)))
    (labels_in (items_left (nat_lt (place_of 44 rest) (length rest)) (drop (place_of 44 rest + 1) rest))) set fails)

-- an item that fits
pub label_item_fits : (goes_on : Bool) (rest : List ℕ) (set all new : List Label) → goes_on ≡ true → put_labels (labels_in (items_left goes_on rest)) set ≡ all
    → limited (put_labels (option_to_list (label_in (take (place_of 44 rest) rest))) set) ≡ Ok new
    → put_labels (labels_in (items_left (nat_lt (place_of 44 rest) (length rest)) (drop (place_of 44 rest + 1) rest))) new ≡ all
label_item_fits goes_on rest set all new on is fits =
    let first : List Label = option_to_list (label_in (take (place_of 44 rest) rest)) in
    let others : List Label = labels_in (items_left (nat_lt (place_of 44 rest) (length rest)) (drop (place_of 44 rest + 1) rest)) in
    let after : new ≡ put_labels first set = limited_is (put_labels first set) new fits in
    rw (labels_more goes_on rest set all on is, put_all-append put_label first others set, after) refl

-- a set fits
pub limited_set : (ms : List Label) → is_label_set ms ≡ true → limited ms ≡ Ok ms
limited_set ms set = limited_few ms (few_of_set ms set)

-- ---- label by label

one_behind : (n : ℕ) → suc n ≡ n + 1
one_behind n = omega arith

valid_here : (l : Label) (p : Label → Bool) (ls : List Label) (i : ℕ) (valid : Bool) → p (get_or ls i l) ≡ valid → i < length ls → list_all p ls ≡ true → p (get_or ls i l) ≡ true
valid_here l p ls i true is within all = is
valid_here l p ls i false is within all = let none : list_all p ls ≡ false = list_all_at p ls i l within is in cc

-- each of valid labels is valid
valid_at : (l : Label) (ls : List Label) (i : ℕ) → i < length ls → l ≡ get_or ls i l → list_all is_label ls ≡ true → is_label l ≡ true
valid_at l ls i within is all = rw is (valid_here l is_label ls i (is_label (get_or ls i l)) refl within all)

next_label : (l : Label) (ls : List Label) (i : ℕ) → i < length ls → l ≡ get_or ls i l → drop i ls ≡ l ∷ drop (i + 1) ls
next_label l ls i within is = rw (drop-cons ls i l, ← is) (ap (λ (n : ℕ). l ∷ drop n ls) (one_behind i))

-- a label that doesn't fit
pub label_fails : (e : LabelError) (l : Label) (ls : List Label) (i : ℕ) (set all : List Label) → i < length ls → l ≡ get_or ls i l → list_all is_label ls ≡ true
    → put_labels (drop i ls) set ≡ all → Fails e (with_label l set) → Fails e (limited all)
label_fails e l ls i set all within is valid whole fails =
    let fails' : Fails e (limited (put_labels (l ∷ []) set)) = rw (with_label-valid l set (valid_at l ls i within is valid)) at fails in
    let same : put_labels (l ∷ drop (i + 1) ls) set ≡ all = sym (ap (λ (ms : List Label). put_labels ms set) (next_label l ls i within is)) ∙ whole in
    rw (← same) (fails_more put_label put_grows e (l ∷ []) (drop (i + 1) ls) set fails')

-- a label that fits
pub label_fits : (l : Label) (ls : List Label) (i : ℕ) (set all new : List Label) → i < length ls → l ≡ get_or ls i l → list_all is_label ls ≡ true
    → put_labels (drop i ls) set ≡ all → with_label l set ≡ Ok new → put_labels (drop (i + 1) ls) new ≡ all
label_fits l ls i set all new within is valid whole fits =
    let fits' : limited (put_label l set) ≡ Ok new = rw (with_label-valid l set (valid_at l ls i within is valid)) at fits in
    let after : new ≡ put_label l set = limited_is (put_label l set) new fits' in
    let same : put_labels (l ∷ drop (i + 1) ls) set ≡ all = sym (ap (λ (ms : List Label). put_labels ms set) (next_label l ls i within is)) ∙ whole in
    rw after same

-- behind the last label
pub labels_done : (ls : List Label) (i : ℕ) (set all : List Label) → length ls ≤ i → put_labels (drop i ls) set ≡ all → all ≡ set
labels_done ls i set all past whole = sym whole ∙ ap (λ (ms : List Label). put_labels ms set) (drop_all i ls past)
