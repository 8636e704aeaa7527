-- Where entries end.
use Rattle.std.proofs.Common.{◌≡◌, ◌⊎◌, ℕ, zero, suc, ◌+◌, ◌-◌, ◌<◌, ◌≤◌, ◌==◌, ◌&&◌, List, [], ◌∷◌, ◌++◌, length, take, drop, min, get_or, refl, ap, sym, ◌∙◌, inl, inr, cond, not, nat_lt, Option, Some, None, Bool, true, false, arith, length-append, append_assoc}
use Rattle.std.proofs.lemmas.Grind.{common_steps, flat_map-append}
use Rattle.std.proofs.lemmas.List.{length-take, take-map, map-append, take-append-drop, append-nil, drop_all, drop-append-le, take-append-le}
use Rattle.std.proofs.lemmas.Bool.{cases_lt}
use Rattle.std.proofs.Math.Seq.{take-append-add, drop-append-add, take-length, drop-cons}
use Rattle.gz_label.specs.declared.entry.Entry.{Entry}
use Rattle.gz_journal.specs.declared.journal.Placed.{Placed}
use Rattle.gz_label.specs.declared.label.Label.{Label}
use Rattle.gz_label.specs.Selectors.{matches}
use Rattle.gz_journal.specs.declared.request.Request.{Request}
use Rattle.gz_journal.specs.declared.judgement.Judged.{Judged}
use Rattle.gz_journal.specs.declared.judgement.Landed.TheVariants.{WrongOffset, TooLarge}
use Rattle.gz_journal.specs.declared.judgement.Landed.TheVariants as landed
use Rattle.gz_journal.specs.JournalList.{text_of, end_of, registers_of, part_of, max_end, is_empty, is_expected, refused, mismatch, change_of, changed_at, judgement, new_end_of, entry_of, appended}
use Rattle.gz_journal.specs.Places.{entries_of, are_placed}

both_left : (b c : Bool) → (b && c) ≡ true → b ≡ true
both_left true c both = refl
both_left false c both = both

both_right : (b c : Bool) → (b && c) ≡ true → c ≡ true
both_right true c both = both
both_right false c both = cc

same_number : (n m : ℕ) → (n == m) ≡ true → n ≡ m
same_number n m is = grind (arith, common_steps)

number_same : (n m : ℕ) → n ≡ m → (n == m) ≡ true
number_same n m is = grind (arith, common_steps)

pub text_more : (es fs : List Entry) → text_of (es ++ fs) ≡ text_of es ++ text_of fs
text_more es fs = flat_map-append (λ (e : Entry). e.bytes) es fs

-- the entry at a place ends where the text of those up to it ends
pub ends_at : (ps : List Placed) (begin i : ℕ) (d : Placed) → are_placed begin ps ≡ true → i < length ps → (get_or ps i d).end ≡ begin + end_of (entries_of (take (suc i) ps))
ends_at [] begin i d placed within = absurd (omega arith)
ends_at (p ∷ ps) begin zero d placed within =
    let here : p.end ≡ begin + length p.entry.bytes = same_number p.end (begin + length p.entry.bytes) (both_left (p.end == begin + length p.entry.bytes) (are_placed p.end ps) placed) in
    rw (append-nil p.entry.bytes) here
ends_at (p ∷ ps) begin (suc i) d placed within =
    let here : p.end ≡ begin + length p.entry.bytes = same_number p.end (begin + length p.entry.bytes) (both_left (p.end == begin + length p.entry.bytes) (are_placed p.end ps) placed) in
    let later : (get_or ps i d).end ≡ p.end + end_of (entries_of (take (suc i) ps)) = ends_at ps p.end i d (both_right (p.end == begin + length p.entry.bytes) (are_placed p.end ps) placed) (omega arith) in
    let joined : length (p.entry.bytes ++ text_of (entries_of (take (suc i) ps))) ≡ length p.entry.bytes + end_of (entries_of (take (suc i) ps)) = length-append p.entry.bytes (text_of (entries_of (take (suc i) ps))) in
    omega arith

-- the entry at a place ends where the text of those up to it ends
pub ends_here : (ps : List Placed) (i : ℕ) (p : Placed) → are_placed 0 ps ≡ true → i < length ps → p ≡ get_or ps i p → p.end ≡ end_of (take (i + 1) (entries_of ps))
ends_here ps i p placed within is =
    let at : (get_or ps i p).end ≡ 0 + end_of (entries_of (take (suc i) ps)) = ends_at ps 0 i p placed within in
    let one : suc i ≡ i + 1 = omega arith in
    let same : end_of (take (i + 1) (entries_of ps)) ≡ end_of (entries_of (take (suc i) ps)) =
    ap (λ (es : List Entry). end_of es) (take-map (λ (q : Placed). q.entry) (i + 1) ps) ∙ ap (λ (n : ℕ). end_of (entries_of (take n ps))) (sym one) in
    let here : p.end ≡ (get_or ps i p).end = ap (λ (q : Placed). q.end) is in
    omega arith

-- the last one ends where the text ends
pub ends_last : (ps : List Placed) (d : Placed) → are_placed 0 ps ≡ true → 0 < length ps → (get_or ps (length ps - 1) d).end ≡ end_of (entries_of ps)
ends_last ps d placed some =
    let whole : suc (length ps - 1) ≡ length ps = omega arith in
    let last : (get_or ps (length ps - 1) d).end ≡ 0 + end_of (entries_of (take (suc (length ps - 1)) ps)) = ends_at ps 0 (length ps - 1) d placed (omega arith) in
    let same : end_of (entries_of (take (suc (length ps - 1)) ps)) ≡ end_of (entries_of ps) = ap (λ (n : ℕ). end_of (entries_of (take n ps))) whole ∙ ap (λ (qs : List Placed). end_of (entries_of qs)) (take-length ps) in
    omega arith

-- one more, which ends behind its bytes
placed_push : (ps : List Placed) (begin : ℕ) (q : Placed) → are_placed begin ps ≡ true → q.end ≡ begin + (end_of (entries_of ps) + length q.entry.bytes) → are_placed begin (ps ++ q ∷ []) ≡ true
placed_push [] begin q placed ends = rw (number_same q.end (begin + length q.entry.bytes) (ends ∙ ap (λ (n : ℕ). begin + n) (omega arith))) refl
placed_push (p ∷ ps) begin q placed ends =
    let test : (p.end == begin + length p.entry.bytes) ≡ true = both_left (p.end == begin + length p.entry.bytes) (are_placed p.end ps) placed in
    let here : p.end ≡ begin + length p.entry.bytes = same_number p.end (begin + length p.entry.bytes) test in
    let joined : length (p.entry.bytes ++ text_of (entries_of ps)) ≡ length p.entry.bytes + end_of (entries_of ps) = length-append p.entry.bytes (text_of (entries_of ps)) in
    let later : q.end ≡ p.end + (end_of (entries_of ps) + length q.entry.bytes) = omega arith in
    rw (test, placed_push ps p.end q (both_right (p.end == begin + length p.entry.bytes) (are_placed p.end ps) placed) later) refl

pub placed_more : (ps : List Placed) (q : Placed) → are_placed 0 ps ≡ true → q.end ≡ end_of (entries_of ps) + length q.entry.bytes → are_placed 0 (ps ++ q ∷ []) ≡ true
placed_more ps q placed ends = placed_push ps 0 q placed (omega arith)

-- the first ones are placed as well
pub placed_prefix : (ps : List Placed) (begin n : ℕ) → are_placed begin ps ≡ true → are_placed begin (take n ps) ≡ true
placed_prefix [] begin zero placed = refl
placed_prefix [] begin (suc n) placed = refl
placed_prefix (p ∷ ps) begin zero placed = refl
placed_prefix (p ∷ ps) begin (suc n) placed =
    rw (
      both_left (p.end == begin + length p.entry.bytes) (are_placed p.end ps) placed,
      placed_prefix ps p.end n (both_right (p.end == begin + length p.entry.bytes) (are_placed p.end ps) placed),
    ) refl

-- the registers are those of the last entry
pub registers_last : (ps : List Placed) (d : Placed) → 0 < length ps → (get_or ps (length ps - 1) d).entry.registers ≡ registers_of (entries_of ps)
registers_last [] d some = absurd (omega arith)
registers_last (p ∷ []) d some = refl
registers_last (p ∷ q ∷ ps) d some =
    let back : length (p ∷ q ∷ ps) - 1 ≡ suc (length (q ∷ ps) - 1) = omega arith in
    rw back (registers_last (q ∷ ps) d (omega arith))

-- ---- a part of the text

drop_joined : (skip : ℕ) (xs ys : List ℕ) → (skip ≤ length xs) ⊎ (length xs ≤ skip) → drop skip (xs ++ ys) ≡ drop (min skip (length xs)) xs ++ drop (skip - min skip (length xs)) ys
drop_joined skip xs ys (inl within) =
    let least : min skip (length xs) ≡ skip = omega arith in
    let none : skip - skip ≡ 0 = omega arith in
    rw (least, none) (drop-append-le skip xs ys within)
drop_joined skip xs ys (inr past) =
    let least : min skip (length xs) ≡ length xs = omega arith in
    let sum : length xs + (skip - length xs) ≡ skip = omega arith in
    let behind : drop skip (xs ++ ys) ≡ drop (skip - length xs) ys = ap (λ (n : ℕ). drop n (xs ++ ys)) (sym sum) ∙ drop-append-add xs ys (skip - length xs) in
    rw (least, drop_all (length xs) xs (omega arith)) behind

take_joined : (room : ℕ) (xs ys : List ℕ) → (room ≤ length xs) ⊎ (length xs ≤ room) → take room (xs ++ ys) ≡ take (min room (length xs)) xs ++ take (room - length (take (min room (length xs)) xs)) ys
take_joined room xs ys (inl within) =
    let least : min room (length xs) ≡ room = omega arith in
    let none : room - length (take room xs) ≡ 0 = omega (arith, length-take room xs) in
    rw (least, none, append-nil (take room xs)) (take-append-le room xs ys within)
take_joined room xs ys (inr past) =
    let least : min room (length xs) ≡ length xs = omega arith in
    let sum : length xs + (room - length xs) ≡ room = omega arith in
    let behind : take room (xs ++ ys) ≡ xs ++ take (room - length xs) ys = ap (λ (n : ℕ). take n (xs ++ ys)) (sym sum) ∙ take-append-add xs ys (room - length xs) in
    rw (least, take-length xs) behind

first_case : (n m : ℕ) → (n < m) ⊎ (m ≤ n) → (n ≤ m) ⊎ (m ≤ n)
first_case n m (inl below) = inl (omega arith)
first_case n m (inr past) = inr past

either : (n m : ℕ) → (n ≤ m) ⊎ (m ≤ n)
either n m = first_case n m (cases_lt n m)

-- a part of two texts, one behind the other
pub part_joined : (skip room : ℕ) (xs ys skipped rest part : List ℕ) → skipped ≡ take (min skip (length xs)) xs → rest ≡ drop (min skip (length xs)) xs → part ≡ take (min room (length rest)) rest
    → take room (drop skip (xs ++ ys)) ≡ part ++ take (room - length part) (drop (skip - length skipped) ys)
part_joined skip room xs ys skipped rest part skipped_is rest_is part_is =
    let cut : length skipped ≡ min skip (length xs) = ap (λ (zs : List ℕ). length zs) skipped_is ∙ omega (arith, length-take (min skip (length xs)) xs) in
    let dropped : drop skip (xs ++ ys) ≡ rest ++ drop (skip - length skipped) ys =
    drop_joined skip xs ys (either skip (length xs)) ∙ rw (← rest_is, cut) refl in
    let taken : take room (rest ++ drop (skip - length skipped) ys) ≡ part ++ take (room - length part) (drop (skip - length skipped) ys) =
    take_joined room rest (drop (skip - length skipped) ys) (either room (length rest)) ∙ rw (← part_is) refl in
    rw dropped taken

-- what stands before an offset within the text isn't needed
pub part_behind : (es fs : List Entry) (offset limit : ℕ) → end_of es ≤ offset → part_of (offset - end_of es) limit fs ≡ part_of offset limit (es ++ fs)
part_behind es fs offset limit before =
    let sum : end_of es + (offset - end_of es) ≡ offset = omega arith in
    let behind : drop offset (text_of es ++ text_of fs) ≡ drop (offset - end_of es) (text_of fs) =
    ap (λ (n : ℕ). drop n (text_of es ++ text_of fs)) (sym sum) ∙ drop-append-add (text_of es) (text_of fs) (offset - end_of es) in
    rw (text_more es fs, behind) refl

-- the same, where the entries are cut at a place
pub part_from : (ps : List Placed) (n offset limit : ℕ) → end_of (take n (entries_of ps)) ≤ offset
    → part_of (offset - end_of (entries_of (take n ps))) limit (entries_of (drop n ps)) ≡ part_of offset limit (entries_of ps)
part_from ps n offset limit before =
    let prefix : take n (entries_of ps) ≡ entries_of (take n ps) = take-map (λ (q : Placed). q.entry) n ps in
    let within : end_of (entries_of (take n ps)) ≤ offset = rw prefix at before in
    let whole : entries_of (take n ps) ++ entries_of (drop n ps) ≡ entries_of ps =
    rw (← map-append (λ (q : Placed). q.entry) (take n ps) (drop n ps), take-append-drop n ps) refl in
    part_behind (entries_of (take n ps)) (entries_of (drop n ps)) offset limit within ∙ ap (λ (es : List Entry). part_of offset limit es) whole

one_behind : (n : ℕ) → suc n ≡ n + 1
one_behind n = omega arith

next_placed : (p : Placed) (ps : List Placed) (i : ℕ) → i < length ps → p ≡ get_or ps i p → drop i ps ≡ p ∷ drop (i + 1) ps
next_placed p ps i within is = rw (drop-cons ps i p, ← is) (ap (λ (n : ℕ). p ∷ drop n ps) (one_behind i))

-- a part, entry by entry
pub part_step : (out new all : List ℕ) (p : Placed) (ps : List Placed) (i before room : ℕ) (skipped rest part : List ℕ) → i < length ps → p ≡ get_or ps i p
    → skipped ≡ take (min before (length p.entry.bytes)) p.entry.bytes → rest ≡ drop (min before (length p.entry.bytes)) p.entry.bytes → part ≡ take (min room (length rest)) rest
    → new ≡ out ++ part → out ++ part_of before room (entries_of (drop i ps)) ≡ all
    → new ++ part_of (before - length skipped) (room - length part) (entries_of (drop (i + 1) ps)) ≡ all
part_step out new all p ps i before room skipped rest part within is skipped_is rest_is part_is appended whole =
    let joined : part_of before room (entries_of (p ∷ drop (i + 1) ps)) ≡ part ++ part_of (before - length skipped) (room - length part) (entries_of (drop (i + 1) ps)) =
    part_joined before room p.entry.bytes (text_of (entries_of (drop (i + 1) ps))) skipped rest part skipped_is rest_is part_is in
    let first : out ++ part_of before room (entries_of (p ∷ drop (i + 1) ps)) ≡ all =
    ap (λ (qs : List Placed). out ++ part_of before room (entries_of qs)) (sym (next_placed p ps i within is)) ∙ whole in
    rw (appended, append_assoc out part (part_of (before - length skipped) (room - length part) (entries_of (drop (i + 1) ps))), ← joined) first

-- ---- requests

ends_landed : (over empty : Bool) (end : ℕ) (registers after : List Label) (r : Request) (e : ℕ) → is_empty r ≡ empty
    → new_end_of (cond over (refused (TooLarge max_end) registers) (record { landed = landed.Landed end (end + length r.content); after = after })).landed r ≡ Some e → e ≡ end + length r.content
ends_landed true empty end registers after r e is some = cc
ends_landed false true end registers after r e is some = let none : None ≡ Some e = rw is at some in cc
ends_landed false false end registers after r e is some = let here : Some (end + length r.content) ≡ Some e = rw is at some in cc

ends_changed : (end : ℕ) (registers : List Label) (change : Option (List Label)) (r : Request) (e : ℕ)
    → new_end_of (changed_at end registers change r).landed r ≡ Some e → e ≡ end + length r.content
ends_changed end registers None r e some = cc
ends_changed end registers (Some after) r e some =
    ends_landed (nat_lt max_end (end + length r.content)) (is_empty r) end registers (cond (is_empty r) registers after) r e refl some

ends_judged : (expected matching : Bool) (end : ℕ) (registers : List Label) (r : Request) (e : ℕ)
    → new_end_of (cond (not expected) (refused (WrongOffset end) registers) (cond (not matching) (refused (mismatch registers) registers) (changed_at end registers (change_of r registers) r))).landed r ≡ Some e
    → e ≡ end + length r.content
ends_judged false matching end registers r e some = cc
ends_judged true false end registers r e some = cc
ends_judged true true end registers r e some = ends_changed end registers (change_of r registers) r e some

-- what is added ends behind the content
pub new_end_judged : (end : ℕ) (registers : List Label) (r : Request) (e : ℕ) → new_end_of (judgement end registers r).landed r ≡ Some e → e ≡ end + length r.content
new_end_judged end registers r e some = ends_judged (is_expected r.offset end) (matches r.selector registers) end registers r e some

pub appended_none : (judged : Judged) (r : Request) (es : List Entry) → new_end_of judged.landed r ≡ None → appended judged r es ≡ es
appended_none judged r es none = rw none refl

pub appended_some : (judged : Judged) (r : Request) (es : List Entry) (e : ℕ) → new_end_of judged.landed r ≡ Some e → appended judged r es ≡ es ++ entry_of r judged.after ∷ []
appended_some judged r es e some = rw some refl
