-- The marks of a checkpoint: what is known of a producer from its mark, and the least offset among them.
use Rattle.std.proofs.Common.{◌≡◌, ℕ, ◌<◌, ◌≤◌, List, [], ◌∷◌, map, min, refl, ap, ◌∙◌, subst, Bool, true, false, cond, Option, Some, None, option_map, unwrap_or, arith, nat_le}
use Rattle.std.specs.Prelude.{⊤}
use Rattle.std.specs.Ordering.{nat_cmp, match_ordering}
use Rattle.std.specs.declared.cmp.Ordering.{Ordering}
use Rattle.std.specs.declared.cmp.Ordering.TheVariants.{Less, Equal, Greater}
use Rattle.std.specs.Cmp.Lexicographic.{slice_cmp}
use Rattle.std.specs.Map.{lookup}
use Rattle.std.specs.BTreeMap.{insert_entry, is_at}
use Rattle.std.proofs.lemmas.Grind.{common_steps}
use Rattle.std.proofs.lemmas.Map.Made.{lookup-map_values}
use Rattle.gz_frame.specs.Messages.{is_end}
use Rattle.gz_frame.specs.Text.{Placed}
use Rattle.gz_sequencer.specs.Parts.{Part, Parts, nothing, part_of, does_wait, with_waiting, ended, continued, part_after, parts_after, parts_after_all}
use Rattle.gz_sequencer.specs.Machine.{Mark, mark_of, part_at, least_with, least_from}
use Rattle.gz_sequencer.proofs.PartHistories.{AllFrom}
use Rattle.gz_sequencer.proofs.Placement.{StartsAt, AllStart}
use Rattle.gz_sequencer.proofs.Again.{not_below}

abbrev by_bytes : List ℕ → List ℕ → Ordering
by_bytes x y = slice_cmp nat_cmp x y

abbrev pub marks_of : Parts → List (List ℕ × Mark)
marks_of parts = map (λ e. (e.0, mark_of e.1)) parts

abbrev pub parts_at : List (List ℕ × Mark) → Parts
parts_at marks = map (λ e. (e.0, part_at e.1)) marks

known_at : (o : Option Part) → unwrap_or (option_map (λ m. part_at m) (option_map (λ x. mark_of x) o)) nothing ≡ part_at (mark_of (unwrap_or o nothing))
known_at None = refl
known_at (Some x) = refl

-- what is known of a producer from its mark
pub part_of_marks : (q : List ℕ) (parts : Parts) → part_of q (parts_at (marks_of parts)) ≡ part_at (mark_of (part_of q parts))
part_of_marks q parts =
    ap (λ (o : Option Part). unwrap_or o nothing) (lookup-map_values (λ m. part_at m) (is_at (by_bytes q)) (marks_of parts)
    ∙ ap (λ (o : Option Mark). option_map (λ m. part_at m) o) (lookup-map_values (λ x. mark_of x) (is_at (by_bytes q)) parts))
    ∙ known_at (lookup (is_at (by_bytes q)) parts)

-- ---- the least offset is at most each first one
abbrev pub AtMost : ℕ → Option ℕ → Type 0
AtMost n None = ⊤
AtMost n (Some f) = n ≤ f

at_most_lower : (o : Option ℕ) (m n : ℕ) → m ≤ n → AtMost n o → AtMost m o
at_most_lower None m n h a = tt
at_most_lower (Some f) m n h a = omega arith

with_low : (o : Option ℕ) (n : ℕ) → least_with o n ≤ n
with_low None n = omega arith
with_low (Some f) n = omega arith

with_first : (o : Option ℕ) (n : ℕ) → AtMost (least_with o n) o
with_first None n = tt
with_first (Some f) n = omega arith

pub least_low : (es : List (List ℕ × Mark)) (n : ℕ) → least_from n es ≤ n
least_low [] n = omega arith
least_low (e ∷ es) n = let a : least_from (least_with e.1.pending n) es ≤ least_with e.1.pending n = least_low es (least_with e.1.pending n) in let b : least_with e.1.pending n ≤ n = with_low e.1.pending n in omega arith

abbrev AtMostMark : ℕ → Option Mark → Type 0
AtMostMark n None = ⊤
AtMostMark n (Some mark) = AtMost n mark.pending

mark_case : (b : Bool) (n : ℕ) (mark : Mark) (o : Option Mark) → AtMost n mark.pending → AtMostMark n o → AtMostMark n (cond b (Some mark) o)
mark_case true n mark o a h = a
mark_case false n mark o a h = h

least_mark : (es : List (List ℕ × Mark)) (n : ℕ) (test : List ℕ → Bool) → AtMostMark (least_from n es) (lookup test es)
least_mark [] n test = tt
least_mark (e ∷ es) n test =
    let low : ℕ = least_with e.1.pending n in
    mark_case (test e.0) (least_from low es) e.1 (lookup test es)
    (at_most_lower e.1.pending (least_from low es) low (least_low es low) (with_first e.1.pending n))
    (least_mark es low test)

first_case : (o : Option Part) (n : ℕ) → AtMostMark n (option_map (λ x. mark_of x) o) → AtMost n (unwrap_or o nothing).first
first_case None n h = tt
first_case (Some x) n h = h

pub least_first : (q : List ℕ) (parts : Parts) (n : ℕ) → AtMost (least_from n (marks_of parts)) (part_of q parts).first
least_first q parts n =
    first_case (lookup (is_at (by_bytes q)) parts) (least_from n (marks_of parts))
    (subst (λ (o : Option Mark). AtMostMark (least_from n (marks_of parts)) o) (lookup-map_values (λ x. mark_of x) (is_at (by_bytes q)) parts) (least_mark (marks_of parts) n (is_at (by_bytes q))))

-- ---- whole lines end at the least offset
abbrev pub FirstStarts : ℕ → List ℕ → Option ℕ → Type 0
FirstStarts begin text None = ⊤
FirstStarts begin text (Some f) = StartsAt begin text f

abbrev pub AllFirst : ℕ → List ℕ → Parts → Type 0
AllFirst begin text [] = ⊤
AllFirst begin text (e ∷ es) = FirstStarts begin text e.1.first × AllFirst begin text es

all_first_order : (o : Ordering) (begin : ℕ) (text k : List ℕ) (v : Part) (e : List ℕ × Part) (es fs : Parts) → FirstStarts begin text v.first → AllFirst begin text (e ∷ es) → AllFirst begin text fs
    → AllFirst begin text (match_ordering o ((k, v) ∷ e ∷ es) ((e.0, v) ∷ es) (e ∷ fs))
all_first_order Less begin text k v e es fs one all more = (one, all)
all_first_order Equal begin text k v e es fs one all more = (one, all.1)
all_first_order Greater begin text k v e es fs one all more = (all.0, more)

all_first_put : (es : Parts) (begin : ℕ) (text k : List ℕ) (v : Part) → FirstStarts begin text v.first → AllFirst begin text es → AllFirst begin text (insert_entry by_bytes es k v)
all_first_put [] begin text k v one all = (one, tt)
all_first_put (e ∷ es) begin text k v one all = all_first_order (by_bytes k e.0) begin text k v e es (insert_entry by_bytes es k v) one all (all_first_put es begin text k v one all.1)

found_case : (b : Bool) (begin : ℕ) (text : List ℕ) (x : Part) (o : Option Part) → FirstStarts begin text x.first → FirstStarts begin text (unwrap_or o nothing).first → FirstStarts begin text (unwrap_or (cond b (Some x) o) nothing).first
found_case true begin text x o a h = a
found_case false begin text x o a h = h

first_of : (es : Parts) (begin : ℕ) (text q : List ℕ) → AllFirst begin text es → FirstStarts begin text (part_of q es).first
first_of [] begin text q all = tt
first_of (e ∷ es) begin text q all = found_case (is_at (by_bytes q) e.0) begin text e.1 (lookup (is_at (by_bytes q)) es) all.0 (first_of es begin text q all.1)

first_or : (o : Option ℕ) (begin : ℕ) (text : List ℕ) (b : ℕ) → FirstStarts begin text o → StartsAt begin text b → StartsAt begin text (unwrap_or o b)
first_or None begin text b h s = s
first_or (Some f) begin text b h s = h

first_wait : (w : Bool) (begin : ℕ) (text : List ℕ) (part : Part) (p : Placed) → FirstStarts begin text part.first → StartsAt begin text p.begin → FirstStarts begin text (cond w (with_waiting part p) part).first
first_wait true begin text part p h s = first_or part.first begin text p.begin h s
first_wait false begin text part p h s = h

first_after : (e : Bool) (begin : ℕ) (text : List ℕ) (part : Part) (p : Placed) → FirstStarts begin text part.first → StartsAt begin text p.begin → FirstStarts begin text (cond e (ended part p.message.clock) (continued part p)).first
first_after true begin text part p h s = tt
first_after false begin text part p h s = first_wait (does_wait part p.message) begin text part p h s

pub all_first_run : (ps : List Placed) (until begin : ℕ) (text : List ℕ) (parts : Parts) → AllFrom until ps → AllStart begin text ps → AllFirst begin text parts → AllFirst begin text (parts_after_all until parts ps)
all_first_run [] until begin text parts from starts all = all
all_first_run (p ∷ ps) until begin text parts from starts all =
    let part : Part = part_of p.message.producer parts in
    let same : insert_entry by_bytes parts p.message.producer (part_after part p) ≡ parts_after until parts p = rw (not_below p.begin until from.0) refl in
    all_first_run ps until begin text (parts_after until parts p) from.1 starts.1
    (subst (λ (x : Parts). AllFirst begin text x) same
    (all_first_put parts begin text p.message.producer (part_after part p) (first_after (is_end p.message) begin text part p (first_of parts begin text p.message.producer all) starts.0) all))

at_most_is : (m n : ℕ) → nat_le m n ≡ true → m ≤ n
at_most_is m n h = grind (arith, common_steps)

above_is : (m n : ℕ) → nat_le m n ≡ false → n < m
above_is m n h = grind (arith, common_steps)

min_starts : (b : Bool) (begin : ℕ) (text : List ℕ) (m n : ℕ) → nat_le m n ≡ b → StartsAt begin text m → StartsAt begin text n → StartsAt begin text (min m n)
min_starts true begin text m n h x y =
    let l : m ≤ n = at_most_is m n h in
    let e : m ≡ min m n = omega arith in
    subst (λ (k : ℕ). StartsAt begin text k) e x
min_starts false begin text m n h x y =
    let l : n < m = above_is m n h in
    let e : n ≡ min m n = omega arith in
    subst (λ (k : ℕ). StartsAt begin text k) e y

with_starts : (o : Option ℕ) (begin : ℕ) (text : List ℕ) (n : ℕ) → FirstStarts begin text o → StartsAt begin text n → StartsAt begin text (least_with o n)
with_starts None begin text n h s = s
with_starts (Some f) begin text n h s = min_starts (nat_le n f) begin text n f refl s h

pub least_starts : (parts : Parts) (begin : ℕ) (text : List ℕ) (n : ℕ) → AllFirst begin text parts → StartsAt begin text n → StartsAt begin text (least_from n (marks_of parts))
least_starts [] begin text n all s = s
least_starts (e ∷ es) begin text n all s = least_starts es begin text (least_with e.1.first n) all.1 (with_starts e.1.first begin text n all.0 s)
