-- The parts of a list of released messages whose lines end between two offsets.
use Rattle.std.proofs.Common.{◌≡◌, ℕ, ◌<◌, ◌≤◌, List, [], ◌∷◌, ◌++◌, map, refl, ap, sym, ◌∙◌, true, false, arith, ◌&&◌, nat_lt, nat_le, append_assoc}
use Rattle.std.specs.Prelude.{⊤}
use Rattle.std.proofs.lemmas.Grind.{common_steps}
use Rattle.std.proofs.lemmas.List.{append-nil, map-append}
use Rattle.std.proofs.lemmas.List.Elements.{filter-append}
use Rattle.gz_frame.specs.Messages.{Message}
use Rattle.gz_frame.specs.Release.{Release}
use Rattle.gz_sequencer.specs.Committed.{released_in}
use Rattle.gz_promise.specs.Parts.{is_between, part, read_of, last_from}
use Rattle.gz_promise.specs.Parts.{NeverFall}

-- each line ends after `from` and at or before `to`
abbrev pub Within : ℕ → ℕ → List Release → Type 0
Within from to [] = ⊤
Within from to (r ∷ rs) = ((from < r.end) × (r.end ≤ to)) × Within from to rs

-- wider bounds hold too
pub within_wider : (from to low high : ℕ) (rs : List Release) → low ≤ from → to ≤ high → Within from to rs → Within low high rs
within_wider from to low high [] l h w = tt
within_wider from to low high (r ∷ rs) l h w = ((omega (arith, w.0.0), omega (arith, w.0.1)), within_wider from to low high rs l h w.1)

-- two lists within the bounds are within them together
pub within_two : (from to : ℕ) (rs ss : List Release) → Within from to rs → Within from to ss → Within from to (rs ++ ss)
within_two from to [] ss v w = w
within_two from to (r ∷ rs) ss v w = (v.0, within_two from to rs ss v.1 w)

-- the test of an end between the offsets
test_inside : (from to end : ℕ) → from < end → end ≤ to → (nat_lt from end && nat_le end to) ≡ true
test_inside from to end l h = grind (arith, common_steps)

-- the test of an end at or before the first offset
test_before : (from to end : ℕ) → end ≤ from → (nat_lt from end && nat_le end to) ≡ false
test_before from to end l = grind (arith, common_steps)

-- the test of an end behind the second offset
test_after : (from to end : ℕ) → to < end → (nat_lt from end && nat_le end to) ≡ false
test_after from to end l = grind (arith, common_steps)

-- the part between the bounds is the whole list
pub part_inside : (from to : ℕ) (rs : List Release) → Within from to rs → part from to rs ≡ released_in rs
part_inside from to [] w = refl
part_inside from to (r ∷ rs) w = rw (test_inside from to r.end w.0.0 w.0.1) (ap (λ (ms : List Message). r.message ∷ ms) (part_inside from to rs w.1))

-- the part behind the bounds is empty
pub part_before : (low high from to : ℕ) (rs : List Release) → high ≤ from → Within low high rs → part from to rs ≡ []
part_before low high from to [] h w = refl
part_before low high from to (r ∷ rs) h w = rw (test_before from to r.end (omega (arith, w.0.1))) (part_before low high from to rs h w.1)

-- the part before the bounds is empty
pub part_after : (low high from to : ℕ) (rs : List Release) → to ≤ low → Within low high rs → part from to rs ≡ []
part_after low high from to [] h w = refl
part_after low high from to (r ∷ rs) h w = rw (test_after from to r.end (omega (arith, w.0.0))) (part_after low high from to rs h w.1)

-- the messages of two lists
pub messages_two : (rs ss : List Release) → released_in (rs ++ ss) ≡ released_in rs ++ released_in ss
messages_two rs ss = map-append (λ r. r.message) rs ss

-- the part of two lists
pub part_two : (from to : ℕ) (rs ss : List Release) → part from to (rs ++ ss) ≡ part from to rs ++ part from to ss
part_two from to rs ss = ap (λ (ts : List Release). released_in ts) (filter-append (λ r. is_between from to r) rs ss) ∙ messages_two _ _

-- offsets that never fall end at or after their start
pub last_above : (from : ℕ) (offsets : List ℕ) → NeverFall from offsets → from ≤ last_from from offsets
last_above from [] n = omega arith
last_above from (to ∷ offsets) n = omega (arith, n.0, last_above to offsets n.1)

-- releases behind all offsets don't change the order
pub order_same : (from : ℕ) (offsets : List ℕ) (low high : ℕ) (rs ss : List Release) → NeverFall from offsets → last_from from offsets ≤ low → Within low high ss → read_of from offsets (rs ++ ss) ≡ read_of from offsets rs
order_same from [] low high rs ss n l w = refl
order_same from (to ∷ offsets) low high rs ss n l w =
    let up : to ≤ low = omega (arith, last_above to offsets n.1) in
    let first : part from to (rs ++ ss) ≡ part from to rs = part_two from to rs ss ∙ rw (part_after low high from to ss up w) (append-nil (part from to rs)) in
    rw (first, order_same to offsets low high rs ss n.1 l w) refl

-- one more offset adds the part up to it
pub order_more : (from : ℕ) (offsets : List ℕ) (end : ℕ) (rs : List Release) → read_of from (offsets ++ end ∷ []) rs ≡ read_of from offsets rs ++ part (last_from from offsets) end rs
order_more from [] end rs = append-nil (part from end rs)
order_more from (to ∷ offsets) end rs = ap (λ (ms : List Message). part from to rs ++ ms) (order_more to offsets end rs) ∙ sym (append_assoc (part from to rs) (read_of to offsets rs) (part (last_from to offsets) end rs))

-- one more offset is the last one
pub last_more : (from : ℕ) (offsets : List ℕ) (end : ℕ) → last_from from (offsets ++ end ∷ []) ≡ end
last_more from [] end = refl
last_more from (to ∷ offsets) end = last_more to offsets end

-- one more offset that isn't below the last one
pub never_fall_more : (from : ℕ) (offsets : List ℕ) (end : ℕ) → NeverFall from offsets → last_from from offsets ≤ end → NeverFall from (offsets ++ end ∷ [])
never_fall_more from [] end n l = (l, tt)
never_fall_more from (to ∷ offsets) end n l = (n.0, never_fall_more to offsets end n.1 l)

-- messages that one line releases end with it
pub within_line : (from to end : ℕ) (ms : List Message) → from < end → end ≤ to → Within from to (map (λ m. record { message = m; end = end }) ms)
within_line from to end [] l h = tt
within_line from to end (m ∷ ms) l h = ((l, h), within_line from to end ms l h)
