-- The offsets of commits are ends of whole lines.
use Rattle.std.proofs.Common.{◌≡◌, ℕ, ◌+◌, ◌-◌, ◌≤◌, List, [], ◌∷◌, ◌++◌, length, take, drop, refl, ap, sym, ◌∙◌, true, arith}
use Rattle.std.specs.Prelude.{⊤}
use Rattle.std.proofs.lemmas.List.{length-append, take_all, take-append-le}
use Rattle.gz_model.specs.Prefix.{IsPrefix}
use Rattle.gz_frame.specs.Text.{is_whole}
use Rattle.gz_promise.specs.Journals.{Journal, text_of, AreWhole}
use Rattle.gz_promise.specs.Sources.{Source, text_from, end_of, ends_of, EndsLine, EndLines, AllEndLines}
use Rattle.gz_plain.proofs.Growth.{whole_drop}
use Rattle.gz_plain.proofs.Longer.{Longer, prefix_drop}

-- where journals are whole lines, a source ends with one
pub end_line : (js : List Journal) (s : Source) → AreWhole js → EndsLine js (end_of js s) s
end_line js s whole =
    let text : List ℕ = text_from js s in
    let all : take (s.from + length text - s.from) text ≡ text = take_all (s.from + length text - s.from) text (omega arith) in
    record {
      upto = omega arith;
      whole = ap (λ (t : List ℕ). is_whole t) all ∙ whole_drop s.from (text_of s.journal js) (whole s.journal);
    }

pub end_lines : (js : List Journal) (ss : List Source) → AreWhole js → EndLines js (ends_of js ss) ss
end_lines js [] whole = tt
end_lines js (s ∷ ss) whole = (end_line js s whole, end_lines js ss whole)

-- and that stays as journals become longer
line_later : (js new : List Journal) (to : ℕ) (s : Source) → Longer js new → EndsLine js to s → EndsLine new to s
line_later js new to s longer e =
    let old : List ℕ = text_from js s in
    let p : IsPrefix old (text_from new s) = prefix_drop s.from (text_of s.journal js) (text_of s.journal new) (longer s.journal) in
    let count : length (text_from new s) ≡ length old + length p.0 = ap (λ (t : List ℕ). length t) (sym p.1) ∙ length-append old p.0 in
    let same : take (to - s.from) (text_from new s) ≡ take (to - s.from) old =
    ap (λ (t : List ℕ). take (to - s.from) t) (sym p.1) ∙ take-append-le (to - s.from) old p.0 (omega (arith, e.upto)) in
    record { upto = omega (arith, e.upto, count); whole = ap (λ (t : List ℕ). is_whole t) same ∙ e.whole }

lines_later : (js new : List Journal) (tos : List ℕ) (ss : List Source) → Longer js new → EndLines js tos ss → EndLines new tos ss
lines_later js new [] ss longer e = tt
lines_later js new (to ∷ tos) [] longer e = tt
lines_later js new (to ∷ tos) (s ∷ ss) longer e = (line_later js new to s longer e.0, lines_later js new tos ss longer e.1)

pub all_lines_later : (js new : List Journal) (commits : List (List ℕ)) (ss : List Source) → Longer js new → AllEndLines js commits ss → AllEndLines new commits ss
all_lines_later js new [] ss longer e = tt
all_lines_later js new (tos ∷ commits) ss longer e = (lines_later js new tos ss longer e.0, all_lines_later js new commits ss longer e.1)

-- one more commit
pub all_lines_more : (js : List Journal) (commits : List (List ℕ)) (ss : List Source) (tos : List ℕ) → EndLines js tos ss → AllEndLines js commits ss → AllEndLines js (commits ++ tos ∷ []) ss
all_lines_more js [] ss tos last e = (last, tt)
all_lines_more js (c ∷ commits) ss tos last e = (e.0, all_lines_more js commits ss tos last e.1)
