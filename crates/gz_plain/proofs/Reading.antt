-- What reading on from a checkpoint gives.
use Rattle.std.proofs.Common.{◌≡◌, ℕ, zero, suc, ◌+◌, ◌-◌, ◌<◌, ◌≤◌, List, [], ◌∷◌, ◌++◌, length, take, drop, refl, ap, sym, ◌∙◌, subst, arith, nat_lt, true, Some}
use Rattle.std.proofs.lemmas.Grind.{common_steps}
use Rattle.std.proofs.lemmas.List.{append-nil, length-append, length-take-le, length-drop, drop-drop, take-append-drop}
use Rattle.gz_frame.specs.Messages.{Message}
use Rattle.gz_frame.specs.Release.{Release}
use Rattle.gz_frame.specs.Text.{messages_of}
use Rattle.gz_sequencer.specs.Committed.{released_in, committed}
use Rattle.gz_sequencer.specs.Machine.{Point, at, started, fed, resumed, point_of}
use Rattle.gz_sequencer.proofs.AnyCuts.{fed_is_committed}
use Rattle.gz_sequencer.proofs.Resuming.{releases_the_rest, checkpoints_agree, wants_within}
use Rattle.gz_promise.specs.Parts.{part}
use Rattle.gz_plain.specs.Readers.{IsRead, news, text_behind, whole, reading}
use Rattle.gz_plain.specs.declared.reader.Next.{Next}
use Rattle.gz_plain.specs.declared.reader.Reader.{Reader}
use Rattle.gz_plain.proofs.Growth.{text_inside, committed_inside}
use Rattle.gz_plain.proofs.Longer.{Adds, adds_of}
use Rattle.gz_plain.proofs.Parts.{Within, part_inside, part_before, part_two, messages_two}
use Rattle.gz_plain.proofs.Takes.{part_none}

-- the releases of a prefix, and those behind it
pub committed_prefix : (from read : ℕ) (xs : List ℕ) → read ≤ length xs → Within from (from + read) (committed from (take read xs))
committed_prefix from read xs within =
    subst (λ (n : ℕ). Within from (from + n) (committed from (take read xs))) (length-take-le read xs within)
    (committed_inside from (from + length (take read xs)) [] (messages_of from (take read xs)) (text_inside from (take read xs)))

pub adds_prefix : (from read : ℕ) (xs : List ℕ) → Adds from (take read xs) xs
adds_prefix from read xs = adds_of from (take read xs) xs (drop read xs, take-append-drop read xs)

-- what is new is released behind the prefix
pub news_behind : (from read : ℕ) (xs : List ℕ) → read ≤ length xs
    → released_in (committed from xs) ≡ released_in (committed from (take read xs)) ++ part (from + read) (from + length xs) (committed from xs)
news_behind from read xs within =
    let a : Adds from (take read xs) xs = adds_prefix from read xs in
    let prefix : List Release = committed from (take read xs) in
    let behind : Within (from + read) (from + length xs) a.more = subst (λ (n : ℕ). Within (from + n) (from + length xs) a.more) (length-take-le read xs within) a.behind in
    let new : part (from + read) (from + length xs) (committed from xs) ≡ released_in a.more =
    ap (λ (rs : List Release). part (from + read) (from + length xs) rs) a.joined
    ∙ part_two (from + read) (from + length xs) prefix a.more
    ∙ rw (part_before from (from + read) (from + read) (from + length xs) prefix (omega arith) (committed_prefix from read xs within), part_inside (from + read) (from + length xs) a.more behind) refl in
    ap (λ (rs : List Release). released_in rs) a.joined ∙ messages_two prefix a.more ∙ ap (λ (ms : List Message). released_in prefix ++ ms) (sym new)

append_cancel : (xs ys zs : List Message) → xs ++ ys ≡ xs ++ zs → ys ≡ zs
append_cancel [] ys zs same = same
append_cancel (x ∷ xs) ys zs same = append_cancel xs ys zs (cc)

-- where a reader goes on: within what it has read
pub resumes_within : (r : Reader) (text : List ℕ) → IsRead r text → (r.from ≤ at (resumed r.point)) × (at (resumed r.point) ≤ r.from + r.read)
resumes_within r text read =
    let w = wants_within r.from (take r.read (text_behind r text)) in
    let len : length (take r.read (text_behind r text)) ≡ r.read = length-take-le r.read (text_behind r text) read.within in
    let same : at (resumed r.point) ≡ at (resumed (point_of (fed (started r.from) (take r.read (text_behind r text))))) = ap (λ (p : Point). at (resumed p)) read.at in
    (omega (arith, same, w.0), omega (arith, same, w.1, len))

-- the bytes from there on
resumed_bytes : (r : Reader) (text : List ℕ) → r.from ≤ at (resumed r.point)
    → drop (at (resumed r.point) - r.from) (text_behind r text) ≡ drop (at (resumed r.point)) text
resumed_bytes r text above =
    drop-drop (at (resumed r.point) - r.from) r.from text ∙ ap (λ (n : ℕ). drop n text) (omega (arith, above))

-- what is released is the news
pub resumed_news : (r : Reader) (text : List ℕ) → IsRead r text → (fed (resumed r.point) (drop (at (resumed r.point)) text)).released ≡ news r text
resumed_news r text read =
    let xs : List ℕ = text_behind r text in
    let P : Point → Type 0 = λ p. released_in (committed r.from (take r.read xs)) ++ (fed (resumed p) (drop (at (resumed p) - r.from) xs)).released ≡ released_in (committed r.from xs) in
    let rest : P r.point =
    subst P (sym read.at)
    (subst (λ (t : List ℕ). released_in (committed r.from (take r.read xs)) ++ (fed (resumed (point_of (fed (started r.from) (take r.read xs)))) (drop (at (resumed (point_of (fed (started r.from) (take r.read xs)))) - r.from) t)).released ≡ released_in (committed r.from t))
    (take-append-drop r.read xs) (releases_the_rest r.from (take r.read xs) (drop r.read xs))) in
    let same = append_cancel (released_in (committed r.from (take r.read xs))) (fed (resumed r.point) (drop (at (resumed r.point) - r.from) xs)).released (news r text)
    (rest ∙ news_behind r.from r.read xs read.within) in
    ap (λ (t : List ℕ). (fed (resumed r.point) t).released) (sym (resumed_bytes r text (resumes_within r text read).0)) ∙ same

-- the checkpoint is that of the whole text
pub resumed_point : (r : Reader) (text : List ℕ) → IsRead r text → point_of (fed (resumed r.point) (drop (at (resumed r.point)) text)) ≡ point_of (fed (started r.from) (text_behind r text))
resumed_point r text read =
    let xs : List ℕ = text_behind r text in
    let P : Point → Type 0 = λ p. point_of (fed (resumed p) (drop (at (resumed p) - r.from) xs)) ≡ point_of (fed (started r.from) xs) in
    let rest : P r.point =
    subst P (sym read.at)
    (subst (λ (t : List ℕ). point_of (fed (resumed (point_of (fed (started r.from) (take r.read xs)))) (drop (at (resumed (point_of (fed (started r.from) (take r.read xs)))) - r.from) t)) ≡ point_of (fed (started r.from) t))
    (take-append-drop r.read xs) (checkpoints_agree r.from (take r.read xs) (drop r.read xs))) in
    ap (λ (t : List ℕ). point_of (fed (resumed r.point) t)) (sym (resumed_bytes r text (resumes_within r text read).0)) ∙ rest

-- where all was read, there is no news
pub no_news : (r : Reader) (text : List ℕ) → IsRead r text → length (text_behind r text) ≤ r.read → [] ≡ news r text
no_news r text read all =
    let end : length (text_behind r text) ≡ r.read = omega (arith, all, read.within) in
    sym (ap (λ (n : ℕ). part (r.from + r.read) (r.from + n) (committed r.from (text_behind r text))) end ∙ part_none (r.from + r.read) (committed r.from (text_behind r text)))

-- a reader goes on where there is more than it has read
pub resumes_in_text : (r : Reader) (text : List ℕ) → IsRead r text → r.read < length text - r.from → at (resumed r.point) ≤ length text
resumes_in_text r text read more = omega (arith, (resumes_within r text read).1, more)

pub behind_len : (r : Reader) (text : List ℕ) → length (text_behind r text) ≡ length text - r.from
behind_len r text = length-drop r.from text

is_more : (m n : ℕ) → m < n → nat_lt m n ≡ true
is_more m n less = grind (arith, common_steps)

-- the reader that has read on
pub reading_more : (r : Reader) (text : List ℕ) (n : ℕ) (p : Point) → IsRead r text → n ≡ length text - r.from → r.read < n
    → p ≡ point_of (fed (resumed r.point) (drop (at (resumed r.point)) text)) → record r { next = Some (record { read = n; point = p }) } ≡ reading text r
reading_more r text n p read len more point =
    let len2 : n ≡ length (text_behind r text) = len ∙ sym (behind_len r text) in
    let next : Next = record { read = n; point = p } in
    let same : next ≡ whole r text =
    ap (λ (k : ℕ). record { read = k; point = p }) len2 ∙ ap (λ (q : Point). record { read = length (text_behind r text); point = q }) (point ∙ resumed_point r text read) in
    rw (is_more r.read (length (text_behind r text)) (omega (arith, len2, more))) (ap (λ (k : Next). record r { next = Some k }) same)

-- a sequencer that was fed a text from its start has released what is committed
pub fed_released : (text : List ℕ) → (fed (started 0) text).released ≡ released_in (committed 0 text)
fed_released text = fed_is_committed 0 text
