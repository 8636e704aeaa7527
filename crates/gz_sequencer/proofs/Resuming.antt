-- What a sequencer that is made from a checkpoint releases is the rest, and its checkpoints are those of the whole text.
use Rattle.std.proofs.Common.{◌≡◌, ℕ, ◌+◌, ◌-◌, ◌<◌, ◌≤◌, ◌==◌, List, [], ◌∷◌, ◌++◌, length, map, drop, max, refl, ap, sym, ◌∙◌, subst, Bool, true, false, cond, not, ◌&&◌, Option, Some, None, unwrap_or, arith, append_assoc}
use Rattle.std.proofs.lemmas.List.{append-nil, length-append}
use Rattle.std.specs.Ordering.{nat_cmp}
use Rattle.std.specs.Cmp.Lexicographic.{slice_cmp}
use Rattle.std.specs.Map.{lookup, set_value}
use Rattle.std.specs.BTreeMap.{is_at}
use Rattle.gz_model.specs.Lines.{line_len}
use Rattle.gz_model.specs.Prefix.{IsPrefix}
use Rattle.gz_frame.specs.Messages.{Message, is_end}
use Rattle.gz_frame.specs.Release.{Release, released, of_producer}
use Rattle.gz_frame.specs.Text.{Placed, message_of, messages_of, is_whole}
use Rattle.gz_frame.proofs.Whole.{Split, split_of, messages_joined, messages_prefix}
use Rattle.gz_sequencer.specs.Committed.{messages_alone, released_in, committed_after, committed}
use Rattle.gz_sequencer.specs.Parts.{Part, Parts, nothing, part_of, does_wait, is_from, part_again, parts_after, parts_after_all, releases_of_all}
use Rattle.gz_sequencer.specs.Machine.{Machine, Mark, Point, at, after_message, after_line, after_byte, fed, mark_of, point_of, resumed, started}
use Rattle.gz_sequencer.proofs.PartHistories.{AllFrom}
use Rattle.gz_sequencer.proofs.Feeding.{fed_append, fed_open, at_fed}
use Rattle.gz_sequencer.proofs.FedTexts.{Follows, fed_follows}
use Rattle.gz_sequencer.proofs.Placement.{AllBelow, all_below_higher, Ascending, StartsAt, Placement, placement}
use Rattle.gz_sequencer.proofs.AnyCuts.{fed_is_committed}
use Rattle.gz_sequencer.proofs.Again.{is_below}
use Rattle.gz_sequencer.proofs.Marks.{marks_of, parts_at, AtMost, AllFirst, least_first, least_starts, all_first_run}
use Rattle.gz_sequencer.proofs.GoesOn.{all_again, releases_none, Twin, twin_fed, whole_line, back_last}

-- where a sequencer stands after whole lines
record Stands (offset : ℕ) (text : List ℕ) (s : Machine) : Type 0 where
  until : s.until ≡ offset
  begin : s.begin ≡ offset + length text
  line : s.line ≡ []
  parts : s.parts ≡ parts_after_all offset [] (messages_of offset text)

stands : (offset : ℕ) (text : List ℕ) → is_whole text ≡ true → Stands offset text (fed (started offset) text)
stands offset text whole =
    let f : Follows (started offset) (fed (started offset) text) (messages_of offset text) = fed_follows text (started offset) refl in
    let empty : (fed (started offset) text).line ≡ [] = whole_line text (started offset) refl whole in
    let none : length (fed (started offset) text).line ≡ 0 = ap (λ (l : List ℕ). length l) empty in
    let place : at (fed (started offset) text) ≡ at (started offset) + length text = at_fed text (started offset) in
    record { until = f.until; begin = omega (arith, none, place); line = empty; parts = f.parts }

drop_prefix : (prefix back : List ℕ) → drop (length prefix) (prefix ++ back) ≡ back
drop_prefix [] back = refl
drop_prefix (x ∷ prefix) back = drop_prefix prefix back

-- a prefix and the rest of whole lines, of which the prefix ends at the least offset
from_cut : (offset : ℕ) (text prefix back : List ℕ) (s r : Machine) → Stands offset text s → r ≡ resumed (point_of s) → prefix ++ back ≡ text → is_whole prefix ≡ true → is_whole back ≡ true → r.begin ≡ offset + length prefix
    → Twin s.released s (fed r back)
from_cut offset text prefix back s r st same joined whole whole_back place =
    let top : max s.until s.begin ≡ offset + length text = omega (arith, st.until, st.begin) in
    let lengths : length prefix + length back ≡ length text = sym (length-append prefix back) ∙ ap (λ (ys : List ℕ). length ys) joined in
    let until : r.until ≡ offset + length text = ap (λ (m : Machine). m.until) same ∙ top in
    let line : r.line ≡ [] = ap (λ (m : Machine). m.line) same in
    let f : Follows r (fed r back) (messages_of r.begin (r.line ++ back)) = fed_follows back r (ap (λ (l : List ℕ). line_len l) line) in
    let texts : messages_of r.begin (r.line ++ back) ≡ messages_of r.begin back = ap (λ (l : List ℕ). messages_of r.begin (l ++ back)) line in
    let empty : (fed r back).line ≡ [] = whole_line back r line whole_back in
    let none : length (fed r back).line ≡ 0 = ap (λ (l : List ℕ). length l) empty in
    let none_r : length r.line ≡ 0 = ap (λ (l : List ℕ). length l) line in
    let moved : at (fed r back) ≡ at r + length back = at_fed back r in
    let begin : (fed r back).begin ≡ offset + length text = omega (arith, none, none_r, moved, place, lengths) in
    let ps_prefix : List Placed = messages_of offset prefix in
    let ps_back : List Placed = messages_of r.begin back in
    let split : messages_of offset text ≡ ps_prefix ++ ps_back =
    ap (λ (t : List ℕ). messages_of offset t) (sym joined) ∙ messages_joined offset prefix back whole ∙ ap (λ (n : ℕ). ps_prefix ++ messages_of n back) (sym place) in
    let p : Placement offset text (messages_of offset text) = placement text [] offset refl in
    let p_prefix : Placement offset prefix ps_prefix = placement prefix [] offset refl in
    let p_back : Placement r.begin back ps_back = placement back [] r.begin refl in
    let parts : s.parts ≡ parts_after_all offset [] (ps_prefix ++ ps_back) = st.parts ∙ ap (λ (ps : List Placed). parts_after_all offset [] ps) split in
    let below_prefix : AllBelow (offset + length text) ps_prefix = all_below_higher ps_prefix (offset + length prefix) (offset + length text) (omega arith) p_prefix.below in
    let below_back : AllBelow (offset + length text) ps_back = all_below_higher ps_back (r.begin + length back) (offset + length text) (omega arith) p_back.below in
    let below_least : AllBelow r.begin ps_prefix = all_below_higher ps_prefix (offset + length prefix) r.begin (omega arith) p_prefix.below in
    let least : (q : List ℕ) → AtMost r.begin (part_of q (parts_after_all offset [] (ps_prefix ++ ps_back))).first = λ q.
    subst (λ (x : Parts). AtMost r.begin (part_of q x).first) parts (subst (λ (n : ℕ). AtMost n (part_of q s.parts).first) (sym (ap (λ (m : Machine). m.begin) same)) (least_first q s.parts (max s.until s.begin))) in
    let again : parts_after_all (offset + length text) (parts_at (marks_of (parts_after_all offset [] (ps_prefix ++ ps_back)))) ps_back ≡ parts_after_all offset [] (ps_prefix ++ ps_back) =
    all_again offset (offset + length text) r.begin ps_prefix ps_back
    (subst (λ (ps : List Placed). Ascending ps) split p.ascending) (subst (λ (ps : List Placed). AllFrom offset ps) split p.from) (subst (λ (ps : List Placed). AllBelow (offset + length text) ps) split p.below)
    below_prefix below_back below_least least in
    let read : (fed r back).parts ≡ s.parts =
    f.parts ∙ ap (λ (ps : List Placed). parts_after_all r.until r.parts ps) texts
    ∙ ap (λ (u : ℕ). parts_after_all u r.parts ps_back) until
    ∙ ap (λ (x : Parts). parts_after_all (offset + length text) x ps_back) (ap (λ (m : Machine). m.parts) same ∙ ap (λ (x : Parts). parts_at (marks_of x)) parts)
    ∙ again ∙ sym parts in
    let released : (fed r back).released ≡ [] =
    f.released ∙ ap (λ (ps : List Placed). r.released ++ releases_of_all r.until r.parts ps) texts
    ∙ ap (λ (u : ℕ). r.released ++ releases_of_all u r.parts ps_back) until
    ∙ ap (λ (ms : List Message). r.released ++ ms) (releases_none ps_back (offset + length text) r.parts below_back)
    ∙ ap (λ (m : Machine). m.released ++ []) same in
    record {
      passed_t = omega (arith, st.until, st.begin);
      passed_s = omega (arith, f.until, until, begin);
      begin = st.begin ∙ sym begin;
      line = st.line ∙ sym empty;
      parts = sym read;
      released = sym (ap (λ (ms : List Message). s.released ++ ms) released ∙ append-nil s.released);
    }

-- the offset that a sequencer wants that is made from the checkpoint of whole lines is where one of them begins, or their end
cut_of : (offset : ℕ) (text : List ℕ) → is_whole text ≡ true → StartsAt offset text (resumed (point_of (fed (started offset) text))).begin
cut_of offset text whole =
    let s : Machine = fed (started offset) text in
    let st : Stands offset text s = stands offset text whole in
    let p : Placement offset text (messages_of offset text) = placement text [] offset refl in
    let firsts : AllFirst offset text s.parts = subst (λ (x : Parts). AllFirst offset text x) (sym st.parts) (all_first_run (messages_of offset text) offset offset text [] p.from p.starts tt) in
    let end : StartsAt offset text (max s.until s.begin) = record { prefix = text; back = []; joined = append-nil text; whole = whole; place = omega (arith, st.until, st.begin) } in
    least_starts s.parts offset text (max s.until s.begin) firsts end

-- after whole lines
from_whole : (offset : ℕ) (text xs : List ℕ) → is_whole text ≡ true
    → Twin (fed (started offset) text).released (fed (started offset) (text ++ xs)) (fed (resumed (point_of (fed (started offset) text))) (drop (at (resumed (point_of (fed (started offset) text))) - offset) (text ++ xs)))
from_whole offset text xs whole =
    let s : Machine = fed (started offset) text in
    let r : Machine = resumed (point_of s) in
    let st : Stands offset text s = stands offset text whole in
    let cut : StartsAt offset text r.begin = cut_of offset text whole in
    let whole_back : is_whole cut.back ≡ true = back_last cut.prefix cut.back 0 cut.whole (ap (λ (t : List ℕ). is_whole t) cut.joined ∙ whole) in
    let twin : Twin s.released s (fed r cut.back) = from_cut offset text cut.prefix cut.back s r st refl cut.joined cut.whole whole_back cut.place in
    let left : at r - offset ≡ length cut.prefix = omega (arith, cut.place) in
    let rest : drop (at r - offset) (text ++ xs) ≡ cut.back ++ xs =
    ap (λ (n : ℕ). drop n (text ++ xs)) left ∙ ap (λ (t : List ℕ). drop (length cut.prefix) (t ++ xs)) (sym cut.joined)
    ∙ ap (λ (t : List ℕ). drop (length cut.prefix) t) (append_assoc cut.prefix cut.back xs) ∙ drop_prefix cut.prefix (cut.back ++ xs) in
    let both : Twin s.released (fed s xs) (fed (fed r cut.back) xs) = twin_fed xs s.released s (fed r cut.back) twin in
    let P : Machine → Type 0 = λ t. Twin s.released t (fed r (drop (at r - offset) (text ++ xs))) in
    let Q : Machine → Type 0 = λ u. Twin s.released (fed s xs) u in
    subst P (sym (fed_append text xs (started offset))) (subst Q (sym (ap (λ (t : List ℕ). fed r t) rest ∙ fed_append cut.back xs r)) both)

-- after a text whose last line may not be whole
pub goes_on : (offset : ℕ) (text more : List ℕ)
    → Twin (fed (started offset) text).released (fed (started offset) (text ++ more)) (fed (resumed (point_of (fed (started offset) text))) (drop (at (resumed (point_of (fed (started offset) text))) - offset) (text ++ more)))
goes_on offset text more =
    let split : Split text = split_of text in
    let s : Machine = fed (started offset) split.whole in
    let e : fed (started offset) text ≡ record s { line = s.line ++ split.rest } =
    ap (λ (t : List ℕ). fed (started offset) t) (sym split.joined) ∙ fed_append split.whole split.rest (started offset) ∙ fed_open split.rest s split.open_end in
    let point : point_of s ≡ point_of (fed (started offset) text) = sym (ap (λ (m : Machine). point_of m) e) in
    let gone : s.released ≡ (fed (started offset) text).released = sym (ap (λ (m : Machine). m.released) e) in
    let bytes : split.whole ++ (split.rest ++ more) ≡ text ++ more = sym (append_assoc split.whole split.rest more) ∙ ap (λ (t : List ℕ). t ++ more) split.joined in
    let P : List ℕ → Type 0 = λ t. Twin s.released (fed (started offset) t) (fed (resumed (point_of s)) (drop (at (resumed (point_of s)) - offset) t)) in
    let Q : Point → Type 0 = λ q. Twin s.released (fed (started offset) (text ++ more)) (fed (resumed q) (drop (at (resumed q) - offset) (text ++ more))) in
    let R : List Message → Type 0 = λ g. Twin g (fed (started offset) (text ++ more)) (fed (resumed (point_of (fed (started offset) text))) (drop (at (resumed (point_of (fed (started offset) text))) - offset) (text ++ more))) in
    subst R gone (subst Q point (subst P bytes (from_whole offset split.whole (split.rest ++ more) split.lines)))

-- a sequencer that is made from a checkpoint goes on within the text
pub wants_within : (offset : ℕ) (text : List ℕ) → (offset ≤ at (resumed (point_of (fed (started offset) text)))) × (at (resumed (point_of (fed (started offset) text))) ≤ offset + length text)
wants_within offset text =
    let split : Split text = split_of text in
    let s : Machine = fed (started offset) split.whole in
    let e : fed (started offset) text ≡ record s { line = s.line ++ split.rest } =
    ap (λ (t : List ℕ). fed (started offset) t) (sym split.joined) ∙ fed_append split.whole split.rest (started offset) ∙ fed_open split.rest s split.open_end in
    let cut : StartsAt offset split.whole (resumed (point_of s)).begin = cut_of offset split.whole split.lines in
    let same : at (resumed (point_of (fed (started offset) text))) ≡ (resumed (point_of s)).begin =
    ap (λ (m : Machine). at (resumed (point_of m))) e ∙ omega arith in
    let prefix : length cut.prefix + length cut.back ≡ length split.whole = sym (length-append cut.prefix cut.back) ∙ ap (λ (t : List ℕ). length t) cut.joined in
    let whole : length split.whole + length split.rest ≡ length text = sym (length-append split.whole split.rest) ∙ ap (λ (t : List ℕ). length t) split.joined in
    (omega (arith, same, cut.place), omega (arith, same, cut.place, prefix, whole))

pub releases_the_rest : (offset : ℕ) (text more : List ℕ)
    → released_in (committed offset text) ++ (fed (resumed (point_of (fed (started offset) text))) (drop (at (resumed (point_of (fed (started offset) text))) - offset) (text ++ more))).released ≡ released_in (committed offset (text ++ more))
releases_the_rest offset text more =
    let t : Twin (fed (started offset) text).released (fed (started offset) (text ++ more)) (fed (resumed (point_of (fed (started offset) text))) (drop (at (resumed (point_of (fed (started offset) text))) - offset) (text ++ more))) = goes_on offset text more in
    ap (λ (ms : List Message). ms ++ (fed (resumed (point_of (fed (started offset) text))) (drop (at (resumed (point_of (fed (started offset) text))) - offset) (text ++ more))).released) (sym (fed_is_committed offset text))
    ∙ sym t.released ∙ fed_is_committed offset (text ++ more)

-- two sequencers at the same place have one checkpoint
twin_point : (g : List Message) (t s : Machine) → Twin g t s → point_of s ≡ point_of t
twin_point g t s a =
    let place : max s.until s.begin ≡ max t.until t.begin = omega (arith, a.passed_t, a.passed_s, a.begin) in
    ap (λ (n : ℕ). record { offset = n; producers = marks_of s.parts }) place
    ∙ ap (λ (x : Parts). record { offset = max t.until t.begin; producers = marks_of x }) (sym a.parts)

pub checkpoints_agree : (offset : ℕ) (text more : List ℕ)
    → point_of (fed (resumed (point_of (fed (started offset) text))) (drop (at (resumed (point_of (fed (started offset) text))) - offset) (text ++ more))) ≡ point_of (fed (started offset) (text ++ more))
checkpoints_agree offset text more = twin_point (fed (started offset) text).released (fed (started offset) (text ++ more)) (fed (resumed (point_of (fed (started offset) text))) (drop (at (resumed (point_of (fed (started offset) text))) - offset) (text ++ more))) (goes_on offset text more)

-- ---- a prefix of a text commits a prefix
committed_two : (ps qs : List Placed) (h : List Message) → committed_after h (ps ++ qs) ≡ committed_after h ps ++ committed_after (h ++ messages_alone ps) qs
committed_two [] qs h = ap (λ (g : List Message). committed_after g qs) (sym (append-nil h))
committed_two (p ∷ ps) qs h =
    let first : List Release = map (λ m. record { message = m; end = p.end }) (released (of_producer p.message.producer h) p.message) in
    ap (λ (rs : List Release). first ++ rs) (committed_two ps qs (h ++ p.message ∷ []) ∙ ap (λ (g : List Message). committed_after (h ++ p.message ∷ []) ps ++ committed_after g qs) (append_assoc h (p.message ∷ []) (messages_alone ps)))
    ∙ sym (append_assoc first (committed_after (h ++ p.message ∷ []) ps) (committed_after (h ++ p.message ∷ messages_alone ps) qs))

pub prefix_commits_prefix : (offset : ℕ) (prefix back : List ℕ) → IsPrefix (committed offset prefix) (committed offset (prefix ++ back))
prefix_commits_prefix offset prefix back =
    let h : IsPrefix (messages_of offset prefix) (messages_of offset (prefix ++ back)) = messages_prefix offset prefix back in
    (committed_after ([] ++ messages_alone (messages_of offset prefix)) h.0, sym (committed_two (messages_of offset prefix) h.0 []) ∙ ap (λ (ps : List Placed). committed_after [] ps) h.1)

-- ---- until the lines below its offset are read again, the checkpoint stays
mark_same : (f ack last : Option ℕ) (pending : List Message) (w e : Bool) (p : Placed)
    → mark_of (cond (is_from f p.begin && e) (cond w (record { ack = ack; first = Some (unwrap_or f p.begin); last = Some p.message.clock; pending = pending ++ p.message ∷ [] }) (record { ack = ack; first = f; last = last; pending = pending })) (record { ack = ack; first = f; last = last; pending = pending }))
    ≡ record { ack = ack; pending = f }
mark_same None ack last pending w e p = refl
mark_same (Some f) ack last pending w e p = both_same (is_from (Some f) p.begin && e) w ack last f pending p
  where
    both_same : (b w : Bool) (ack last : Option ℕ) (f : ℕ) (pending : List Message) (p : Placed)
        → mark_of (cond b (cond w (record { ack = ack; first = Some f; last = Some p.message.clock; pending = pending ++ p.message ∷ [] }) (record { ack = ack; first = Some f; last = last; pending = pending })) (record { ack = ack; first = Some f; last = last; pending = pending }))
        ≡ record { ack = ack; pending = Some f }
    both_same true true ack last f pending p = refl
    both_same true false ack last f pending p = refl
    both_same false w ack last f pending p = refl

mark_again : (part : Part) (p : Placed) → mark_of (part_again part p) ≡ mark_of part
mark_again part p = mark_same part.first part.ack part.last part.pending (does_wait part p.message) (not (is_end p.message)) p

marks_set : (es : Parts) (test : List ℕ → Bool) (p : Placed) → marks_of (set_value test es (part_again (unwrap_or (lookup test es) nothing) p)) ≡ marks_of es
marks_set [] test p = refl
marks_set (e ∷ es) test p = by_test (test e.0) (marks_set es test p)
  where
    by_test : (b : Bool) → marks_of (set_value test es (part_again (unwrap_or (lookup test es) nothing) p)) ≡ marks_of es
        → marks_of (cond b ((e.0, part_again (unwrap_or (cond b (Some e.1) (lookup test es)) nothing) p) ∷ es) (e ∷ set_value test es (part_again (unwrap_or (cond b (Some e.1) (lookup test es)) nothing) p))) ≡ marks_of (e ∷ es)
    by_test true ih = ap (λ (m : Mark). (e.0, m) ∷ marks_of es) (mark_again e.1 p)
    by_test false ih = ap (λ (ms : List (List ℕ × Mark)). (e.0, mark_of e.1) ∷ ms) ih

marks_read : (until : ℕ) (parts : Parts) (p : Placed) → p.begin < until → marks_of (parts_after until parts p) ≡ marks_of parts
marks_read until parts p below = rw (is_below p.begin until below) (marks_set parts (is_at (slice_cmp nat_cmp p.message.producer)) p)

-- what one piece keeps: the offset of the point, the marks, and that no line is taken back
record Holds (s t : Machine) : Type 0 where
  until : t.until ≡ s.until
  ahead : s.begin ≤ t.begin
  marks : t.begin ≤ s.until → marks_of t.parts ≡ marks_of s.parts

holds_message : (o : Option Message) (s : Machine) (len : ℕ) → 0 < len → Holds s (after_message o s len)
holds_message None s len some = record { until = refl; ahead = omega arith; marks = λ h. refl }
holds_message (Some m) s len some = record { until = refl; ahead = omega arith; marks = λ h. marks_read s.until s.parts (record { begin = s.begin; end = s.begin + len; message = m }) (omega (arith, h, some)) }

holds_byte : (b : Bool) (x : ℕ) (s : Machine) → Holds s (cond b (after_line s (s.line ++ x ∷ [])) (record s { line = s.line ++ x ∷ [] }))
holds_byte true x s = holds_message (message_of (s.line ++ x ∷ [])) s (length (s.line ++ x ∷ [])) (omega (arith, length-append s.line (x ∷ [])))
holds_byte false x s = record { until = refl; ahead = omega arith; marks = λ h. refl }

holds_both : (s t u : Machine) → Holds s t → Holds t u → Holds s u
holds_both s t u a b = record {
  until = b.until ∙ a.until;
  ahead = omega (arith, a.ahead, b.ahead);
  marks = λ (h : u.begin ≤ s.until). let x : u.begin ≤ t.until = omega (arith, h, a.until) in let y : t.begin ≤ s.until = omega (arith, h, b.ahead) in b.marks x ∙ a.marks y;
}

holds_fed : (xs : List ℕ) (s : Machine) → Holds s (fed s xs)
holds_fed [] s = record { until = refl; ahead = omega arith; marks = λ h. refl }
holds_fed (x ∷ xs) s = holds_both s (after_byte s x) (fed (after_byte s x) xs) (holds_byte (x == 10) x s) (holds_fed xs (after_byte s x))

marks_at : (marks : List (List ℕ × Mark)) → marks_of (parts_at marks) ≡ marks
marks_at [] = refl
marks_at (e ∷ marks) = ap (λ (ms : List (List ℕ × Mark)). e ∷ ms) (marks_at marks)

pub point_stays : (point : Point) (bytes : List ℕ) → (fed (resumed point) bytes).begin ≤ point.offset → point_of (fed (resumed point) bytes) ≡ point
point_stays point bytes early =
    let h : Holds (resumed point) (fed (resumed point) bytes) = holds_fed bytes (resumed point) in
    let place : max (fed (resumed point) bytes).until (fed (resumed point) bytes).begin ≡ point.offset = omega (arith, early, h.until) in
    ap (λ (n : ℕ). record { offset = n; producers = marks_of (fed (resumed point) bytes).parts }) place
    ∙ ap (λ (ms : List (List ℕ × Mark)). record { offset = point.offset; producers = ms }) (h.marks early ∙ marks_at point.producers)
