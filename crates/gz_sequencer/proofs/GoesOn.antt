-- A sequencer that is made from a checkpoint goes on where the other one stood.
use Rattle.std.proofs.Common.{◌≡◌, ℕ, ◌+◌, ◌<◌, ◌≤◌, ◌==◌, List, [], ◌∷◌, ◌++◌, length, refl, ap, sym, ◌∙◌, subst, Bool, true, false, cond, Option, Some, None, arith, append_assoc}
use Rattle.std.proofs.lemmas.List.Elements.{filter-append}
use Rattle.std.proofs.lemmas.Map.Made.{keys_of-map_values}
use Rattle.std.specs.Map.{keys_of}
use Rattle.std.specs.Str.{bytes_eq}
use Rattle.gz_model.specs.Lines.{newline}
use Rattle.gz_frame.specs.Messages.{Message}
use Rattle.gz_frame.specs.Text.{Placed, message_of, last_of, is_whole}
use Rattle.gz_sequencer.specs.Parts.{Part, Parts, nothing, part_of, parts_after, parts_after_all, releases, releases_of_all}
use Rattle.gz_sequencer.specs.Machine.{Machine, after_message, after_line, after_byte, fed, mark_of, part_at}
use Rattle.gz_sequencer.proofs.PartLookups.{placed_of, part_after_all, part_of_after_all}
use Rattle.gz_sequencer.proofs.PartHistories.{AllFrom}
use Rattle.gz_sequencer.proofs.Placement.{AllBelow, Ascending, last_of_append, eq_newline}
use Rattle.gz_sequencer.proofs.Again.{is_below, not_below, Idle, idle_none, idle_before, idle_run, run_append, comes_back}
use Rattle.gz_sequencer.proofs.SameParts.{order_run, order_start, keys_again, same_parts}
use Rattle.gz_sequencer.proofs.Marks.{marks_of, parts_at, part_of_marks, AtMost}

-- ---- the messages of one producer stand as those of all do
from_case : (b : Bool) (p : Placed) (ps : List Placed) (n : ℕ) → n ≤ p.begin → AllFrom n ps → AllFrom n (cond b (p ∷ ps) ps)
from_case true p ps n h all = (h, all)
from_case false p ps n h all = all

from_of : (ps : List Placed) (q : List ℕ) (n : ℕ) → AllFrom n ps → AllFrom n (placed_of q ps)
from_of [] q n all = tt
from_of (p ∷ ps) q n all = from_case (bytes_eq p.message.producer q) p (placed_of q ps) n all.0 (from_of ps q n all.1)

below_case : (b : Bool) (p : Placed) (ps : List Placed) (n : ℕ) → p.begin < n → AllBelow n ps → AllBelow n (cond b (p ∷ ps) ps)
below_case true p ps n h all = (h, all)
below_case false p ps n h all = all

below_of : (ps : List Placed) (q : List ℕ) (n : ℕ) → AllBelow n ps → AllBelow n (placed_of q ps)
below_of [] q n all = tt
below_of (p ∷ ps) q n all = below_case (bytes_eq p.message.producer q) p (placed_of q ps) n all.0 (below_of ps q n all.1)

ascending_case : (b : Bool) (p : Placed) (ps : List Placed) → AllFrom (p.begin + 1) ps → Ascending ps → Ascending (cond b (p ∷ ps) ps)
ascending_case true p ps h all = (h, all)
ascending_case false p ps h all = all

ascending_of : (ps : List Placed) (q : List ℕ) → Ascending ps → Ascending (placed_of q ps)
ascending_of [] q all = tt
ascending_of (p ∷ ps) q all = ascending_case (bytes_eq p.message.producer q) p (placed_of q ps) (from_of ps q (p.begin + 1) all.0) (ascending_of ps q all.1)

-- the first message that waits isn't among messages below all first ones
idle_below : (o : Option ℕ) (ps : List Placed) (n : ℕ) → AtMost n o → AllBelow n ps → Idle o ps
idle_below None ps n h below = idle_none ps
idle_below (Some f) ps n h below = idle_before ps n f h below

-- what is kept of a producer, where only the messages from the least offset on are read again
one_again : (low until least : ℕ) (prefix back : List Placed) → Ascending (prefix ++ back) → AllFrom low (prefix ++ back) → AllBelow until (prefix ++ back) → AllBelow until prefix → AllBelow least prefix
    → AtMost least (part_after_all low nothing (prefix ++ back)).first
    → part_after_all until (part_at (mark_of (part_after_all low nothing (prefix ++ back)))) back ≡ part_after_all low nothing (prefix ++ back)
one_again low until least prefix back ascending from below below_prefix below_least first =
    let part : Part = part_after_all low nothing (prefix ++ back) in
    let z : Part = part_at (mark_of part) in
    let idle : part_after_all until z prefix ≡ z = idle_run prefix until z (idle_below part.first prefix least first below_least) below_prefix in
    ap (λ (x : Part). part_after_all until x back) (sym idle) ∙ sym (run_append prefix back until z) ∙ comes_back low until (prefix ++ back) ascending from below

-- what is kept of all producers comes back
pub all_again : (low until least : ℕ) (prefix back : List Placed) → Ascending (prefix ++ back) → AllFrom low (prefix ++ back) → AllBelow until (prefix ++ back) → AllBelow until prefix → AllBelow until back → AllBelow least prefix
    → ((q : List ℕ) → AtMost least (part_of q (parts_after_all low [] (prefix ++ back))).first)
    → parts_after_all until (parts_at (marks_of (parts_after_all low [] (prefix ++ back)))) back ≡ parts_after_all low [] (prefix ++ back)
all_again low until least prefix back ascending from below below_prefix below_back below_least first =
    let parts : Parts = parts_after_all low [] (prefix ++ back) in
    let again : Parts = parts_after_all until (parts_at (marks_of parts)) back in
    let keys : keys_of parts ≡ keys_of again =
    sym (keys_again back until (parts_at (marks_of parts)) below_back ∙ keys_of-map_values (λ m. part_at m) (marks_of parts) ∙ keys_of-map_values (λ x. mark_of x) parts) in
    sym (same_parts parts again (order_run (prefix ++ back) low [] from order_start) keys (λ q.
    let split : placed_of q (prefix ++ back) ≡ placed_of q prefix ++ placed_of q back = filter-append (λ p. bytes_eq p.message.producer q) prefix back in
    let whole : part_of q parts ≡ part_after_all low nothing (placed_of q prefix ++ placed_of q back) = part_of_after_all (prefix ++ back) q low [] ∙ ap (λ (ps : List Placed). part_after_all low nothing ps) split in
    let r : Ascending (placed_of q prefix ++ placed_of q back) = subst (λ (ps : List Placed). Ascending ps) split (ascending_of (prefix ++ back) q ascending) in
    let f : AllFrom low (placed_of q prefix ++ placed_of q back) = subst (λ (ps : List Placed). AllFrom low ps) split (from_of (prefix ++ back) q low from) in
    let b : AllBelow until (placed_of q prefix ++ placed_of q back) = subst (λ (ps : List Placed). AllBelow until ps) split (below_of (prefix ++ back) q until below) in
    let m : AtMost least (part_after_all low nothing (placed_of q prefix ++ placed_of q back)).first = subst (λ (x : Part). AtMost least x.first) whole (first q) in
    let one : part_after_all until (part_at (mark_of (part_after_all low nothing (placed_of q prefix ++ placed_of q back)))) (placed_of q back) ≡ part_after_all low nothing (placed_of q prefix ++ placed_of q back) =
    one_again low until least (placed_of q prefix) (placed_of q back) r f b (below_of prefix q until below_prefix) (below_of prefix q least below_least) m in
    let read : part_of q again ≡ part_after_all until (part_at (mark_of (part_of q parts))) (placed_of q back) =
    part_of_after_all back q until (parts_at (marks_of parts)) ∙ ap (λ (x : Part). part_after_all until x (placed_of q back)) (part_of_marks q parts) in
    sym (read ∙ ap (λ (x : Part). part_after_all until (part_at (mark_of x)) (placed_of q back)) whole ∙ one ∙ sym whole)))

-- messages that are read again release nothing
pub releases_none : (ps : List Placed) (until : ℕ) (parts : Parts) → AllBelow until ps → releases_of_all until parts ps ≡ []
releases_none [] until parts below = refl
releases_none (p ∷ ps) until parts below =
    let first : releases until parts p ≡ [] = rw (is_below p.begin until below.0) refl in
    ap (λ (ms : List Message). ms ++ releases_of_all until (parts_after until parts p) ps) first ∙ releases_none ps until (parts_after until parts p) below.1

-- ---- two sequencers that stand at the same place of a text
pub record Twin (g : List Message) (t s : Machine) : Type 0 where
  pub passed_t : t.until ≤ t.begin
  pub passed_s : s.until ≤ s.begin
  pub begin : t.begin ≡ s.begin
  pub line : t.line ≡ s.line
  pub parts : t.parts ≡ s.parts
  pub released : t.released ≡ g ++ s.released

twin_parts : (begin len u v : ℕ) (m : Message) (parts : Parts) → u ≤ begin → v ≤ begin → parts_after u parts (record { begin = begin; end = begin + len; message = m }) ≡ parts_after v parts (record { begin = begin; end = begin + len; message = m })
twin_parts begin len u v m parts a b = rw (not_below begin u a, not_below begin v b) refl

twin_releases : (begin len u v : ℕ) (m : Message) (parts : Parts) → u ≤ begin → v ≤ begin → releases u parts (record { begin = begin; end = begin + len; message = m }) ≡ releases v parts (record { begin = begin; end = begin + len; message = m })
twin_releases begin len u v m parts a b = rw (not_below begin u a, not_below begin v b) refl

twin_message : (o : Option Message) (g : List Message) (t s : Machine) (len : ℕ) → Twin g t s → Twin g (after_message o t len) (after_message o s len)
twin_message None g t s len a = record { passed_t = omega (arith, a.passed_t); passed_s = omega (arith, a.passed_s); begin = ap (λ (n : ℕ). n + len) a.begin; line = refl; parts = a.parts; released = a.released }
twin_message (Some m) g t s len a =
    let p : Placed = record { begin = s.begin; end = s.begin + len; message = m } in
    let low : t.until ≤ s.begin = omega (arith, a.passed_t, a.begin) in
    record {
      passed_t = omega (arith, a.passed_t);
      passed_s = omega (arith, a.passed_s);
      begin = ap (λ (n : ℕ). n + len) a.begin;
      line = refl;
      parts = ap (λ (n : ℕ). parts_after t.until t.parts (record { begin = n; end = n + len; message = m })) a.begin
          ∙ ap (λ (ps : Parts). parts_after t.until ps p) a.parts ∙ twin_parts s.begin len t.until s.until m s.parts low a.passed_s;
      released = ap (λ (n : ℕ). t.released ++ releases t.until t.parts (record { begin = n; end = n + len; message = m })) a.begin
          ∙ ap (λ (ps : Parts). t.released ++ releases t.until ps p) a.parts
          ∙ ap (λ (ms : List Message). t.released ++ ms) (twin_releases s.begin len t.until s.until m s.parts low a.passed_s)
          ∙ ap (λ (ms : List Message). ms ++ releases s.until s.parts p) a.released ∙ append_assoc g s.released (releases s.until s.parts p);
    }

twin_byte : (b : Bool) (x : ℕ) (g : List Message) (t s : Machine) → Twin g t s
    → Twin g (cond b (after_line t (t.line ++ x ∷ [])) (record t { line = t.line ++ x ∷ [] })) (cond b (after_line s (s.line ++ x ∷ [])) (record s { line = s.line ++ x ∷ [] }))
twin_byte true x g t s a =
    let P : Machine → Type 0 = λ u. Twin g u (after_line s (s.line ++ x ∷ [])) in
    subst P (ap (λ (l : List ℕ). after_line t (l ++ x ∷ [])) (sym a.line)) (twin_message (message_of (s.line ++ x ∷ [])) g t s (length (s.line ++ x ∷ [])) a)
twin_byte false x g t s a = record { passed_t = a.passed_t; passed_s = a.passed_s; begin = a.begin; line = ap (λ (l : List ℕ). l ++ x ∷ []) a.line; parts = a.parts; released = a.released }

pub twin_fed : (xs : List ℕ) (g : List Message) (t s : Machine) → Twin g t s → Twin g (fed t xs) (fed s xs)
twin_fed [] g t s a = a
twin_fed (x ∷ xs) g t s a = twin_fed xs g (after_byte t x) (after_byte s x) (twin_byte (x == 10) x g t s a)

-- ---- whole lines leave no line
line_message : (o : Option Message) (s : Machine) (len : ℕ) → (after_message o s len).line ≡ []
line_message None s len = refl
line_message (Some m) s len = refl

no_line : (b : Bool) (x : ℕ) (s : Machine) → b ≡ true → (cond b (after_line s (s.line ++ x ∷ [])) (record s { line = s.line ++ x ∷ [] })).line ≡ []
no_line true x s h = line_message (message_of (s.line ++ x ∷ [])) s (length (s.line ++ x ∷ []))
no_line false x s h = cc

no_line_behind : (xs : List ℕ) (x : ℕ) (s : Machine) → (last_of x xs == newline) ≡ true → (fed s (x ∷ xs)).line ≡ []
no_line_behind [] x s whole = no_line (x == 10) x s whole
no_line_behind (y ∷ ys) x s whole = no_line_behind ys y (after_byte s x) whole

pub whole_line : (text : List ℕ) (s : Machine) → s.line ≡ [] → is_whole text ≡ true → (fed s text).line ≡ []
whole_line [] s line whole = line
whole_line (x ∷ xs) s line whole = no_line_behind xs x s whole

pub back_last : (prefix back : List ℕ) (b : ℕ) → is_whole prefix ≡ true → is_whole (prefix ++ back) ≡ true → is_whole back ≡ true
back_last prefix back b whole both =
    let split : last_of newline (prefix ++ back) ≡ last_of (last_of newline prefix) back = last_of_append prefix back newline in
    let first : last_of newline prefix ≡ newline = eq_newline (last_of newline prefix) whole in
    ap (λ (n : ℕ). last_of n back == newline) (sym first) ∙ ap (λ (n : ℕ). n == newline) (sym split) ∙ both
