-- Whatever pieces a text is fed in, and whenever messages are taken, what is given and what is left is committed.
use Rattle.std.proofs.Common.{◌≡◌, ℕ, ◌+◌, List, [], ◌∷◌, ◌++◌, length, take, drop, refl, ap, sym, ◌∙◌, Bool, true, false, cond, Option, Some, None, append_assoc, append-nil, subst, ◌==◌}
use Rattle.std.proofs.lemmas.List.{take-append-drop}
use Rattle.gz_frame.specs.Messages.{Message}
use Rattle.gz_frame.specs.Text.{Placed, message_of, messages_of}
use Rattle.gz_sequencer.specs.Committed.{released_in, committed}
use Rattle.gz_sequencer.specs.Parts.{Parts, parts_after, releases}
use Rattle.gz_sequencer.specs.Machine.{Machine, after_message, after_line, after_byte, fed, taken, started}
use Rattle.gz_sequencer.specs.Calls.{Call, feeds, takes, after_calls, given, text_in}
use Rattle.gz_sequencer.proofs.PartHistories.{keeps_nothing, releases_are_committed}
use Rattle.gz_sequencer.proofs.Feeding.{fed_append}
use Rattle.gz_sequencer.proofs.FedTexts.{Follows, fed_follows}
use Rattle.gz_sequencer.proofs.Placement.{Placement, placement}

-- one sequencer is like another one from which these messages were taken
record Ahead (g : List Message) (t s : Machine) : Type 0 where
  until : t.until ≡ s.until
  begin : t.begin ≡ s.begin
  line : t.line ≡ s.line
  parts : t.parts ≡ s.parts
  released : t.released ≡ g ++ s.released

ahead_message : (o : Option Message) (g : List Message) (t s : Machine) (len : ℕ) → Ahead g t s → Ahead g (after_message o t len) (after_message o s len)
ahead_message None g t s len a = record { until = a.until; begin = ap (λ (n : ℕ). n + len) a.begin; line = refl; parts = a.parts; released = a.released }
ahead_message (Some m) g t s len a =
    let p : Placed = record { begin = s.begin; end = s.begin + len; message = m } in
    record {
      until = a.until;
      begin = ap (λ (n : ℕ). n + len) a.begin;
      line = refl;
      parts = ap (λ (n : ℕ). parts_after t.until t.parts (record { begin = n; end = n + len; message = m })) a.begin
          ∙ ap (λ (u : ℕ). parts_after u t.parts p) a.until ∙ ap (λ (ps : Parts). parts_after s.until ps p) a.parts;
      released = ap (λ (n : ℕ). t.released ++ releases t.until t.parts (record { begin = n; end = n + len; message = m })) a.begin
          ∙ ap (λ (u : ℕ). t.released ++ releases u t.parts p) a.until ∙ ap (λ (ps : Parts). t.released ++ releases s.until ps p) a.parts
          ∙ ap (λ (ms : List Message). ms ++ releases s.until s.parts p) a.released ∙ append_assoc g s.released (releases s.until s.parts p);
    }

ahead_more : (g h : List Message) (t u s : Machine) → g ≡ h → t ≡ u → Ahead g t s → Ahead h u s
ahead_more g h t u s e f a = let P : List Message → Type 0 = λ k. Ahead k u s in let Q : Machine → Type 0 = λ v. Ahead g v s in subst P e (subst Q f a)

ahead_byte : (b : Bool) (x : ℕ) (g : List Message) (t s : Machine) → Ahead g t s
    → Ahead g (cond b (after_line t (t.line ++ x ∷ [])) (record t { line = t.line ++ x ∷ [] })) (cond b (after_line s (s.line ++ x ∷ [])) (record s { line = s.line ++ x ∷ [] }))
ahead_byte true x g t s a =
    ahead_more g g (after_line t (s.line ++ x ∷ [])) (after_line t (t.line ++ x ∷ [])) (after_line s (s.line ++ x ∷ [])) refl
    (ap (λ (l : List ℕ). after_line t (l ++ x ∷ [])) (sym a.line))
    (ahead_message (message_of (s.line ++ x ∷ [])) g t s (length (s.line ++ x ∷ [])) a)
ahead_byte false x g t s a = record { until = a.until; begin = a.begin; line = ap (λ (l : List ℕ). l ++ x ∷ []) a.line; parts = a.parts; released = a.released }

ahead_fed : (xs : List ℕ) (g : List Message) (t s : Machine) → Ahead g t s → Ahead g (fed t xs) (fed s xs)
ahead_fed [] g t s a = a
ahead_fed (x ∷ xs) g t s a = ahead_fed xs g (after_byte t x) (after_byte s x) (ahead_byte (x == 10) x g t s a)

ahead_taken : (g : List Message) (t s : Machine) → Ahead g t s → Ahead (g ++ take 1 s.released) t (taken s)
ahead_taken g t s a = record {
  until = a.until;
  begin = a.begin;
  line = a.line;
  parts = a.parts;
  released = a.released ∙ sym (append_assoc g (take 1 s.released) (drop 1 s.released) ∙ ap (λ (ms : List Message). g ++ ms) (take-append-drop 1 s.released));
}

ahead_calls : (calls : List Call) (g : List Message) (t s : Machine) → Ahead g t s → Ahead (g ++ given calls s) (fed t (text_in calls)) (after_calls calls s)
ahead_calls [] g t s a = ahead_more g (g ++ []) t t s (sym (append-nil g)) refl a
ahead_calls ((feeds bytes) ∷ calls) g t s a =
    ahead_more (g ++ given calls (fed s bytes)) (g ++ given calls (fed s bytes)) (fed (fed t bytes) (text_in calls)) (fed t (bytes ++ text_in calls)) (after_calls calls (fed s bytes))
    refl (sym (fed_append bytes (text_in calls) t)) (ahead_calls calls g (fed t bytes) (fed s bytes) (ahead_fed bytes g t s a))
ahead_calls (takes ∷ calls) g t s a =
    ahead_more ((g ++ take 1 s.released) ++ given calls (taken s)) (g ++ (take 1 s.released ++ given calls (taken s))) (fed t (text_in calls)) (fed t (text_in calls)) (after_calls calls (taken s))
    (append_assoc g (take 1 s.released) (given calls (taken s))) refl (ahead_calls calls (g ++ take 1 s.released) t (taken s) (ahead_taken g t s a))

-- a sequencer that was fed a text from its start has released what is committed
pub fed_is_committed : (offset : ℕ) (text : List ℕ) → (fed (started offset) text).released ≡ released_in (committed offset text)
fed_is_committed offset text =
    let f : Follows (started offset) (fed (started offset) text) (messages_of offset text) = fed_follows text (started offset) refl in
    let p : Placement offset text (messages_of offset text) = placement text [] offset refl in
    f.released ∙ releases_are_committed (messages_of offset text) [] offset [] p.from (λ q. keeps_nothing)

pub given_is_committed : (offset : ℕ) (calls : List Call) → given calls (started offset) ++ (after_calls calls (started offset)).released ≡ released_in (committed offset (text_in calls))
given_is_committed offset calls =
    let a : Ahead (given calls (started offset)) (fed (started offset) (text_in calls)) (after_calls calls (started offset)) =
    ahead_calls calls [] (started offset) (started offset) (record { until = refl; begin = refl; line = refl; parts = refl; released = refl }) in
    sym a.released ∙ fed_is_committed offset (text_in calls)
