-- What is sent: to each, as one letter to each; before a rule's own sends; and on either branch of a test that is the same
-- on both sides. What is seen stays seen when more is said and lists get longer.
use Rattle.std.proofs.Common.{◌≡◌, ℕ, arith, List, [], ◌∷◌, ◌++◌, refl, ap, sym, ◌∙◌, inl, inr}
use Rattle.std.specs.Prelude.{map, Bool, true, false, if◌then◌else◌}
use Rattle.gz_wire.specs.declared.msg.Msg.{Msg}
use Rattle.gz_wire.specs.declared.msg.Send.{Send}
use Rattle.gz_wire.specs.declared.msg.Msg.TheVariants as wire
use Rattle.gz_replica.specs.Member.{to_each}
use Rattle.gz_replica.specs.Member as full
use Rattle.gz_lineage.specs.Prefix.{IsPrefix}
use Rattle.gz_lineage.specs.Lists.{In}
use Rattle.gz_lineage.specs.Marks.{Mark, end_of_marks}
use Rattle.gz_lineage.specs.Nodes.{Letter, Message}
use Rattle.gz_lineage.specs.Nodes as reduced
use Rattle.gz_lineage.specs.Rules.{letter}
use Rattle.gz_lineage.specs.Rules as rules
use Rattle.gz_lineage.proofs.Prefixes.{pre_take_of, pre_len}
use Rattle.gz_lineage.proofs.Listed.{each_append, in_append_left}
use Rattle.gz_carry.specs.Seen.{PlaceSeen, MessageSeen, SendsSeen, StepSeen}

-- a member of the second list is one of both in a row
pub in_right : {A : Type 0} (x : A) (xs ys : List A) → In x ys → In x (xs ++ ys)
in_right x [] ys i = i
in_right x (y ∷ xs) ys i = inr (in_right x xs ys i)

-- a message to each is seen, if it is wherever its letter was said, and the letter was said to each
pub each_seen : (num : List ℕ → ℕ) (lists : ℕ → List Mark) (me : List ℕ) (msg : Msg) (body : Message) (said : List Letter) →
    ((to : List ℕ) → In (letter (num me) (num to) body) said → MessageSeen num lists said me to msg) →
    (ms : List (List ℕ)) → ((l : Letter) → In l (rules.to_each (num me) body (map num ms)) → In l said) → SendsSeen num lists said me (to_each msg ms)
each_seen num lists me msg body said f [] i = tt
each_seen num lists me msg body said f (m ∷ ms) i = (f m (i (letter (num me) (num m) body) (inl refl)), each_seen num lists me msg body said f ms (λ l x. i l (inr x)))

-- ---- what stays seen

-- what is seen among some letters is seen among more
pub seen_more : (num : List ℕ → ℕ) (lists : ℕ → List Mark) (said more : List Letter) (me to : List ℕ) → ((l : Letter) → In l said → In l more) →
    (msg : Msg) → MessageSeen num lists said me to msg → MessageSeen num lists more me to msg
seen_more num lists said more me to f (wire.Promise j e) a = f _ a
seen_more num lists said more me to f (wire.Promised j e adopted image) a = (a.0, f _ a.1, a.2)
seen_more num lists said more me to f (wire.Adopt j e image) a = (a.0, f _ a.1, a.2)
seen_more num lists said more me to f (wire.Adopted j e end) a = (a.0, f _ a.1)
seen_more num lists said more me to f (wire.Replicate j e offset entry head) a =
    (a.0, a.1, a.2, f _ a.3, a.4, a.5, a.6, elim a.7 [ inl x ↦ inl x | inr x ↦ inr (f _ x) ])
seen_more num lists said more me to f (wire.Held j e end) a = (a.0, f _ a.1, a.2)
seen_more num lists said more me to f (wire.Head j e head begin) a = (a.0, f _ a.1, a.2)
seen_more num lists said more me to f (wire.StoreList req j) a = (a.0, f _ a.1)
seen_more num lists said more me to f (wire.KsTxn req compares writes) a = (a.0, a.1, a.2, f _ a.3)
seen_more num lists said more me to f msg a = a

-- a place of a list is one of a longer list
pub place_more : {xs ys : List Mark} → IsPrefix xs ys → (offset k : ℕ) → PlaceSeen xs offset k → PlaceSeen ys offset k
place_more {xs = xs} {ys = ys} p offset k at = record {
  within = omega (arith, at.within, pre_len p);
  ends = at.ends ∙ ap end_of_marks (sym (pre_take_of k p at.within));
}

-- what is seen over the lists of epochs is seen when these have got longer
pub lists_more : (num : List ℕ → ℕ) (lists more : ℕ → List Mark) (said : List Letter) (me to : List ℕ) → ((e : ℕ) → IsPrefix (lists e) (more e)) →
    (msg : Msg) → MessageSeen num lists said me to msg → MessageSeen num more said me to msg
lists_more num lists more said me to f (wire.Replicate j e offset entry head) a =
    (a.0, a.1, a.2, a.3, place_more (f e) offset a.0 a.4, place_more (f e) head a.2 a.5, a.6, a.7)
lists_more num lists more said me to f (wire.Held j e end) a = (a.0, a.1, place_more (f e) end a.0 a.2)
lists_more num lists more said me to f (wire.Head j e head begin) a = (a.0, a.1, place_more (f e) head a.0 a.2)
lists_more num lists more said me to f msg a = a

-- both
pub stays_seen : (num : List ℕ → ℕ) (lists more : ℕ → List Mark) (said later : List Letter) (me to : List ℕ) (msg : Msg) → ((e : ℕ) → IsPrefix (lists e) (more e)) → ((l : Letter) → In l said → In l later) →
    MessageSeen num lists said me to msg → MessageSeen num more later me to msg
stays_seen num lists more said later me to msg f g a = lists_more num lists more later me to f msg (seen_more num lists said later me to g msg a)

-- so what is sent is
pub sends_more : (num : List ℕ → ℕ) (lists : ℕ → List Mark) (said more : List Letter) (me : List ℕ) → ((l : Letter) → In l said → In l more) →
    (ss : List Send) → SendsSeen num lists said me ss → SendsSeen num lists more me ss
sends_more num lists said more me f [] a = tt
sends_more num lists said more me f (s ∷ ss) a = (seen_more num lists said more me s.to f s.msg a.0, sends_more num lists said more me f ss a.1)

-- ---- steps

-- sends before those of a step
pub step_after : (num : List ℕ → ℕ) (lists : ℕ → List Mark) (me : List ℕ) (ss : List Send) (ls : List Letter) (out : full.Outcome) (step : reduced.Outcome) →
    SendsSeen num lists ls me ss → StepSeen num lists me out step → StepSeen num lists me (full.after_sends ss out) (rules.after_sends ls step)
step_after num lists me ss ls out step a s = record {
  member = s.member;
  sends = each_append (λ (x : Send). MessageSeen num lists (ls ++ step.sends) me x.to x.msg) ss out.sends
      (sends_more num lists ls (ls ++ step.sends) me (λ l i. in_append_left ls step.sends l i) ss a)
      (sends_more num lists step.sends (ls ++ step.sends) me (λ l i. in_right l ls step.sends i) out.sends s.sends);
}

-- the same test on both sides
pub step_if : (num : List ℕ → ℕ) (lists : ℕ → List Mark) (me : List ℕ) (b : Bool) (a c : full.Outcome) (d e : reduced.Outcome) →
    (b ≡ true → StepSeen num lists me a d) → (b ≡ false → StepSeen num lists me c e) → StepSeen num lists me (if b then a else c) (if b then d else e)
step_if num lists me true a c d e f g = f refl
step_if num lists me false a c d e f g = g refl
