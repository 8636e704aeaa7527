-- The primary's head, and what raises it: what the other members hold, and an entry that it puts itself. The least of all
-- held ends is where the shortest of the held prefixes ends, and the head rises on both sides or on none, since behind the
-- image stand entries alone.
use Rattle.std.proofs.Common.{◌≡◌, ℕ, ◌<◌, ◌≤◌, List, [], ◌∷◌, ◌++◌, length, take, drop, ap, sym, ◌∙◌, arith, eqb, subst, inl, inr}
use Rattle.std.specs.Prelude.{max, nat_lt, Bool, true, false, if◌then◌else◌}
use Rattle.std.specs.Str.{bytes_eq}
use Rattle.std.proofs.lemmas.Bool.{cases_lt, lt-ltb, le-ltb}
use Rattle.gz_wire.specs.declared.msg.Msg.TheVariants as wire
use Rattle.gz_spool.specs.Spools.{raised}
use Rattle.gz_replica.specs.Member as full
use Rattle.gz_replica.specs.declared.part.Part.TheVariants as full_part
use Rattle.gz_replica.specs.declared.part.Route as full_routes
use Rattle.gz_replica.specs.Slots as full_slots
use Rattle.gz_replica.specs.Primary as primary
use Rattle.gz_lineage.specs.Lists.{In, Each}
use Rattle.gz_lineage.specs.Marks.{Mark, IsPut, end_of_marks}
use Rattle.gz_lineage.specs.Nodes as reduced
use Rattle.gz_lineage.specs.Rules as rules
use Rattle.gz_carry.specs.Seen.{IsNumbering, PlaceSeen, Fits, RouteSeen, HeldSeen, StepSeen}
use Rattle.gz_carry.proofs.Ends.{end_more, end_less, end_whole}
use Rattle.gz_carry.proofs.Fitting.{place_pushed, fits_raised, min_ends, max_ends}
use Rattle.gz_carry.proofs.Sends.{in_right, each_seen}

-- ---- what all hold

-- the least held end is at most the own one
pub least_low : (l : ℕ) (held : List (ℕ × ℕ)) → rules.least l held ≤ l
least_low l [] = omega arith
least_low l (q ∷ qs) = omega (arith, least_low l qs)

-- the least held end is that of the shortest held prefix
pub least_seen : (num : List ℕ → ℕ) (xs : List Mark) (held : List (List ℕ × ℕ)) (others : List (ℕ × ℕ)) → HeldSeen num xs held others →
    full_slots.least (end_of_marks xs) held ≡ end_of_marks (take (rules.least (length xs) others) xs)
least_seen num xs [] [] h = sym (end_whole xs)
least_seen num xs (p ∷ held) (q ∷ others) h = rw (h.1.ends, least_seen num xs held others h.2) (min_ends q.1 (rules.least (length xs) others) xs)
least_seen num xs [] (q ∷ others) h = absurd h
least_seen num xs (p ∷ held) [] h = absurd h

-- a longer spool has the same prefixes
pub held_pushed : (num : List ℕ → ℕ) (xs : List Mark) (x : Mark) (held : List (List ℕ × ℕ)) (others : List (ℕ × ℕ)) → HeldSeen num xs held others → HeldSeen num (xs ++ x ∷ []) held others
held_pushed num xs x [] [] h = tt
held_pushed num xs x (p ∷ held) (q ∷ others) h = (h.0, place_pushed xs x p.1 q.1 h.1, held_pushed num xs x held others h.2)
held_pushed num xs x [] (q ∷ others) h = absurd h
held_pushed num xs x (p ∷ held) [] h = absurd h

-- a member holds more: the greater end is that of the longer prefix
module _ (num : List ℕ → ℕ) (same : IsNumbering num) (xs : List Mark) (m : List ℕ) (end k : ℕ) (at : PlaceSeen xs end k) where
  -- the later of two places
  later : (old reach : ℕ) → PlaceSeen xs old reach → PlaceSeen xs (max old end) (max reach k)
  later old reach p = record { within = omega (arith, p.within, at.within); ends = ap (λ x. max x end) p.ends ∙ ap (λ x. max (end_of_marks (take reach xs)) x) at.ends ∙ max_ends reach k xs }

  -- the ends that are known after it are seen
  pub held_raised_seen : (held : List (List ℕ × ℕ)) (others : List (ℕ × ℕ)) → HeldSeen num xs held others → HeldSeen num xs (full_slots.held_raised m end held) (rules.raised (num m) k others)
  held_raised_seen [] [] h = tt
  held_raised_seen (p ∷ held) (q ∷ others) h =
      let rest = held_raised_seen held others h.2 in
      let test : bytes_eq m p.0 ≡ eqb (num m) q.0 = same m p.0 ∙ ap (λ n. eqb (num m) n) (sym h.0) in
      rw test (one (eqb (num m) q.0) rest)
    where
      one : (b : Bool) → HeldSeen num xs (full_slots.held_raised m end held) (rules.raised (num m) k others) →
          HeldSeen num xs ((if b then (p.0, max p.1 end) else p) ∷ full_slots.held_raised m end held) ((if b then (q.0, max q.1 k) else q) ∷ rules.raised (num m) k others)
      one true rest = (h.0, later p.1 q.1 h.1, rest)
      one false rest = (h.0, h.1, rest)
  held_raised_seen [] (q ∷ others) h = absurd h
  held_raised_seen (p ∷ held) [] h = absurd h

-- ---- the head rises on both sides, or on none

module _ (num : List ℕ → ℕ) (j me : List ℕ) (lists : ℕ → List Mark) (m : full.Member) (n : reduced.Node) (r : full_routes.Route) (s : reduced.Route) (held : List (List ℕ × ℕ)) (others : List (ℕ × ℕ)) (queue : List ℕ) (b end k : ℕ)
    (promised : n.promised ≡ m.promised) (adopted : n.adopted ≡ m.adopted) (fits : Fits m.spool n.spool n.head) (route : RouteSeen num me r s) (told : HeldSeen num n.spool held others)
    (plain : Each IsPut (drop b n.spool)) (low : b ≤ n.head) (at : PlaceSeen n.spool end k) (whole : lists r.epoch ≡ n.spool) where
  -- it rises, and the others are told
  rises : n.head < k → StepSeen num lists me (primary.tell_head j r (record m { spool = raised end m.spool; part = full_part.Open r held }))
      (record { node = record n { head = k; part = reduced.Open s others (rules.waiting k queue) }; sends = rules.answers (num me) s.epoch k queue ++ rules.to_each (num me) (reduced.Head s.epoch k) s.others })
  rises l =
      let top : max n.head k ≡ k = omega arith in
      let heads = rules.to_each (num me) (reduced.Head s.epoch k) s.others in
      let said = rules.answers (num me) s.epoch k queue ++ heads in
      let spool : Fits (raised end m.spool) n.spool k = subst (λ h. Fits (raised end m.spool) n.spool h) top (fits_raised m.spool n.spool n.head end k fits at) in
      record {
        member = record { promised = promised; adopted = adopted; spool = spool; part = (route, told) };
        sends = each_seen num lists me (wire.Head j r.epoch (raised end m.spool).head m.spool.begin) (reduced.Head s.epoch k) said
            (λ to i. (k, subst (λ e. In (rules.letter (num me) (num to) (reduced.Head e k)) said) route.epoch i, subst (λ xs. PlaceSeen xs (raised end m.spool).head k) (sym whole) spool.heads))
            r.others (λ l i. in_right l (rules.answers (num me) s.epoch k queue) heads (subst (λ ms. In l (rules.to_each (num me) (reduced.Head s.epoch k) ms)) (sym route.others) i));
      }

  -- Where the head is to be greater it rises; otherwise the part alone is another one.
  pub with_head_seen : StepSeen num lists me (primary.with_head j m r held end) (rules.with_head (num me) n s others queue k)
  with_head_seen = elim (cases_lt n.head k) [
    | inl l ↦ (let t : nat_lt n.head k ≡ true = lt-ltb n.head k l in
        let u : nat_lt m.spool.head end ≡ true = lt-ltb m.spool.head end (omega (arith, fits.heads.ends, at.ends, end_less b n.head k n.spool plain low l at.within)) in
        rw (t, u) (rises l))
    | inr l ↦ (let t : nat_lt n.head k ≡ false = le-ltb n.head k l in
        let u : nat_lt m.spool.head end ≡ false = le-ltb m.spool.head end (omega (arith, fits.heads.ends, at.ends, end_more k n.head n.spool l)) in
        rw (t, u) (record { member = record { promised = promised; adopted = adopted; spool = fits; part = (route, told) }; sends = tt }))
  ]
