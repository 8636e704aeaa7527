-- The choice: the full one compares the ends of images, the reduced one their counts. Two reports of one adopted epoch
-- are prefixes of its list, each with all of its image, so the longer of them ends later, and the same one is chosen.
use Rattle.std.proofs.Common.{◌≡◌, ℕ, List, [], ◌∷◌, length, take, refl, ap, sym, ◌∙◌, subst, inl, inr, Option, Some, None, eqb}
use Rattle.std.specs.Prelude.{◌==◌, ◌&&◌, ◌||◌, Bool, true, false, if◌then◌else◌, nat_lt, nat_le}
use Rattle.std.proofs.lemmas.Bool.{eqb-true, cases_lt, cond_both, lt-ltb, le-ltb}
use Rattle.gz_spool.specs.Spools.{spool_end}
use Rattle.gz_replica.specs.Slots as full_slots
use Rattle.gz_replica.specs.Opening as opening
use Rattle.gz_lineage.specs.Lists as lists
use Rattle.gz_lineage.specs.Lists.{Each}
use Rattle.gz_lineage.specs.Marks.{Mark, end_of_marks}
use Rattle.gz_lineage.specs.Nodes as reduced
use Rattle.gz_lineage.specs.Rules as rules
use Rattle.gz_lineage.proofs.Prefixes.{pre_len}
use Rattle.gz_carry.specs.Seen.{Fits, OptionSeen, SlotsSeen, ReportSeen, EndSeen}
use Rattle.gz_carry.specs.Histories.{History, IsCopy, IsReported}
use Rattle.gz_carry.proofs.Ends.{end_more, end_less}
use Rattle.gz_carry.proofs.Fitting.{fits_end, fits_store}

-- what is equal under a test is equal beside it
and_same : (b x y : Bool) → (b ≡ true → x ≡ y) → (b && x) ≡ (b && y)
and_same true x y f = f refl
and_same false x y f = refl

-- ---- reports that come

-- slots whose reports are copies stay so when one more comes that is
pub reported_fill : (h : History) (m : ℕ) (v : reduced.Report) (ps : List (ℕ × Option reduced.Report)) → IsCopy h v.adopted v.image.entries →
    Each (λ (p : ℕ × Option reduced.Report). IsReported h p.1) ps → Each (λ (p : ℕ × Option reduced.Report). IsReported h p.1) (lists.fill m v ps)
reported_fill h m v [] c a = tt
reported_fill h m v (p ∷ ps) c a =
    cond_both (eqb m p.0) ((p.0, Some (lists.first_there p.1 v)) ∷ ps) (p ∷ lists.fill m v ps) (Each (λ (p : ℕ × Option reduced.Report). IsReported h p.1))
    (λ _. (first p.1 a.0, a.1)) (λ _. (a.0, reported_fill h m v ps c a.1))
  where
    first : (o : Option reduced.Report) → IsReported h o → IsCopy h (lists.first_there o v).adopted (lists.first_there o v).image.entries
    first None b = c
    first (Some x) b = b

-- ---- the greater of two

module _ (num : List ℕ → ℕ) (h : History) where
  -- of two copies of one epoch's list the longer one ends later
  copies_end : (e : ℕ) (xs ys : List Mark) → IsCopy h e xs → IsCopy h e ys → nat_lt (end_of_marks xs) (end_of_marks ys) ≡ nat_lt (length xs) (length ys)
  copies_end e xs ys c d =
      let x : end_of_marks xs ≡ end_of_marks (take (length xs) (h.list e)) = ap end_of_marks (sym c.within.prefix) in
      let y : end_of_marks ys ≡ end_of_marks (take (length ys) (h.list e)) = ap end_of_marks (sym d.within.prefix) in
      elim (cases_lt (length xs) (length ys)) [
        | inl l ↦ lt-ltb (end_of_marks xs) (end_of_marks ys) (rw (x, y) (end_less (h.base e) (length xs) (length ys) (h.list e) (h.puts e c.made) c.base l (pre_len d.within))) ∙ sym (lt-ltb (length xs) (length ys) l)
        | inr l ↦ le-ltb (end_of_marks xs) (end_of_marks ys) (rw (x, y) (end_more (length ys) (length xs) (h.list e) l)) ∙ sym (le-ltb (length xs) (length ys) l)
      ]

  -- a report is seen, and a copy
  abbrev Both : Option full_slots.Report → Option reduced.Report → Type 0
  Both v None = OptionSeen ReportSeen v None
  Both v (Some w) = OptionSeen ReportSeen v (Some w) × IsCopy h w.adopted w.image.entries

  -- so two of them compare alike
  beats_seen : (q r : full_slots.Report) (p s : reduced.Report) → ReportSeen q p → IsCopy h p.adopted p.image.entries → ReportSeen r s → IsCopy h s.adopted s.image.entries → opening.beats q r ≡ rules.beats p s
  beats_seen q r p s a c b d =
      let ends : (r.adopted == q.adopted) ≡ true → nat_lt (spool_end r.image) (spool_end q.image) ≡ nat_lt (length s.image.entries) (length p.image.entries) = λ t.
      (let same : s.adopted ≡ p.adopted = b.adopted ∙ eqb-true r.adopted q.adopted t ∙ sym a.adopted in
      ap (λ x. nat_lt x (spool_end q.image)) (fits_end r.image s.image.entries s.image.head b.image) ∙ ap (λ x. nat_lt (end_of_marks s.image.entries) x) (fits_end q.image p.image.entries p.image.head a.image)
      ∙ copies_end p.adopted s.image.entries p.image.entries (subst (λ e. IsCopy h e s.image.entries) same d) c) in
      ap (λ z. nat_lt r.adopted q.adopted || z) (and_same (r.adopted == q.adopted) _ _ ends)
      ∙ sym (ap (λ x. nat_lt x p.adopted || (x == p.adopted && nat_lt (length s.image.entries) (length p.image.entries))) b.adopted
      ∙ ap (λ x. nat_lt r.adopted x || (r.adopted == x && nat_lt (length s.image.entries) (length p.image.entries))) a.adopted)

  -- either branch of a test is seen
  both_if : (b : Bool) (v w : Option full_slots.Report) (x y : Option reduced.Report) → Both v x → Both w y → Both (if b then v else w) (if b then x else y)
  both_if true v w x y a c = a
  both_if false v w x y a c = c

  -- of a report and another, or none, the same one stays
  larger_seen : (r : full_slots.Report) (s : reduced.Report) (v : Option full_slots.Report) (w : Option reduced.Report) → ReportSeen r s → IsCopy h s.adopted s.image.entries → Both v w → Both (opening.larger r v) (rules.larger s w)
  larger_seen r s None None a c b = (a, c)
  larger_seen r s (Some q) (Some p) a c b =
      subst (λ t. Both (opening.larger r (Some q)) (if t then Some p else Some s)) (beats_seen q r p s b.0 b.1 a c)
      (both_if (opening.beats q r) (Some q) (Some r) (Some p) (Some s) b (a, c))
  larger_seen r s None (Some p) a c b = absurd b.0
  larger_seen r s (Some q) None a c b = absurd b

  -- and so it does where only those count that adopted enough
  better_seen : (o : ℕ) (u : Option full_slots.Report) (t : Option reduced.Report) (v : Option full_slots.Report) (w : Option reduced.Report) → Both u t → Both v w → Both (opening.better o u v) (rules.better o t w)
  better_seen o None None v w a b = b
  better_seen o (Some r) (Some s) v w a b =
      subst (λ e. Both (opening.better o (Some r) v) (if nat_le o e then rules.larger s w else w)) (sym a.0.adopted)
      (both_if (nat_le o r.adopted) (opening.larger r v) v (rules.larger s w) w (larger_seen r s v w a.0 a.1 b) b)
  better_seen o None (Some s) v w a b = absurd a.0
  better_seen o (Some r) None v w a b = absurd a

  -- a report in a slot is seen, and a copy
  both_of : (v : Option full_slots.Report) (w : Option reduced.Report) → OptionSeen ReportSeen v w → IsReported h w → Both v w
  both_of v None a c = a
  both_of v (Some w) a c = (a, c)

  -- so the best of all slots is the same one
  best_seen : (o : ℕ) (xs : full_slots.Slots full_slots.Report) (ys : List (ℕ × Option reduced.Report)) → SlotsSeen num ReportSeen xs ys → Each (λ (p : ℕ × Option reduced.Report). IsReported h p.1) ys → Both (opening.best o xs) (rules.best o ys)
  best_seen o [] [] a c = tt
  best_seen o (x ∷ xs) (y ∷ ys) a c = better_seen o x.1 y.1 (opening.best o xs) (rules.best o ys) (both_of x.1 y.1 a.1 c.0) (best_seen o xs ys a.2 c.1)
  best_seen o [] (y ∷ ys) a c = absurd a
  best_seen o (x ∷ xs) [] a c = absurd a

  -- ---- the image that is taken

  -- the chosen image is a cut of the chosen list, or of what the store has with a reset
  taken_seen : (end : ℕ) (text : List Mark) → EndSeen end text → (v : Option full_slots.Report) (w : Option reduced.Report) → Both v w → Fits (opening.image_taken end v) (rules.image_taken text w).entries (rules.image_taken text w).head
  taken_seen end text e None None b = fits_store text end e
  taken_seen end text e (Some v) (Some w) b = b.0.image
  taken_seen end text e None (Some w) b = absurd b.0
  taken_seen end text e (Some v) None b = absurd b

  -- the own report counts as one more
  pub choice_seen : (o p : ℕ) → o ≡ p → (own : full_slots.Report) (mine : reduced.Report) → ReportSeen own mine → IsCopy h mine.adopted mine.image.entries →
      (xs : full_slots.Slots full_slots.Report) (ys : List (ℕ × Option reduced.Report)) → SlotsSeen num ReportSeen xs ys → Each (λ (p : ℕ × Option reduced.Report). IsReported h p.1) ys →
      (end : ℕ) (text : List Mark) → EndSeen end text →
      let image = rules.image_taken text (rules.better o (Some mine) (rules.best o ys)) in Fits (opening.image_taken end (opening.better p (Some own) (opening.best p xs))) image.entries image.head
  choice_seen o p same own mine a c xs ys told copies end text e =
      let best = better_seen p (Some own) (Some mine) (opening.best p xs) (rules.best p ys) (a, c) (best_seen p xs ys told copies) in
      subst (λ q. let image = rules.image_taken text (rules.better q (Some mine) (rules.best q ys)) in Fits (opening.image_taken end (opening.better p (Some own) (opening.best p xs))) image.entries image.head) (sym same)
      (taken_seen end text e (opening.better p (Some own) (opening.best p xs)) (rules.better p (Some mine) (rules.best p ys)) best)
