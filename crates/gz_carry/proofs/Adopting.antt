-- The end of an opening: the primary chooses once everyone has told, has its image adopted, and asks for the sync once
-- everyone has adopted. Slots are full on both sides at once.
use Rattle.std.proofs.Common.{◌≡◌, ℕ, List, [], ◌∷◌, refl, ap, sym, subst, inl, Option, Some, None}
use Rattle.std.specs.Prelude.{map, ◌&&◌, if◌then◌else◌, is_some}
use Rattle.gz_label.specs.declared.entry.Image.{Image}
use Rattle.gz_wire.specs.declared.msg.Msg.TheVariants as wire
use Rattle.gz_replica.specs.Member as full
use Rattle.gz_replica.specs.declared.part.Route as full_routes
use Rattle.gz_replica.specs.Slots as full_slots
use Rattle.gz_replica.specs.Opening as opening
use Rattle.gz_lineage.specs.Lists as lists
use Rattle.gz_lineage.specs.Lists.{In, Each}
use Rattle.gz_lineage.specs.Marks.{Mark}
use Rattle.gz_lineage.specs.Nodes as reduced
use Rattle.gz_lineage.specs.Rules as rules
use Rattle.gz_carry.specs.Seen.{Fits, RouteSeen, OptionSeen, SlotsSeen, ReportSeen, EndSeen, Anything, MemberSeen, StepSeen}
use Rattle.gz_carry.specs.Histories.{History, IsCopy, IsReported}
use Rattle.gz_carry.proofs.Sends.{each_seen, step_after, step_if}
use Rattle.gz_carry.proofs.Choice.{choice_seen}

-- slots that are seen are full at once
pub full_seen : {A B : Type 0} (num : List ℕ → ℕ) (P : A → B → Type 0) (xs : full_slots.Slots A) (ys : List (ℕ × Option B)) → SlotsSeen num P xs ys → full_slots.full xs ≡ lists.full ys
full_seen num P [] [] a = refl
full_seen {A = A} {B = B} num P (x ∷ xs) (y ∷ ys) a = rw (full_seen num P xs ys a.2) (ap (λ b. b && lists.full ys) (some x.1 y.1 a.1))
  where
    some : (v : Option A) (w : Option B) → OptionSeen P v w → is_some v ≡ is_some w
    some None None s = refl
    some (Some v) (Some w) s = refl
    some None (Some w) s = absurd s
    some (Some v) None s = absurd s
full_seen num P [] (y ∷ ys) a = absurd a
full_seen num P (x ∷ xs) [] a = absurd a

-- new slots are seen, for the same names
pub slots_new : {A B : Type 0} (num : List ℕ → ℕ) (P : A → B → Type 0) (ms : List (List ℕ)) → SlotsSeen num P (full_slots.slots_for ms) (lists.slots_for (map num ms))
slots_new num P [] = tt
slots_new num P (m ∷ ms) = (refl, tt, slots_new num P ms)

module _ (num : List ℕ → ℕ) (j me : List ℕ) (lists_of : ℕ → List Mark) (req : ℕ) (r : full_routes.Route) (s : reduced.Route) (route : RouteSeen num me r s) where
  -- all others have adopted, or some haven't
  pub adopting_seen : (m : full.Member) (n : reduced.Node) (xs : full_slots.Slots ℕ) (ys : List (ℕ × Option ℕ)) → n.promised ≡ m.promised → n.adopted ≡ m.adopted → Fits m.spool n.spool n.head → SlotsSeen num Anything xs ys →
      StepSeen num lists_of me (opening.adopting j req m r xs) (rules.adopting (num me) n s ys)
  adopting_seen m n xs ys p a f t =
      subst (λ b. StepSeen num lists_of me (opening.adopting j req m r xs) (if b then rules.answered (num me) rules.keys (record n { part = reduced.Syncing s }) (reduced.Txn s.epoch) else rules.idle (record n { part = reduced.Adopting s ys }))) (full_seen num Anything xs ys t)
      (step_if num lists_of me (full_slots.full xs) _ _ _ _
      (λ _. record {
        member = record { promised = p; adopted = a; spool = f; part = route };
        sends = ((r.epoch, j, refl, subst (λ e. In (rules.letter (num me) rules.keys (reduced.Txn e)) (rules.letter (num me) rules.keys (reduced.Txn s.epoch) ∷ [])) route.epoch (inl refl)), tt);
      })
      (λ _. record { member = record { promised = p; adopted = a; spool = f; part = (route, t) }; sends = tt }))

  -- the primary takes an image, and has it adopted
  pub adopts_seen : (m : full.Member) (n : reduced.Node) (image : Image) (i : reduced.Image) → n.promised ≡ m.promised → Fits image i.entries i.head →
      StepSeen num lists_of me (opening.adopts j req m r image) (rules.adopts (num me) n s i)
  adopts_seen m n image i p f =
      let said = rules.to_each (num me) (reduced.Adopt s.epoch i) s.others in
      step_after num lists_of me _ said _ _
      (each_seen num lists_of me (wire.Adopt j r.epoch image) (reduced.Adopt s.epoch i) said
      (λ to x. (i, subst (λ e. In (rules.letter (num me) (num to) (reduced.Adopt e i)) said) route.epoch x, f))
      r.others (λ l x. subst (λ ms. In l (rules.to_each (num me) (reduced.Adopt s.epoch i) ms)) (sym route.others) x))
      (adopting_seen (record m { adopted = r.epoch; spool = image }) (record n { adopted = s.epoch; spool = i.entries; head = i.head }) (full_slots.slots_for r.others) (lists.slots_for s.others) p route.epoch f
      (subst (λ ms. SlotsSeen num Anything (full_slots.slots_for r.others) (lists.slots_for ms)) (sym route.others) (slots_new num Anything r.others)))

  -- an opening primary goes on: it waits, or takes the best image and has it adopted
  pub opening_seen : (h : History) (m : full.Member) (n : reduced.Node) → MemberSeen num me m n → IsCopy h n.adopted n.spool →
      (list_req : ℕ) (xs : full_slots.Slots full_slots.Report) (ys : List (ℕ × Option reduced.Report)) → SlotsSeen num ReportSeen xs ys → Each (λ (p : ℕ × Option reduced.Report). IsReported h p.1) ys →
      (stored : Option ℕ) (names : Option (List Mark)) → OptionSeen EndSeen stored names →
      StepSeen num lists_of me (opening.opening_at j req m r list_req xs stored) (rules.opening_at (num me) n s ys names)
  opening_seen h m n seen own list_req xs ys told copies None None e =
      record { member = record { promised = seen.promised; adopted = seen.adopted; spool = seen.spool; part = (route, told, tt) }; sends = tt }
  opening_seen h m n seen own list_req xs ys told copies (Some end) (Some text) e =
      let mine : reduced.Report = record { adopted = n.adopted; image = rules.image_of n } in
      let image = rules.image_taken text (rules.better s.opened (Some mine) (rules.best s.opened ys)) in
      let chosen = choice_seen num h s.opened r.opened route.opened (opening.own_report m) mine (record { adopted = seen.adopted; image = seen.spool }) own xs ys told copies end text e in
      subst (λ b. StepSeen num lists_of me (opening.opening_at j req m r list_req xs (Some end)) (if b then rules.adopts (num me) n s image else rules.idle (record n { part = reduced.Opening s ys (Some text) })))
      (full_seen num ReportSeen xs ys told)
      (step_if num lists_of me (full_slots.full xs) _ _ _ _
      (λ _. adopts_seen m n _ _ seen.promised chosen)
      (λ _. record { member = record { promised = seen.promised; adopted = seen.adopted; spool = seen.spool; part = (route, told, e) }; sends = tt }))
  opening_seen h m n seen own list_req xs ys told copies None (Some text) e = absurd e
  opening_seen h m n seen own list_req xs ys told copies (Some end) None e = absurd e
