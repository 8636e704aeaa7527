-- Which rules of a node leave the journal as it is. By most rules no primary opens and none raises its head, so that an open
-- one is at no greater epoch than before and its head is in the same list (`IsCalmNode`). By an open primary's own rules
-- the head may rise, but nobody opens (`GoesOn`). From these a step's part in the journal is read off.
use Rattle.std.proofs.Common.{◌≡◌, ℕ, ◌+◌, ◌<◌, ◌≤◌, min, max, List, [], ◌∷◌, ◌++◌, length, take, ap, sym, ◌∙◌, arith, true, false, subst, inl, inr, Option, Some, None}
use Rattle.std.specs.Prelude.{nat_lt, ◌==◌, ◌&&◌, slice_index_or}
use Rattle.std.proofs.lemmas.Bool.{cond_both, cases_lt, eqb-true}
use Rattle.gz_lineage.specs.Prefix.{IsPrefix}
use Rattle.gz_lineage.specs.Lists.{fill, full, slots_for}
use Rattle.gz_lineage.specs.Marks.{Mark}
use Rattle.gz_lineage.specs.Nodes.{Route, Image, Report, Part, Node, Outcome, Letter, Closed, Opening, Adopting, Syncing, Open}
use Rattle.gz_lineage.specs.Rules
use Rattle.gz_lineage.specs.World
use Rattle.gz_lineage.specs.World.{World as Worlds, node_at, grown, risen}
use Rattle.gz_lineage.proofs.Prefixes.{pre_refl, pre_trans, pre_take_of, pre_shorter, pre_push}
use Rattle.gz_lineage.proofs.Facts.{LetterOk}
use Rattle.gz_lineage.proofs.Invariant.{Inv, risen_is, part_low}
use Rattle.gz_lineage.proofs.NodeSteps.{step_kept, step_journal, step_top}

-- an open primary is no greater one
abbrev pub GoesOn : ℕ → Part → Type 0
GoesOn t (Open s held queue) = s.epoch ≤ t
GoesOn t p = Unit {0}

-- and its head is in this list
abbrev pub IsCalmNode : ℕ → List Mark → Node → Part → Type 0
IsCalmNode t j n (Open s held queue) = (s.epoch ≤ t) × IsPrefix (take n.head n.spool) j
IsCalmNode t j n p = Unit {0}

abbrev pub CalmOut : ℕ → List Mark → Outcome → Type 0
CalmOut t j out = IsCalmNode t j out.node out.node.part

-- a head that follows one that was told is in the list
pub prefix_raised : (j text spool : List Mark) (h k : ℕ) → IsPrefix spool text → IsPrefix (take h spool) j → IsPrefix (take k text) j → IsPrefix (take (max h (min k (length spool))) spool) j
prefix_raised j text spool h k p a b = elim (cases_lt h (min k (length spool))) [
  | inr x ↦ (let z : max h (min k (length spool)) ≡ h = omega (arith, x) in subst (λ y. IsPrefix (take y spool) j) (sym z) a)
  | inl x ↦ (let z : max h (min k (length spool)) ≡ min k (length spool) = omega (arith, x) in
      subst (λ y. IsPrefix (take y spool) j) (sym z)
      (subst (λ y. IsPrefix y j) (pre_take_of (min k (length spool)) p (omega arith)) (pre_trans (pre_shorter (min k (length spool)) k text (omega arith)) b)))
]

module _ (t : ℕ) (j : List Mark) (me : ℕ) (n : Node) (old : IsCalmNode t j n n.part) where
  -- the same part, with another spool and head
  part_calm : (m : Node) → IsPrefix (take m.head m.spool) j → (p : Part) → IsCalmNode t j n p → IsCalmNode t j m p
  part_calm m f Closed a = tt
  part_calm m f (Opening r reports names) a = tt
  part_calm m f (Adopting r reached) a = tt
  part_calm m f (Syncing r) a = tt
  part_calm m f (Open s held queue) a = (a.0, f)

  pub changed_calm : (r : Route) → CalmOut t j (Rules.on_changed me n r)
  changed_calm r = cond_both ((me == r.lead) && nat_lt n.promised r.epoch) _ _ (CalmOut t j) (λ _. tt) (λ _. old)

  pub promise_calm : (from e : ℕ) → CalmOut t j (Rules.on_promise me n from e)
  promise_calm from e = cond_both (nat_lt e n.promised) _ _ (CalmOut t j) (λ _. old) (λ _. cond_both (nat_lt n.promised e) _ _ (CalmOut t j) (λ _. tt) (λ _. old))

  pub adopt_calm : (from e : ℕ) (image : Image) → IsPrefix (take image.head image.entries) j → CalmOut t j (Rules.on_adopt me n from e image)
  adopt_calm from e image f = cond_both (nat_lt e n.promised) _ _ (CalmOut t j) (λ _. old) (λ _. cond_both (n.adopted == e) _ _ (CalmOut t j) (λ _. old)
      (λ _. cond_both (nat_lt n.promised e) _ _ (CalmOut t j) (λ _. tt) (λ _. part_calm (record n { adopted = e; spool = image.entries; head = image.head }) f n.part old)))

  pub head_calm : (e head : ℕ) (text : List Mark) → IsPrefix (take n.head n.spool) j → (n.adopted ≡ e → IsPrefix n.spool text) → IsPrefix (take head text) j → CalmOut t j (Rules.on_head n e head)
  head_calm e head text prefix p f = cond_both (n.adopted == e) _ _ (CalmOut t j)
      (λ x. part_calm (Rules.raise n head) (prefix_raised j text n.spool n.head head (p (eqb-true n.adopted e x)) prefix f) n.part old) (λ _. old)

  pub replicate_calm : (from e offset : ℕ) (x : Mark) (head : ℕ) (text : List Mark) → IsPrefix (take n.head n.spool) j → n.head ≤ length n.spool → (n.adopted ≡ e → IsPrefix n.spool text) → (n.adopted ≡ e → offset ≡ length n.spool → IsPrefix (n.spool ++ x ∷ []) text) → IsPrefix (take head text) j →
      CalmOut t j (Rules.on_replicate me n from e offset x head)
  replicate_calm from e offset x head text prefix fits p q f = cond_both (nat_lt e n.promised) _ _ (CalmOut t j) (λ _. old)
      (λ _. cond_both (n.adopted == e) _ _ (CalmOut t j)
      (λ y. let at = eqb-true n.adopted e y in cond_both (nat_lt (length n.spool) offset) _ _ (CalmOut t j) (λ _. old)
      (λ _. cond_both (offset == length n.spool) _ _ (CalmOut t j)
      (λ z. part_calm (Rules.raise (record n { spool = n.spool ++ x ∷ [] }) head)
      (prefix_raised j text (n.spool ++ x ∷ []) n.head head (q at (eqb-true offset (length n.spool) z)) (subst (λ y. IsPrefix y j) (sym (pre_take_of n.head (pre_push (x ∷ []) (pre_refl n.spool)) fits)) prefix) f) n.part old)
      (λ _. part_calm (Rules.raise n head) (prefix_raised j text n.spool n.head head (p at) prefix f) n.part old)))
      (λ _. old))

  adopting_calm : (m : Node) (r : Route) (reached : List (ℕ × Option ℕ)) → CalmOut t j (Rules.adopting me m r reached)
  adopting_calm m r reached = cond_both (full reached) _ _ (CalmOut t j) (λ _. tt) (λ _. tt)

  opening_calm : (r : Route) (reports : List (ℕ × Option Report)) (names : Option (List Mark)) → CalmOut t j (Rules.opening_at me n r reports names)
  opening_calm r reports None = tt
  opening_calm r reports (Some names) = cond_both (full reports) _ _ (CalmOut t j)
      (λ _. let image = Rules.image_taken names (Rules.better r.opened (Some (record { adopted = n.adopted; image = Rules.image_of n })) (Rules.best r.opened reports)) in
      adopting_calm (record n { adopted = r.epoch; spool = image.entries; head = image.head }) r (slots_for r.others)) (λ _. tt)

  pub promised_calm : (from e : ℕ) (report : Report) (p : Part) → IsCalmNode t j n p → p ≡ n.part → CalmOut t j (Rules.on_promised me n from e report p)
  promised_calm from e report (Opening r reports names) a s = cond_both (e == r.epoch) _ _ (CalmOut t j) (λ _. opening_calm r (fill from report reports) names) (λ _. old)
  promised_calm from e report p a s = old

  pub names_calm : (e : ℕ) (text : List Mark) (p : Part) → CalmOut t j (Rules.on_names me n e text p)
  names_calm e text (Opening r reports None) = cond_both (e == r.epoch) _ _ (CalmOut t j) (λ _. opening_calm r reports (Some text)) (λ _. old)
  names_calm e text p = old

  pub adopted_calm : (from e reach : ℕ) (p : Part) → CalmOut t j (Rules.on_adopted me n from e reach p)
  adopted_calm from e reach (Adopting r reached) = cond_both (e == r.epoch) _ _ (CalmOut t j) (λ _. adopting_calm n r (fill from reach reached)) (λ _. old)
  adopted_calm from e reach p = old

-- a primary that raises its head doesn't open
head_goes : (t me : ℕ) (n : Node) (r : Route) (held : List (ℕ × ℕ)) (queue : List ℕ) (h : ℕ) → r.epoch ≤ t → GoesOn t (Rules.with_head me n r held queue h).node.part
head_goes t me n r held queue h l = cond_both (nat_lt n.head h) _ _ (λ (o : Outcome). GoesOn t o.node.part) (λ _. l) (λ _. l)

pub held_goes : (t me : ℕ) (n : Node) (from e reach : ℕ) (p : Part) → GoesOn t p → GoesOn t n.part → GoesOn t (Rules.on_held me n from e reach p).node.part
held_goes t me n from e reach (Open r held queue) a b = cond_both (e == r.epoch) _ _ (λ (o : Outcome). GoesOn t o.node.part)
    (λ _. head_goes t me n r (Rules.raised from reach held) queue (Rules.least (length n.spool) (Rules.raised from reach held)) a) (λ _. b)
held_goes t me n from e reach p a b = b

pub puts_goes : (t me : ℕ) (n : Node) (x : Mark) (p : Part) → GoesOn t p → GoesOn t n.part → GoesOn t (Rules.puts me n x p).node.part
puts_goes t me n x (Open r held queue) a b = head_goes t me (record n { spool = n.spool ++ x ∷ [] }) r held (queue ++ (length n.spool + 1) ∷ []) (Rules.least (length (n.spool ++ x ∷ [])) held) a
puts_goes t me n x p a b = b

-- what holds of a node where the invariant does
pub low_part : (t : ℕ) (p : Part) → risen t p ≡ t → GoesOn t p
low_part t Closed e = tt
low_part t (Opening r reports names) e = tt
low_part t (Adopting r reached) e = tt
low_part t (Syncing r) e = tt
low_part t (Open s held queue) e = omega arith

pub calm_part : (t : ℕ) (j : List Mark) (n : Node) (p : Part) → GoesOn t p → IsPrefix (take n.head n.spool) j → IsCalmNode t j n p
calm_part t j n Closed a f = tt
calm_part t j n (Opening r reports names) a f = tt
calm_part t j n (Adopting r reached) a f = tt
calm_part t j n (Syncing r) a f = tt
calm_part t j n (Open s held queue) a f = (a, f)

-- the journal and the greatest open epoch behind one node's step
pub step_grows : (w : Worlds) (i : Inv w) (l : Letter) (flight : List Letter) → LetterOk i.K i.g l → slice_index_or w.state.runs l.to false ≡ true → l.to < length w.state.nodes →
    let out = Rules.take_message l.to (node_at w.state.nodes l.to) l.from l.body in let v = World.recorded w (World.step_node w.state flight l out) in
    (v.journal ≡ grown w.journal out.node out.node.part) × (v.top ≡ risen w.top out.node.part)
step_grows w i l flight a runs less =
    let out = Rules.take_message l.to (node_at w.state.nodes l.to) l.from l.body in
    let k = step_kept w i l a runs in
    let top = step_top w i l out k less in (
      sym (step_journal w i l out k less) ∙ k.journal ∙ ap (λ j. grown j out.node out.node.part) i.journal,
      sym top ∙ risen_is w.top k.after.top out.node.part (omega (arith, k.grows.top, i.top)) (subst (λ x. k.after.top ≤ risen x out.node.part) i.top k.top) (part_low i.K k.after l.to out.node out.node.part k.node.part),
    )
