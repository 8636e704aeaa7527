-- The invariant's history of a world, as the carried rules ask for it; and that a letter that can come is said again by one
-- event, which ends no handover.
use Rattle.std.proofs.Common.{◌≡◌, ℕ, ◌<◌, List, [], ◌∷◌, ◌++◌, ◌⊎◌, length, take, refl, ap, sym, ◌∙◌, arith, inl, inr, Some, None, suc, Bool}
use Rattle.std.specs.Prelude.{slice_get, slice_index_or, if◌then◌else◌}
use Rattle.std.proofs.lemmas.Bool.{eq-eqb}
use Rattle.gz_lineage.specs.Lists.{In, Each}
use Rattle.gz_lineage.specs.Marks.{Mark, Reset, Lawful}
use Rattle.gz_lineage.specs.Nodes.{Letter, Message, Replicate, Head}
use Rattle.gz_lineage.specs.Rules.{letter}
use Rattle.gz_lineage.specs.World as world
use Rattle.gz_lineage.specs.World.{World, Event, Repeat, Renew, node_at}
use Rattle.gz_lineage.specs.Handover.{IsCalm}
use Rattle.gz_lineage.proofs.Listed.{each_in}
use Rattle.gz_lineage.proofs.Facts.{LetterOk}
use Rattle.gz_lineage.proofs.Invariant.{Inv}
use Rattle.gz_carry.specs.Histories.{History, NodeOf, MessageOf, HasBytes}
use Rattle.gz_carry.specs.Taking.{CanCome, said_again}
use Rattle.gz_carry.proofs.Runs.{history_of, copy_of, part_of, message_of, mark_bytes}

module _ (w : World) (i : Inv w) where
  abbrev pub history : History
  history = history_of i.K i.g i.global

  -- a node is of it
  pub node_now : (n : ℕ) → NodeOf history (node_at w.state.nodes n)
  node_now n = let st = node_at w.state.nodes n in record {
    spool = copy_of i.K i.g i.global st.adopted st.spool (i.nodes n).body.copy;
    part = part_of i.K i.g i.global n st st.part (i.nodes n).part;
  }

  -- the fact of a letter that was said
  pub letter_now : (l : Letter) → In l w.said → LetterOk i.K i.g l
  letter_now l s = each_in (LetterOk i.K i.g) w.said l i.said s

  -- and what it says is of the history
  pub said_now : (from to : ℕ) (body : Message) → In (letter from to body) w.said → MessageOf history body
  said_now from to body s = message_of i.K i.g i.global from to body (letter_now (letter from to body) s)

-- each mark of a lawful list has bytes
pub lawful_bytes : (xs : List Mark) → Lawful xs → Each HasBytes xs
lawful_bytes xs a = all xs (λ k less. mark_bytes (take k xs) (slice_index_or xs k Reset) (a k less))
  where
    all : (ys : List Mark) → ((k : ℕ) → k < length ys → HasBytes (slice_index_or ys k Reset)) → Each HasBytes ys
    all [] f = tt
    all (y ∷ ys) f = (f 0 (omega arith), all ys (λ k less. f (suc k) (omega arith)))

-- a member of two lists in a row is one of the first or of the second
pub in_split : {A : Type 0} (x : A) (xs ys : List A) → In x (xs ++ ys) → In x xs ⊎ In x ys
in_split x [] ys i = inr i
in_split x (y ∷ xs) ys i = elim i [ inl z ↦ inl (inl z) | inr z ↦ elim (in_split x xs ys z) [ inl v ↦ inl (inr v) | inr v ↦ inr v ] ]

-- ---- a letter is said again

-- a member of a list has a place there
in_index : {A : Type 0} (x : A) (xs : List A) → In x xs → (k : ℕ) × (slice_get xs k ≡ Some x)
in_index x [] i = absurd i
in_index x (y ∷ xs) i = elim i [
  | inl e ↦ (0, cc)
  | inr j ↦ (let r = in_index x xs j in (suc r.0, r.1))
]

-- an entry's letter is said with a head that was told
renew_is : (w : World) (k n from to epoch offset carried head : ℕ) (x : Mark) → slice_get w.said k ≡ Some (letter from to (Replicate epoch offset x carried)) → slice_get w.said n ≡ Some (letter from to (Head epoch head)) →
    world.happens w (Renew k n) ≡ said_again w (letter from to (Replicate epoch offset x head))
renew_is w k n from to epoch offset carried head x a b =
    let l = letter from to (Replicate epoch offset x carried) in
    let m = letter from to (Head epoch head) in
    let both : world.renewed (slice_get w.said k) (slice_get w.said n) ≡ world.renewed (Some l) (Some m) = ap (λ o. world.renewed o (slice_get w.said n)) a ∙ ap (λ o. world.renewed (Some l) o) b in
    let one : world.renewed (Some l) (Some m) ≡ Some (letter from to (Replicate epoch offset x head)) = ap (λ (t : Bool). world.with_body l (if t then Some (Replicate epoch offset x head) else None)) (eq-eqb epoch epoch refl) in
    ap (λ o. world.recorded w (world.again w o)) (both ∙ one)

-- one that was said
pub said_before : (w : World) (l : Letter) → In l w.said → (first : Event) × IsCalm w first × (world.happens w first ≡ said_again w l)
said_before w l s = let at = in_index l w.said s in (Repeat at.0, tt, ap (λ o. world.recorded w (world.again w o)) at.1)

-- or one that can come
pub comes_by : (w : World) (from to : ℕ) (body : Message) → CanCome w.said from to body → (first : Event) × IsCalm w first × (world.happens w first ≡ said_again w (letter from to body))
comes_by w from to body c = elim c [
  | inl s ↦ said_before w (letter from to body) s
  | inr r ↦ (let was = in_index (letter from to (Replicate r.epoch r.offset r.entry r.carried)) w.said r.was in
      let told = in_index (letter from to (Head r.epoch r.head)) w.said r.told in (
        Renew was.0 told.0,
        tt,
        renew_is w was.0 told.0 from to r.epoch r.offset r.carried r.head r.entry was.1 told.1 ∙ ap (λ b. said_again w (letter from to b)) (sym r.is),
      ))
]
