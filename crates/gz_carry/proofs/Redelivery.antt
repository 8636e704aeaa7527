-- A letter that was said can be delivered at any time: it goes out again, and is taken at once. So is an entry's letter
-- with a head that was told.
use Rattle.std.proofs.Common.{◌≡◌, ℕ, ◌<◌, List, [], ◌∷◌, ◌++◌, length, refl, ap, sym, ◌∙◌, inl, inr, Some, None, suc, true, false, Bool}
use Rattle.std.specs.Prelude.{slice_get, slice_index_or, ◌==◌, nat_lt, if◌then◌else◌}
use Rattle.std.specs.List.{remove}
use Rattle.std.proofs.lemmas.Bool.{eq-eqb, ne_eqb, lt-ltb}
use Rattle.gz_lineage.specs.Lists.{In}
use Rattle.gz_lineage.specs.Marks.{Mark}
use Rattle.gz_lineage.specs.Nodes.{Letter, Message, Replicate, Head}
use Rattle.gz_lineage.specs.Rules.{letter, keys, take_message}
use Rattle.gz_lineage.specs.World as world
use Rattle.gz_lineage.specs.World.{World, Event, Repeat, Renew, Deliver, node_at}
use Rattle.gz_lineage.specs.Handover.{IsCalm}
use Rattle.gz_carry.specs.Taking.{CanCome, said_again}

-- a member of a list has a place there
in_index : {A : Type 0} (x : A) (xs : List A) → In x xs → (k : ℕ) × (slice_get xs k ≡ Some x)
in_index x [] i = absurd i
in_index x (y ∷ xs) i = elim i [
  | inl e ↦ (0, cc)
  | inr j ↦ (let r = in_index x xs j in (suc r.0, r.1))
]

-- a list's last member stands behind the others
get_last : {A : Type 0} (xs : List A) (x : A) → slice_get (xs ++ x ∷ []) (length xs) ≡ Some x
get_last [] x = refl
get_last (y ∷ xs) x = get_last xs x

-- without it the others are left
remove_last : {A : Type 0} (xs : List A) (x : A) → remove (xs ++ x ∷ []) (length xs) ≡ xs
remove_last [] x = refl
remove_last (y ∷ xs) x = ap (λ l. y ∷ l) (remove_last xs x)

-- the letter that was just said is the last in flight, and is delivered
pub delivered_last : (w : World) (l : Letter) (first : Event) → world.happens w first ≡ said_again w l →
    world.run (first ∷ Deliver (length w.state.flight) ∷ []) w ≡ world.recorded (said_again w l) (world.delivered (said_again w l).state w.state.flight l)
delivered_last w l first e =
    let n = length w.state.flight in
    ap (λ v. world.happens v (Deliver n)) e
    ∙ ap (λ o. world.recorded (said_again w l) (world.delivery (said_again w l).state n o)) (get_last w.state.flight l)
    ∙ ap (λ f. world.recorded (said_again w l) (world.delivered (said_again w l).state f l)) (remove_last w.state.flight l)

-- an entry's letter is said with a later head, where that was told
renew_is : (w : World) (k n from to epoch offset carried head : ℕ) (x : Mark) → slice_get w.said k ≡ Some (letter from to (Replicate epoch offset x carried)) → slice_get w.said n ≡ Some (letter from to (Head epoch head)) →
    world.happens w (Renew k n) ≡ said_again w (letter from to (Replicate epoch offset x head))
renew_is w k n from to epoch offset carried head x a b =
    let l = letter from to (Replicate epoch offset x carried) in
    let m = letter from to (Head epoch head) in
    let both : world.renewed (slice_get w.said k) (slice_get w.said n) ≡ world.renewed (Some l) (Some m) = ap (λ o. world.renewed o (slice_get w.said n)) a ∙ ap (λ o. world.renewed (Some l) o) b in
    let one : world.renewed (Some l) (Some m) ≡ Some (letter from to (Replicate epoch offset x head)) = ap (λ (t : Bool). world.with_body l (if t then Some (Replicate epoch offset x head) else None)) (eq-eqb epoch epoch refl) in
    ap (λ o. world.recorded w (world.again w o)) (both ∙ one)

-- what can come does, by a letter that goes out again, and its delivery
pub letters_come : (w : World) (from to : ℕ) (body : Message) → CanCome w.said from to body →
    let l = letter from to body in
    let v = said_again w l in
    (first : Event) × IsCalm w first × (world.run (first ∷ Deliver (length w.state.flight) ∷ []) w ≡ world.recorded v (world.delivered v.state w.state.flight l))
letters_come w from to body c = elim c [
  | inl i ↦ (let at = in_index (letter from to body) w.said i in
      (Repeat at.0, tt, delivered_last w (letter from to body) (Repeat at.0) (ap (λ o. world.recorded w (world.again w o)) at.1)))
  | inr r ↦ (let was = in_index (letter from to (Replicate r.epoch r.offset r.entry r.carried)) w.said r.was in
      let told = in_index (letter from to (Head r.epoch r.head)) w.said r.told in
      let first = Renew was.0 told.0 in
      let is : world.happens w first ≡ said_again w (letter from to body) =
      renew_is w was.0 told.0 from to r.epoch r.offset r.carried r.head r.entry was.1 told.1 ∙ ap (λ b. said_again w (letter from to b)) (sym r.is) in
      (first, tt, delivered_last w (letter from to body) first is))
]

-- a running broker takes it
pub brokers_take : (w : World) (l : Letter) (flight : List Letter) → (l.to ≡ keys → ⊥) → slice_index_or w.state.runs l.to false ≡ true → l.to < length w.state.nodes →
    world.delivered w.state flight l ≡ world.step_node w.state flight l (take_message l.to (node_at w.state.nodes l.to) l.from l.body)
brokers_take w l flight d r s =
    let x : (l.to == keys) ≡ false = ne_eqb l.to keys d in
    let y : (nat_lt l.to (length w.state.nodes)) ≡ true = lt-ltb l.to (length w.state.nodes) s in
    rw (x, r, y) refl
