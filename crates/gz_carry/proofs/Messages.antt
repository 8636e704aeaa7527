-- Each message of a member is carried by a letter that can come, or by none: the rules of `Members`, `Openings` and
-- `Primary`, each with the letter that its message is seen in.
use Rattle.std.proofs.Common.{◌⊎◌, ℕ, List, refl, sym, subst, inl, inr}
use Rattle.std.specs.Prelude.{if◌then◌else◌}
use Rattle.std.proofs.lemmas.Bool.{cases_Bool}
use Rattle.gz_label.specs.declared.entry.Entry.{Entry}
use Rattle.gz_label.specs.declared.entry.Image.{Image}
use Rattle.gz_wire.specs.declared.msg.Msg.{Msg}
use Rattle.gz_wire.specs.declared.msg.Msg.TheVariants as wire
use Rattle.gz_spool.specs.Spools.{is_image}
use Rattle.gz_replica.specs.Member.{Member}
use Rattle.gz_replica.specs.Member as full
use Rattle.gz_replica.specs.Slots as full_slots
use Rattle.gz_replica.specs.Opening as opening
use Rattle.gz_replica.specs.Replicating as replicating
use Rattle.gz_lineage.specs.Lists.{In}
use Rattle.gz_lineage.specs.Marks.{Mark, Added}
use Rattle.gz_lineage.specs.Nodes.{Node, Letter, Message}
use Rattle.gz_lineage.specs.Nodes as reduced
use Rattle.gz_lineage.specs.Rules as rules
use Rattle.gz_lineage.specs.Rules.{letter, take_message}
use Rattle.gz_lineage.specs.World.{World, node_at}
use Rattle.gz_lineage.proofs.Listed.{each_in}
use Rattle.gz_carry.specs.Seen.{IsNumbering, MemberSeen, MessageSeen, StepSeen}
use Rattle.gz_carry.specs.Histories.{MessageOf, NodeOf, HasHistory}
use Rattle.gz_carry.specs.Taking.{taken, CanCome}
use Rattle.gz_carry.proofs.Members.{on_promise_seen, on_head_seen, on_adopt_seen, on_replicate_seen}
use Rattle.gz_carry.proofs.Openings.{on_promised_seen, on_adopted_seen}
use Rattle.gz_carry.proofs.Primary.{on_held_seen}

module _ (num : List ℕ → ℕ) (same : IsNumbering num) (w : World) (i : HasHistory w) (me from : List ℕ) (req : ℕ) (m : Member) (seen : MemberSeen num me m (node_at w.state.nodes (num me))) where
  -- the lists of the history's epochs
  abbrev lists : ℕ → List Mark
  lists = i.history.list

  -- the member's node
  abbrev n : Node
  n = node_at w.state.nodes (num me)

  -- what is to be shown of a message
  abbrev Carried : Msg → Type 0
  Carried msg = StepSeen num lists me (taken req from msg m) (rules.idle n)
      ⊎ ((body : Message) × CanCome w.said (num from) (num me) body × StepSeen num lists me (taken req from msg m) (take_message (num me) n (num from) body))

  -- the node is of the history
  ok : NodeOf i.history n
  ok = i.nodes (num me)

  -- what was said is of the history
  said_of : (body : Message) → In (letter (num from) (num me) body) w.said → MessageOf i.history body
  said_of body s = each_in (λ (l : Letter). MessageOf i.history l.body) w.said (letter (num from) (num me) body) i.said s

  -- a promise, whose image has the form of one or hasn't
  promised : (j : List ℕ) (epoch adopted : ℕ) (image : Image) → MessageSeen num lists w.said from me (wire.Promised j epoch adopted image) → Carried (wire.Promised j epoch adopted image)
  promised j epoch adopted image s =
      let report : full_slots.Report = record { adopted = adopted; image = image } in
      let body = reduced.Promised epoch s.0 in
      let goes = opening.on_promised j req m from epoch report m.part in
      elim (cases_Bool (is_image image)) [
        | inl t ↦ inr (
          body,
          inl s.1,
          subst (λ b. StepSeen num lists me (if b then goes else full.idle m) (take_message (num me) n (num from) body)) (sym t)
              (on_promised_seen num j me req m n seen same i.history ok from epoch report s.0 s.2 (said_of body s.1)),
        )
        | inr t ↦ inl (subst (λ b. StepSeen num lists me (if b then goes else full.idle m) (rules.idle n)) (sym t) (record { member = seen; sends = tt }))
      ]

  -- an image, likewise
  adopt : (j : List ℕ) (epoch : ℕ) (image : Image) → MessageSeen num lists w.said from me (wire.Adopt j epoch image) → Carried (wire.Adopt j epoch image)
  adopt j epoch image s =
      let body = reduced.Adopt epoch s.0 in
      let out = replicating.on_adopt j m from epoch image in
      let step = on_adopt_seen num j me m n seen i.history ok from epoch image s.0 s.2 (said_of body s.1) in
      elim (cases_Bool (is_image image)) [
        | inl t ↦ inr (body, inl s.1, subst (λ b. StepSeen num lists me out (if b then rules.on_adopt (num me) n (num from) epoch s.0 else rules.idle n)) t step)
        | inr t ↦ inl (subst (λ b. StepSeen num lists me out (if b then rules.on_adopt (num me) n (num from) epoch s.0 else rules.idle n)) t step)
      ]

  -- an entry, with the head that its letter carries or a later one
  replicate : (j : List ℕ) (epoch offset : ℕ) (entry : Entry) (head : ℕ) → MessageSeen num lists w.said from me (wire.Replicate j epoch offset entry head) → Carried (wire.Replicate j epoch offset entry head)
  replicate j epoch offset entry head s =
      let x = Added entry in
      let body = reduced.Replicate epoch s.0 x s.2 in
      let out = replicating.on_replicate j m from epoch offset entry head in
      let goes = rules.on_replicate (num me) n (num from) epoch s.0 x s.2 in
      let step = on_replicate_seen num j me m n seen i.history ok.spool from epoch offset head s.0 s.2 entry (said_of (reduced.Replicate epoch s.0 x s.1) s.3) s.4 s.5 in
      let comes : CanCome w.said (num from) (num me) body = elim s.7 [
        | inl e ↦ inl (subst (λ h. In (letter (num from) (num me) (reduced.Replicate epoch s.0 x h)) w.said) (sym e) s.3)
        | inr t ↦ inr (record { epoch = epoch; offset = s.0; entry = x; carried = s.1; head = s.2; is = refl; was = s.3; told = t })
      ] in
      elim (cases_Bool (replicating.is_no_entry offset entry)) [
        | inl t ↦ inl (subst (λ b. StepSeen num lists me out (if b then rules.idle n else goes)) t step)
        | inr t ↦ inr (body, comes, subst (λ b. StepSeen num lists me out (if b then rules.idle n else goes)) t step)
      ]

  -- any message
  pub message_seen : (msg : Msg) → MessageSeen num lists w.said from me msg → Carried msg
  message_seen (wire.Promise j epoch) s = inr (reduced.Promise epoch, inl s, on_promise_seen num j me m n seen lists from epoch)
  message_seen (wire.Promised j epoch adopted image) s = promised j epoch adopted image s
  message_seen (wire.Adopt j epoch image) s = adopt j epoch image s
  message_seen (wire.Adopted j epoch end) s = inr (reduced.Adopted epoch s.0, inl s.1, on_adopted_seen num j me req m n seen same lists from epoch end s.0)
  message_seen (wire.Replicate j epoch offset entry head) s = replicate j epoch offset entry head s
  message_seen (wire.Held j epoch end) s = inr (reduced.Held epoch s.0, inl s.1, on_held_seen num j me m n seen same i.history ok from epoch end s.0 s.2)
  message_seen (wire.Head j epoch head begin) s = inr (reduced.Head epoch s.0, inl s.1, on_head_seen num j me m n seen i.history ok epoch head begin s.0 s.2)
  message_seen msg s = inl (record { member = seen; sends = tt })
