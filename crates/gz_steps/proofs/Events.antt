-- A broker takes each message that another member sends it, of this journal. The member's rule is carried by `gz_carry`; here
-- stands what the reduced rule does to the journal (`Growth`): by all of them but an answer of what is held, nothing.
use Rattle.std.proofs.Common.{◌≡◌, ℕ, ◌+◌, ◌≤◌, List, get_or, take, refl, sym, arith, subst, inl, inr, false}
use Rattle.std.specs.Prelude.{nat_lt, ◌==◌, if◌then◌else◌}
use Rattle.std.proofs.lemmas.Bool.{cond_both, cases_Bool}
use Rattle.gz_label.specs.declared.entry.Entry.{Entry}
use Rattle.gz_label.specs.declared.entry.Image.{Image}
use Rattle.gz_wire.specs.declared.msg.Msg.TheVariants as wire
use Rattle.gz_spool.specs.Spools.{is_image, spool_end}
use Rattle.gz_replica.specs.Member as full
use Rattle.gz_replica.specs.Opening as opening
use Rattle.gz_replica.specs.Primary as primary
use Rattle.gz_replica.specs.Replicating as replicating
use Rattle.gz_replica.specs.Slots as full_slots
use Rattle.gz_replica.specs.declared.part.Part as full_parts
use Rattle.gz_replica.specs.declared.part.Part.TheVariants as full_part
use Rattle.gz_broker.specs.Brokers.{Broker, row_of, Deliver}
use Rattle.gz_broker.specs.Brokers as brokers
use Rattle.gz_broker.specs.Closing.{ruled}
use Rattle.gz_broker.specs.Step as broker_step
use Rattle.gz_lineage.specs.Prefix.{IsPrefix}
use Rattle.gz_lineage.specs.Lists.{In}
use Rattle.gz_lineage.specs.Marks.{Added, end_of_marks}
use Rattle.gz_lineage.specs.Nodes as reduced
use Rattle.gz_lineage.specs.Rules as rules
use Rattle.gz_lineage.specs.World.{World, node_at}
use Rattle.gz_lineage.proofs.Prefixes.{pre_next}
use Rattle.gz_lineage.proofs.Facts.{LetterOk, HeadOk}
use Rattle.gz_lineage.proofs.Invariant.{Inv, prefixes, lows}
use Rattle.gz_carry.specs.Seen.{IsNumbering, MessageSeen, StepSeen}
use Rattle.gz_carry.specs.Taking.{CanCome}
use Rattle.gz_carry.proofs.Members.{on_promise_seen, on_head_seen, on_adopt_seen, on_replicate_seen}
use Rattle.gz_carry.proofs.Openings.{on_adopted_seen, on_promised_seen}
use Rattle.gz_carry.proofs.Primary.{on_held_seen}
use Rattle.gz_steps.proofs.Calm.{IsCalmNode, calm_part, low_part, promise_calm, head_calm, adopted_calm, adopt_calm, promised_calm, replicate_calm, held_goes}
use Rattle.gz_steps.proofs.Growing.{head_low}
use Rattle.gz_steps.proofs.Reaching.{history, node_now, letter_now, said_now}
use Rattle.gz_steps.specs.Steps.{Ready}
use Rattle.gz_steps.proofs.Stepping.{Stepped, quietly}
use Rattle.gz_steps.proofs.Delivery.{delivery_stepped, coming_stepped, idle_ruled}

module _ (num : List ℕ → ℕ) (same : IsNumbering num) (no_keys : (a : List ℕ) → num a ≡ rules.keys → ⊥) (j : List ℕ)
    (w : World) (i : Inv w) (b : Broker) (ready : Ready num j w b) (from : List ℕ) where
  abbrev mine : reduced.Node
  mine = node_at w.state.nodes (num b.name)

  prefix_now : IsPrefix (take mine.head mine.spool) w.journal
  prefix_now = prefixes w i (num b.name)

  pub calm_now : IsCalmNode w.top w.journal mine mine.part
  calm_now = calm_part w.top w.journal mine mine.part (low_part w.top mine.part (lows w i (num b.name))) prefix_now

  pub begin_now : (row_of j b.rows).member.spool.begin ≤ end_of_marks w.journal
  begin_now = omega (arith, ready.member.spool.order, head_low w i (num b.name) (row_of j b.rows).member.spool ready.member.spool)

  copy_now : (epoch : ℕ) → mine.adopted ≡ epoch → IsPrefix mine.spool (i.g.text epoch)
  copy_now epoch e = subst (λ d. IsPrefix mine.spool (i.g.text d)) e (i.nodes (num b.name)).body.copy.within

  held_begin : (m : full.Member) (epoch end : ℕ) (p : full_parts.Part) → (primary.on_held j m from epoch end p).member.spool.begin ≡ m.spool.begin
  held_begin m epoch end (full_part.Open r held) = cond_both (epoch == r.epoch) _ _ (λ (o : full.Outcome). o.member.spool.begin ≡ m.spool.begin)
      (λ _. cond_both (nat_lt m.spool.head (full_slots.least (spool_end m.spool) (full_slots.held_raised from end held))) _ _ (λ (o : full.Outcome). o.member.spool.begin ≡ m.spool.begin) (λ _. refl) (λ _. refl)) (λ _. refl)
  held_begin m epoch end p = refl

  abbrev own : full.Member
  own = (row_of j b.rows).member

  -- what a member says that it holds
  pub held_stepped : (epoch end : ℕ) → MessageSeen num i.g.text w.said from b.name (wire.Held j epoch end) → Stepped num j w i b (broker_step.step b (Deliver from false (wire.Held j epoch end)))
  held_stepped epoch end s =
      let low = low_part w.top mine.part (lows w i (num b.name)) in
      delivery_stepped num same no_keys j w i b ready (num from) (reduced.Held epoch s.0)
      (λ req m. primary.on_held j m from epoch end m.part)
      (on_held_seen num j b.name own mine ready.member same (history w i) (node_now w i (num b.name)) from epoch end s.0 s.2)
      (inr (inl (held_goes w.top (num b.name) mine (num from) epoch s.0 mine.part low low, omega (arith, held_begin own epoch end own.part, begin_now))))
      s.1

  -- a promise is asked for
  pub promise_stepped : (epoch : ℕ) → MessageSeen num i.g.text w.said from b.name (wire.Promise j epoch) → Stepped num j w i b (broker_step.step b (Deliver from false (wire.Promise j epoch)))
  promise_stepped epoch s =
      delivery_stepped num same no_keys j w i b ready (num from) (reduced.Promise epoch)
      (λ req m. replicating.on_promise j m from epoch)
      (on_promise_seen num j b.name own mine ready.member i.g.text from epoch)
      (inl (promise_calm w.top w.journal (num b.name) mine calm_now (num from) epoch))
      s

  -- a head that was told is a place of its epoch's list, and that much of it is the journal's
  told_now : (epoch head : ℕ) → HeadOk i.g epoch head → IsPrefix (take head (i.g.text epoch)) w.journal
  told_now epoch head ok = subst (λ x. IsPrefix (take head (i.g.text epoch)) x) i.journal ok.prefix

  -- a head is told
  pub head_stepped : (epoch head begin : ℕ) → MessageSeen num i.g.text w.said from b.name (wire.Head j epoch head begin) → Stepped num j w i b (broker_step.step b (Deliver from false (wire.Head j epoch head begin)))
  head_stepped epoch head begin s =
      let ok : LetterOk i.K i.g (rules.letter (num from) (num b.name) (reduced.Head epoch s.0)) = letter_now w i (rules.letter (num from) (num b.name) (reduced.Head epoch s.0)) s.1 in
      delivery_stepped num same no_keys j w i b ready (num from) (reduced.Head epoch s.0)
      (λ req m. replicating.on_head m epoch head begin)
      (on_head_seen num j b.name own mine ready.member (history w i) (node_now w i (num b.name)) epoch head begin s.0 s.2)
      (inl (head_calm w.top w.journal (num b.name) mine calm_now epoch s.0 (i.g.text epoch) prefix_now (copy_now epoch) (told_now epoch s.0 ok)))
      s.1

  -- a member has adopted
  pub adopted_stepped : (epoch end : ℕ) → MessageSeen num i.g.text w.said from b.name (wire.Adopted j epoch end) → Stepped num j w i b (broker_step.step b (Deliver from false (wire.Adopted j epoch end)))
  adopted_stepped epoch end s =
      delivery_stepped num same no_keys j w i b ready (num from) (reduced.Adopted epoch s.0)
      (λ req x. opening.on_adopted j req x from epoch end x.part)
      (on_adopted_seen num j b.name (b.requests + 1) own mine ready.member same i.g.text from epoch end s.0)
      (inl (adopted_calm w.top w.journal (num b.name) mine calm_now (num from) epoch s.0 mine.part))
      s.1

  -- An image is to be adopted. One that hasn't the form of an image is passed over.
  pub adopt_stepped : (epoch : ℕ) (image : Image) → MessageSeen num i.g.text w.said from b.name (wire.Adopt j epoch image) → Stepped num j w i b (broker_step.step b (Deliver from false (wire.Adopt j epoch image)))
  adopt_stepped epoch image s =
      let letter = rules.letter (num from) (num b.name) (reduced.Adopt epoch s.0) in
      let ok : LetterOk i.K i.g letter = letter_now w i letter s.1 in
      let out = replicating.on_adopt j own from epoch image in
      let goes = rules.on_adopt (num b.name) mine (num from) epoch s.0 in
      let step = on_adopt_seen num j b.name own mine ready.member (history w i) (node_now w i (num b.name)) from epoch image s.0 s.2 ok.2.made in
      elim (cases_Bool (is_image image)) [
        | inr bad ↦ (idle_ruled num same j w i b ready (λ req x. replicating.on_adopt j x from epoch image) (rw bad refl)).step
        | inl good ↦ delivery_stepped num same no_keys j w i b ready (num from) (reduced.Adopt epoch s.0)
            (λ req x. replicating.on_adopt j x from epoch image)
            (subst (λ t. StepSeen num i.g.text b.name out (if t then goes else rules.idle mine)) good step)
            (inl (adopt_calm w.top w.journal (num b.name) mine calm_now (num from) epoch s.0 (subst (λ x. IsPrefix (take s.0.head s.0.entries) x) i.journal ok.4.prefix)))
            s.1
      ]

  -- A promise. One whose image hasn't the form of an image is passed over.
  pub promised_stepped : (epoch adopted : ℕ) (image : Image) → MessageSeen num i.g.text w.said from b.name (wire.Promised j epoch adopted image) → Stepped num j w i b (broker_step.step b (Deliver from false (wire.Promised j epoch adopted image)))
  promised_stepped epoch adopted image s =
      let report : full_slots.Report = record { adopted = adopted; image = image } in
      let rule = λ (req : ℕ) (x : full.Member). opening.on_promised j req x from epoch report x.part in
      let goes = delivery_stepped num same no_keys j w i b ready (num from) (reduced.Promised epoch s.0) rule
      (on_promised_seen num j b.name (b.requests + 1) own mine ready.member same (history w i) (node_now w i (num b.name)) from epoch report s.0 s.2 (said_now w i (num from) (num b.name) (reduced.Promised epoch s.0) s.1))
      (inl (promised_calm w.top w.journal (num b.name) mine calm_now (num from) epoch s.0 mine.part calm_now refl)) s.1 in
      cond_both (is_image image) (ruled b j rule) (brokers.idle b) (Stepped num j w i b) (λ _. goes) (λ _. quietly num j w i b ready (brokers.idle b) refl refl tt tt)

  -- An entry, with the head that its letter carries or one that was told since. One that no primary puts is passed over.
  pub replicate_stepped : (epoch offset head : ℕ) (entry : Entry) → MessageSeen num i.g.text w.said from b.name (wire.Replicate j epoch offset entry head) → Stepped num j w i b (broker_step.step b (Deliver from false (wire.Replicate j epoch offset entry head)))
  replicate_stepped epoch offset head entry s =
      let x = Added entry in
      let body = reduced.Replicate epoch s.0 x s.2 in
      let letter = rules.letter (num from) (num b.name) (reduced.Replicate epoch s.0 x s.1) in
      let ok : LetterOk i.K i.g letter = letter_now w i letter s.3 in
      let out = replicating.on_replicate j own from epoch offset entry head in
      let goes = rules.on_replicate (num b.name) mine (num from) epoch s.0 x s.2 in
      let step = on_replicate_seen num j b.name own mine ready.member (history w i) (node_now w i (num b.name)).spool from epoch offset head s.0 s.2 entry (said_now w i (num from) (num b.name) (reduced.Replicate epoch s.0 x s.1) s.3) s.4 s.5 in
      let comes : CanCome w.said (num from) (num b.name) body = elim s.7 [
        | inl e ↦ inl (subst (λ h. In (rules.letter (num from) (num b.name) (reduced.Replicate epoch s.0 x h)) w.said) (sym e) s.3)
        | inr t ↦ inr (record { epoch = epoch; offset = s.0; entry = x; carried = s.1; head = s.2; is = refl; was = s.3; told = t })
      ] in
      let told : HeadOk i.g epoch s.2 = elim s.7 [
        | inl e ↦ subst (λ h. HeadOk i.g epoch h) (sym e) ok.2
        | inr t ↦ letter_now w i (rules.letter (num from) (num b.name) (reduced.Head epoch s.2)) t
      ] in
      elim (cases_Bool (replicating.is_no_entry offset entry)) [
        | inl none ↦ (idle_ruled num same j w i b ready (λ req m. replicating.on_replicate j m from epoch offset entry head) (rw none refl)).step
        | inr some ↦ coming_stepped num same no_keys j w i b ready (num from) body
            (λ req m. replicating.on_replicate j m from epoch offset entry head)
            (subst (λ t. StepSeen num i.g.text b.name out (if t then rules.idle mine else goes)) some step)
            (inl (replicate_calm w.top w.journal (num b.name) mine calm_now (num from) epoch s.0 x s.2 (i.g.text epoch) prefix_now (i.nodes (num b.name)).body.image.fits (copy_now epoch)
            (λ e z. pre_next x (copy_now epoch e) (omega (arith, ok.0, z)) (subst (λ k. get_or (i.g.text epoch) k x ≡ x) z ok.1))
            (told_now epoch s.2 told)))
            comes
      ]
