-- What a rule sends is of its journal, or of none: each message to a member names the journal that the rule is of.
use Rattle.std.proofs.Common.{ℕ, List, refl, inl, inr, Option, Some, None}
use Rattle.std.specs.Prelude.{◌==◌, nat_lt, not}
use Rattle.std.proofs.lemmas.Bool.{cond_both}
use Rattle.gz_label.specs.declared.entry.Entry.{Entry}
use Rattle.gz_label.specs.declared.entry.Image.{Image}
use Rattle.gz_wire.specs.declared.msg.Send.{Send}
use Rattle.gz_wire.specs.declared.msg.Msg.TheVariants as wire
use Rattle.gz_spool.specs.Spools.{is_image, spool_end, extended}
use Rattle.gz_replica.specs.Member as full
use Rattle.gz_replica.specs.Member.{Member, to_each}
use Rattle.gz_replica.specs.Opening as opening
use Rattle.gz_replica.specs.Primary as primary
use Rattle.gz_replica.specs.Replicating as replicating
use Rattle.gz_replica.specs.Slots as full_slots
use Rattle.gz_replica.specs.declared.part.Part as full_parts
use Rattle.gz_replica.specs.declared.part.Part.TheVariants as full_part
use Rattle.gz_replica.specs.declared.part.Route as full_routes
use Rattle.gz_lineage.proofs.Listed.{each_append}
use Rattle.gz_steps.proofs.Others.{IsOf, AreOf, of_each}

module _ (k : List ℕ) where
  abbrev OutOf : full.Outcome → Type 0
  OutOf out = AreOf k out.sends

  pub promise_of : (m : Member) (from : List ℕ) (epoch : ℕ) → OutOf (replicating.on_promise k m from epoch)
  promise_of m from epoch = cond_both (nat_lt epoch m.promised) _ _ OutOf (λ _. (inr refl, tt)) (λ _. cond_both (nat_lt m.promised epoch) _ _ OutOf (λ _. (inl refl, tt)) (λ _. (inl refl, tt)))

  pub adopt_of : (m : Member) (from : List ℕ) (epoch : ℕ) (image : Image) → OutOf (replicating.on_adopt k m from epoch image)
  adopt_of m from epoch image = cond_both (not (is_image image)) _ _ OutOf (λ _. tt) (λ _. cond_both (nat_lt epoch m.promised) _ _ OutOf (λ _. (inr refl, tt))
      (λ _. cond_both (m.adopted == epoch) _ _ OutOf (λ _. (inl refl, tt)) (λ _. cond_both (nat_lt m.promised epoch) _ _ OutOf (λ _. (inl refl, tt)) (λ _. (inl refl, tt)))))

  pub replicate_of : (m : Member) (from : List ℕ) (epoch offset : ℕ) (entry : Entry) (head : ℕ) → OutOf (replicating.on_replicate k m from epoch offset entry head)
  replicate_of m from epoch offset entry head = cond_both (replicating.is_no_entry offset entry) _ _ OutOf (λ _. tt) (λ _. cond_both (nat_lt epoch m.promised) _ _ OutOf (λ _. (inr refl, tt))
      (λ _. cond_both (m.adopted == epoch) _ _ OutOf
      (λ _. cond_both (nat_lt (spool_end m.spool) offset) _ _ OutOf (λ _. (inr refl, tt)) (λ _. cond_both (offset == spool_end m.spool) _ _ OutOf (λ _. (inl refl, tt)) (λ _. (inl refl, tt))))
      (λ _. (inr refl, tt))))

  pub head_of : (m : Member) (epoch head begin : ℕ) → OutOf (replicating.on_head m epoch head begin)
  head_of m epoch head begin = cond_both (m.adopted == epoch) _ _ OutOf (λ _. tt) (λ _. tt)

  raised_of : (m : Member) (r : full_routes.Route) (held : List (List ℕ × ℕ)) (head : ℕ) → OutOf (primary.with_head k m r held head)
  raised_of m r held head = cond_both (nat_lt m.spool.head head) _ _ OutOf (λ _. of_each k _ (inl refl) r.others) (λ _. tt)

  pub put_of : (m : Member) (entry : Entry) (p : full_parts.Part) → OutOf (primary.put_entry k m entry p)
  put_of m entry (full_part.Open r held) = each_append (λ (s : Send). IsOf k s.msg) _ _ (of_each k _ (inl refl) r.others) (raised_of (record m { spool = extended entry m.spool }) r held _)
  put_of m entry p = tt

  pub held_of : (m : Member) (from : List ℕ) (epoch end : ℕ) (p : full_parts.Part) → OutOf (primary.on_held k m from epoch end p)
  held_of m from epoch end (full_part.Open r held) = cond_both (epoch == r.epoch) _ _ OutOf (λ _. raised_of m r (full_slots.held_raised from end held) _) (λ _. tt)
  held_of m from epoch end p = tt

  adopting_of : (req : ℕ) (m : Member) (r : full_routes.Route) (reached : full_slots.Slots ℕ) → OutOf (opening.adopting k req m r reached)
  adopting_of req m r reached = cond_both (full_slots.full reached) _ _ OutOf (λ _. (inr refl, tt)) (λ _. tt)

  opening_of : (req : ℕ) (m : Member) (r : full_routes.Route) (list_req : ℕ) (reports : full_slots.Slots full_slots.Report) (stored : Option ℕ) → OutOf (opening.opening_at k req m r list_req reports stored)
  opening_of req m r list_req reports None = tt
  opening_of req m r list_req reports (Some end) = cond_both (full_slots.full reports) _ _ OutOf
      (λ _. let image = opening.image_taken end (opening.better r.opened (Some (opening.own_report m)) (opening.best r.opened reports)) in
      let next : Member = record m { adopted = r.epoch; spool = image } in
      each_append (λ (s : Send). IsOf k s.msg) (to_each (wire.Adopt k r.epoch image) r.others) (opening.adopting k req next r (full_slots.slots_for r.others)).sends (of_each k (wire.Adopt k r.epoch image) (inl refl) r.others) (adopting_of req next r (full_slots.slots_for r.others))) (λ _. tt)

  pub promised_of : (req : ℕ) (m : Member) (from : List ℕ) (epoch : ℕ) (report : full_slots.Report) (p : full_parts.Part) → OutOf (opening.on_promised k req m from epoch report p)
  promised_of req m from epoch report (full_part.Opening r list_req reports stored) = cond_both (epoch == r.epoch) _ _ OutOf (λ _. opening_of req m r list_req (full_slots.fill from report reports) stored) (λ _. tt)
  promised_of req m from epoch report p = tt

  pub names_of : (req : ℕ) (m : Member) (end answered : ℕ) (p : full_parts.Part) → OutOf (opening.on_store_end k req m end answered p)
  names_of req m end answered (full_part.Opening r list_req reports None) = cond_both (answered == list_req) _ _ OutOf (λ _. opening_of req m r list_req reports (Some end)) (λ _. tt)
  names_of req m end answered p = tt

  pub adopted_of : (req : ℕ) (m : Member) (from : List ℕ) (epoch end : ℕ) (p : full_parts.Part) → OutOf (opening.on_adopted k req m from epoch end p)
  adopted_of req m from epoch end (full_part.Adopting r reached) = cond_both (epoch == r.epoch) _ _ OutOf (λ _. adopting_of req m r (full_slots.fill from end reached)) (λ _. tt)
  adopted_of req m from epoch end p = tt

  pub synced_of : (m : Member) (p : full_parts.Part) → OutOf (opening.on_synced k m p)
  synced_of m (full_part.Syncing r req) = of_each k _ (inl refl) r.others
  synced_of m p = tt
