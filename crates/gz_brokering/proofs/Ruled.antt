-- Rules that number no request, and rules that send nothing.
use Rattle.std.proofs.Common.{◌≡◌, ℕ, ◌==◌, List, [], refl, not}
use Rattle.std.specs.Prelude.{nat_lt}
use Rattle.std.proofs.lemmas.Bool.{cond_both}
use Rattle.gz_label.specs.declared.entry.Entry.{Entry}
use Rattle.gz_label.specs.declared.entry.Image.{Image}
use Rattle.gz_spool.specs.Spools.{spool_end, is_image, extended}
use Rattle.gz_replica.specs.declared.part.Part.{Part}
use Rattle.gz_replica.specs.declared.part.Part.TheVariants.{Closed, Opening, Adopting, Syncing, Open}
use Rattle.gz_replica.specs.Member.{Member, Outcome}
use Rattle.gz_replica.specs.Slots.{held_raised, least}
use Rattle.gz_replica.specs.Opening.{on_synced, on_sync_refused}
use Rattle.gz_replica.specs.Replicating.{on_promise, on_adopt, on_replicate, on_head, is_no_entry}
use Rattle.gz_replica.specs.Primary.{on_held, on_stored, put_entry}

pub promise_numbers : (j : List ℕ) (m : Member) (from : List ℕ) (epoch : ℕ) → (on_promise j m from epoch).numbered ≡ 0
promise_numbers j m from epoch = cond_both (nat_lt epoch m.promised) _ _ (λ (out : Outcome). out.numbered ≡ 0) (λ _. refl)
    (λ _. cond_both (nat_lt m.promised epoch) _ _ (λ (out : Outcome). out.numbered ≡ 0) (λ _. refl) (λ _. refl))

pub adopt_numbers : (j : List ℕ) (m : Member) (from : List ℕ) (epoch : ℕ) (image : Image) → (on_adopt j m from epoch image).numbered ≡ 0
adopt_numbers j m from epoch image = cond_both (not (is_image image)) _ _ (λ (out : Outcome). out.numbered ≡ 0) (λ _. refl)
    (λ _. cond_both (nat_lt epoch m.promised) _ _ (λ (out : Outcome). out.numbered ≡ 0) (λ _. refl)
    (λ _. cond_both (m.adopted == epoch) _ _ (λ (out : Outcome). out.numbered ≡ 0) (λ _. refl)
    (λ _. cond_both (nat_lt m.promised epoch) _ _ (λ (out : Outcome). out.numbered ≡ 0) (λ _. refl) (λ _. refl))))

pub replicate_numbers : (j : List ℕ) (m : Member) (from : List ℕ) (epoch offset : ℕ) (entry : Entry) (head : ℕ) → (on_replicate j m from epoch offset entry head).numbered ≡ 0
replicate_numbers j m from epoch offset entry head = cond_both (is_no_entry offset entry) _ _ (λ (out : Outcome). out.numbered ≡ 0) (λ _. refl)
    (λ _. cond_both (nat_lt epoch m.promised) _ _ (λ (out : Outcome). out.numbered ≡ 0) (λ _. refl)
    (λ _. cond_both (m.adopted == epoch) _ _ (λ (out : Outcome). out.numbered ≡ 0)
    (λ _. cond_both (nat_lt (spool_end m.spool) offset) _ _ (λ (out : Outcome). out.numbered ≡ 0) (λ _. refl)
    (λ _. cond_both (offset == spool_end m.spool) _ _ (λ (out : Outcome). out.numbered ≡ 0) (λ _. refl) (λ _. refl)))
    (λ _. refl)))

pub held_numbers : (j : List ℕ) (m : Member) (from : List ℕ) (epoch end : ℕ) (part : Part) → (on_held j m from epoch end part).numbered ≡ 0
held_numbers j m from epoch end Closed = refl
held_numbers j m from epoch end (Opening r req reports stored) = refl
held_numbers j m from epoch end (Adopting r reached) = refl
held_numbers j m from epoch end (Syncing r req) = refl
held_numbers j m from epoch end (Open r held) = cond_both (epoch == r.epoch) _ _ (λ (out : Outcome). out.numbered ≡ 0)
    (λ _. cond_both (nat_lt m.spool.head (least (spool_end m.spool) (held_raised from end held))) _ _ (λ (out : Outcome). out.numbered ≡ 0) (λ _. refl) (λ _. refl))
    (λ _. refl)

pub head_numbers : (m : Member) (epoch head begin : ℕ) → (on_head m epoch head begin).numbered ≡ 0
head_numbers m epoch head begin = cond_both (m.adopted == epoch) _ _ (λ (out : Outcome). out.numbered ≡ 0) (λ _. refl) (λ _. refl)

pub head_sends : (m : Member) (epoch head begin : ℕ) → (on_head m epoch head begin).sends ≡ []
head_sends m epoch head begin = cond_both (m.adopted == epoch) _ _ (λ (out : Outcome). out.sends ≡ []) (λ _. refl) (λ _. refl)

pub synced_numbers : (j : List ℕ) (m : Member) (part : Part) → (on_synced j m part).numbered ≡ 0
synced_numbers j m Closed = refl
synced_numbers j m (Opening r req reports stored) = refl
synced_numbers j m (Adopting r reached) = refl
synced_numbers j m (Syncing r req) = refl
synced_numbers j m (Open r held) = refl

pub refused_numbers : (m : Member) (part : Part) → (on_sync_refused m part).numbered ≡ 0
refused_numbers m Closed = refl
refused_numbers m (Opening r req reports stored) = refl
refused_numbers m (Adopting r reached) = refl
refused_numbers m (Syncing r req) = refl
refused_numbers m (Open r held) = refl

pub refused_sends : (m : Member) (part : Part) → (on_sync_refused m part).sends ≡ []
refused_sends m Closed = refl
refused_sends m (Opening r req reports stored) = refl
refused_sends m (Adopting r reached) = refl
refused_sends m (Syncing r req) = refl
refused_sends m (Open r held) = refl

pub stored_numbers : (j : List ℕ) (m : Member) (end : ℕ) (part : Part) → (on_stored j m end part).numbered ≡ 0
stored_numbers j m end Closed = refl
stored_numbers j m end (Opening r req reports stored) = refl
stored_numbers j m end (Adopting r reached) = refl
stored_numbers j m end (Syncing r req) = refl
stored_numbers j m end (Open r held) = refl

pub put_numbers : (j : List ℕ) (m : Member) (entry : Entry) (part : Part) → (put_entry j m entry part).numbered ≡ 0
put_numbers j m entry Closed = refl
put_numbers j m entry (Opening r req reports stored) = refl
put_numbers j m entry (Adopting r reached) = refl
put_numbers j m entry (Syncing r req) = refl
put_numbers j m entry (Open r held) =
    cond_both (nat_lt m.spool.head (least (spool_end (extended entry m.spool)) held)) _ _ (λ (out : Outcome). out.numbered ≡ 0) (λ _. refl) (λ _. refl)
