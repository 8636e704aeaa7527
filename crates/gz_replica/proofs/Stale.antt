-- Below the promised epoch nothing changes: each rule's refusal leaves the member as it is.
use Rattle.std.proofs.Common.{◌≡◌, ℕ, ◌<◌, List, refl, arith}
use Rattle.std.specs.Prelude.{not, nat_lt}
use Rattle.std.proofs.lemmas.Bool.{cond_both, ltb-false}
use Rattle.gz_label.specs.declared.entry.Entry.{Entry}
use Rattle.gz_label.specs.declared.entry.Image.{Image}
use Rattle.gz_spool.specs.Spools.{is_image}
use Rattle.gz_replica.specs.Member.{Member, Outcome}
use Rattle.gz_replica.specs.Replicating.{on_promise, on_adopt, on_replicate, is_no_entry}

module _ (m : Member) (epoch : ℕ) (less : epoch < m.promised) where
  abbrev Stays : Outcome → Type 0
  Stays out = out.member ≡ m

  pub stale_promise : (j from : List ℕ) → (on_promise j m from epoch).member ≡ m
  stale_promise j from = cond_both (nat_lt epoch m.promised) _ _ Stays (λ _. refl) (λ t. absurd (let x = ltb-false epoch m.promised t in omega arith))

  pub stale_adopt : (j from : List ℕ) (image : Image) → (on_adopt j m from epoch image).member ≡ m
  stale_adopt j from image = cond_both (not (is_image image)) _ _ Stays (λ _. refl)
      (λ _. cond_both (nat_lt epoch m.promised) _ _ Stays (λ _. refl) (λ t. absurd (let x = ltb-false epoch m.promised t in omega arith)))

  pub stale_replicate : (j from : List ℕ) (offset : ℕ) (entry : Entry) (head : ℕ) → (on_replicate j m from epoch offset entry head).member ≡ m
  stale_replicate j from offset entry head = cond_both (is_no_entry offset entry) _ _ Stays (λ _. refl)
      (λ _. cond_both (nat_lt epoch m.promised) _ _ Stays (λ _. refl) (λ t. absurd (let x = ltb-false epoch m.promised t in omega arith)))
