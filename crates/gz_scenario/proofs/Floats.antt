-- What is printed doesn't nest too deep, and has no float.
use Rattle.std.proofs.Common.{◌≡◌, ◌≤◌, ℕ, suc, max, List, [], ◌∷◌, map, refl, false, arith, lit≤}
use Rattle.std.proofs.Math.Nat.{max-le}
use Rattle.std.proofs.lemmas.Grind.{common_steps}
use Rattle.serde_json.specs.Data.{depth, items_depth}
use Rattle.serde_json.specs.View.{items_of}
use Rattle.serde_json.specs.Read.{max_depth}
use Rattle.serde_json.specs.Written.{has_float, items_have_float}
use Rattle.gz_print.specs.Printed.{journal_data, shard_data}
use Rattle.gz_spec.specs.Records.{Specs}
use Rattle.gz_print.proofs.Datas.{list_float, journal_float, shard_float}
use Rattle.gz_print.proofs.Depths.{list_deep, one_up, wider, journal_deep, shard_deep}
use Rattle.gz_scenario.specs.Printed.{draft_data, publish_data, settle_data, converge_data, apply_data, join_data, expire_data}
use Rattle.gz_scenario.specs.declared.event.Draft.{Draft}
use Rattle.gz_scenario.specs.declared.event.Publish.{Publish}
use Rattle.gz_scenario.specs.declared.event.Join.{Join}

draft_no_float : (m : Draft) → has_float (draft_data m) ≡ false
unfolding draft_data
draft_no_float m = refl

drafts_no_float : (ms : List Draft) → items_have_float (items_of (map draft_data ms)) ≡ false
drafts_no_float [] = refl
drafts_no_float (m ∷ ms) = rw (draft_no_float m, drafts_no_float ms) refl

pub publish_no_float : (p : Publish) → has_float (publish_data p) ≡ false
unfolding publish_data
publish_no_float p = rw (drafts_no_float p.messages) refl

pub settle_no_float : has_float settle_data ≡ false
unfolding settle_data
settle_no_float = refl

pub converge_no_float : has_float converge_data ≡ false
unfolding converge_data
converge_no_float = refl

draft_depth : (m : Draft) → depth (draft_data m) ≡ 1
unfolding draft_data
draft_depth m = refl

max_one : (n : ℕ) → n ≤ 1 → max 1 n ≤ 1
max_one n h = grind (arith, common_steps)

drafts_depth : (ms : List Draft) → items_depth (items_of (map draft_data ms)) ≤ 1
drafts_depth [] = omega arith
drafts_depth (m ∷ ms) = rw (draft_depth m) (max_one (items_depth (items_of (map draft_data ms))) (drafts_depth ms))

below_max : (n : ℕ) → n ≤ 1 → suc (max 0 (max 0 (max 0 (max (suc n) (max 0 0))))) ≤ max_depth
below_max n h = grind (arith, common_steps)

pub publish_depth : (p : Publish) → depth (publish_data p) ≤ max_depth
unfolding publish_data
publish_depth p = below_max (items_depth (items_of (map draft_data p.messages))) (drafts_depth p.messages)

pub settle_depth : depth settle_data ≤ max_depth
unfolding settle_data
settle_depth = omega arith

pub converge_depth : depth converge_data ≤ max_depth
unfolding converge_data
converge_depth = omega arith

pub apply_no_float : (part : Specs) → has_float (apply_data part) ≡ false
unfolding apply_data
apply_no_float part = rw (list_float journal_data journal_float part.journals, list_float shard_data shard_float part.shards) refl

pub apply_depth : (part : Specs) → depth (apply_data part) ≤ max_depth
unfolding apply_data
apply_depth part =
    wider _ 5 127
    (one_up _ 4 (max-le (lit≤ tt) (max-le (one_up _ 3 (list_deep 3 journal_data journal_deep part.journals))
    (max-le (one_up _ 3 (list_deep 3 shard_data shard_deep part.shards)) (lit≤ tt))))) (lit≤ tt)

pub join_no_float : (j : Join) → has_float (join_data j) ≡ false
unfolding join_data
join_no_float j = refl

pub join_depth : (j : Join) → depth (join_data j) ≤ max_depth
unfolding join_data
join_depth j = lit≤ tt

pub expire_no_float : (id : List ℕ) → has_float (expire_data id) ≡ false
unfolding expire_data
expire_no_float id = refl

pub expire_depth : (id : List ℕ) → depth (expire_data id) ≤ max_depth
unfolding expire_data
expire_depth id = lit≤ tt
