-- Transactions, from what is placed and what comes next.
use Rattle.std.proofs.Common.{◌≡◌, ℕ, List, ap, sym, ◌∙◌, Option, Some, None}
use Rattle.std.specs.Prelude.{option_map}
use Rattle.gz_converge.specs.declared.view.JournalView.{JournalView}
use Rattle.gz_converge.specs.declared.view.ShardView.{ShardView}
use Rattle.gz_converge.specs.declared.txn.Txn.{Txn}
use Rattle.gz_converge.specs.Views.{route_key, assign_key}
use Rattle.gz_converge.specs.Cases.{next_route, next_list}
use Rattle.gz_converge.specs.Converged.{Pairs, placed_on, txn_of, journal_txn, shard_txn}

pub shard_stays : (placed : Pairs) (s : ShardView) (on : List (List ℕ)) (next : Option (List (List ℕ))) → on ≡ placed_on placed s.spec.id → next ≡ next_list on s.list → next ≡ None → None ≡ shard_txn placed s
shard_stays placed s on next e f none = ap (option_map (txn_of (assign_key s.spec.id) s.list)) (sym none ∙ f ∙ ap (λ (o : List (List ℕ)). next_list o s.list) e)

pub shard_moves : (placed : Pairs) (s : ShardView) (on : List (List ℕ)) (next : Option (List (List ℕ))) (new : List (List ℕ)) (key : List ℕ) (txn : Txn) → on ≡ placed_on placed s.spec.id → next ≡ next_list on s.list → next ≡ Some new
    → key ≡ assign_key s.spec.id → txn ≡ txn_of key s.list new → Some txn ≡ shard_txn placed s
shard_moves placed s on next new key txn e f some k t =
    ap Some (t ∙ ap (λ (k : List ℕ). txn_of k s.list new) k)
    ∙ ap (option_map (txn_of (assign_key s.spec.id) s.list)) (sym some ∙ f ∙ ap (λ (o : List (List ℕ)). next_list o s.list) e)

pub journal_stays : (members : List (List ℕ)) (placed : Pairs) (j : JournalView) (on : List (List ℕ)) (next : Option (List (List ℕ))) → on ≡ placed_on placed j.spec.name → next ≡ next_route members on j.route j.sync → next ≡ None
    → None ≡ journal_txn members placed j
journal_stays members placed j on next e f none = ap (option_map (txn_of (route_key j.spec.name) j.route)) (sym none ∙ f ∙ ap (λ (o : List (List ℕ)). next_route members o j.route j.sync) e)

pub journal_moves : (members : List (List ℕ)) (placed : Pairs) (j : JournalView) (on : List (List ℕ)) (next : Option (List (List ℕ))) (new : List (List ℕ)) (key : List ℕ) (txn : Txn) → on ≡ placed_on placed j.spec.name
    → next ≡ next_route members on j.route j.sync → next ≡ Some new → key ≡ route_key j.spec.name → txn ≡ txn_of key j.route new → Some txn ≡ journal_txn members placed j
journal_moves members placed j on next new key txn e f some k t =
    ap Some (t ∙ ap (λ (k : List ℕ). txn_of k j.route new) k)
    ∙ ap (option_map (txn_of (route_key j.spec.name) j.route)) (sym some ∙ f ∙ ap (λ (o : List (List ℕ)). next_route members o j.route j.sync) e)
