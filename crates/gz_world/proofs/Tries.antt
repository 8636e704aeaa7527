-- What a converge writes is no member's key.
use Rattle.std.proofs.Common.{◌≡◌, ℕ, List, [], ◌∷◌, ◌++◌, filter_map, cond, Bool, true, false, Option, Some, None, option_map, refl}
use Rattle.std.specs.List.{cons_option}
use Rattle.gz_alloc.specs.Names.{is_problem}
use Rattle.gz_keyspace.specs.Keys.{same_key}
use Rattle.gz_converge.specs.declared.view.Listed.{Listed}
use Rattle.gz_converge.specs.declared.view.JournalView.{JournalView}
use Rattle.gz_converge.specs.declared.view.ShardView.{ShardView}
use Rattle.gz_converge.specs.declared.txn.Txn.{Txn}
use Rattle.gz_converge.specs.declared.answer.Converged.{Converged}
use Rattle.gz_converge.specs.Views.{View, route_key, assign_key}
use Rattle.gz_converge.specs.Cases.{next_route, next_list}
use Rattle.gz_converge.specs.Converged.{Pairs, Converges, ids, placed_on, txn_of, journal_txn, shard_txn, shards_asked, txns_of}
use Rattle.gz_registry.specs.Keys.{member_key}
use Rattle.gz_world.specs.Worlds.{AreOfNoMember}

one : (key : List ℕ) (old : Option Listed) (next : Option (List (List ℕ))) (ts : List Txn) → ((id : List ℕ) → same_key key (member_key id) ≡ false)
    → AreOfNoMember ts → AreOfNoMember (cons_option (option_map (txn_of key old) next) ts)
one key old None ts other rest = rest
one key old (Some new) ts other rest = (other, rest)

routes : (members : List (List ℕ)) (placed : Pairs) (js : List JournalView) → AreOfNoMember (filter_map (journal_txn members placed) js)
routes members placed [] = tt
routes members placed (j ∷ js) =
    one (route_key j.spec.name) j.route (next_route members (placed_on placed j.spec.name) j.route j.sync) _ (λ id. refl) (routes members placed js)

lists : (placed : Pairs) (ss : List ShardView) → AreOfNoMember (filter_map (shard_txn placed) ss)
lists placed [] = tt
lists placed (s ∷ ss) =
    one (assign_key s.spec.id) s.list (next_list (placed_on placed s.spec.id) s.list) _ (λ id. refl) (lists placed ss)

lists_if : (are_problem : Bool) (placed : Pairs) (ss : List ShardView) → AreOfNoMember (cond are_problem (filter_map (shard_txn placed) ss) [])
lists_if true placed ss = lists placed ss
lists_if false placed ss = tt

both : (xs ys : List Txn) → AreOfNoMember xs → AreOfNoMember ys → AreOfNoMember (xs ++ ys)
both [] ys first second = second
both (x ∷ xs) ys first second = (first.0, both xs ys first.1 second)

-- the transactions of a converge are of routes and lists
moves_no_member : (view : View) (journals shards : Pairs) → AreOfNoMember (txns_of view journals shards)
moves_no_member view journals shards =
    both _ _ (routes (ids view.members) journals view.journals) (lists_if (is_problem (shards_asked view)) shards view.shards)

pub answer_moves_no_member : (view : View) (goal : Pairs) (answer : Converged) → Converges view goal answer → AreOfNoMember answer.txns
answer_moves_no_member view goal answer is = rw is.txns (moves_no_member view answer.goal answer.shards)
