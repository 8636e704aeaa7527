-- What is printed of a commit has no fraction and nests little.
use Rattle.std.proofs.Common.{◌≡◌, ℕ, suc, ◌≤◌, List, [], ◌∷◌, map, refl, arith, lit≤, false, Option, Some, None, subst, sym}
use Rattle.std.proofs.Math.Nat.{max-le}
use Rattle.std.specs.Map.{keys_of}
use Rattle.serde_json.specs.Data.{Data, Members, depth, items_depth, members_depth}
use Rattle.serde_json.specs.View.{items_of}
use Rattle.serde_json.specs.Read.{max_depth}
use Rattle.serde_json.specs.Written.{has_float, items_have_float, members_have_float}
use Rattle.gz_sequencer.specs.Machine.{Mark}
use Rattle.gz_app.specs.States.{State, kept_data, state_data, AreKeys}
use Rattle.gz_app.specs.declared.state.Kept.{Kept}
use Rattle.gz_app.specs.declared.state.Kept.TheVariants.{Number, Text}
use Rattle.gz_store.specs.Stores.{Source, Checkpoint, Store, intent_data, producer_data, source_data, checkpoint_data, store_data}
use Rattle.gz_store.proofs.InOrder.{members_in, state_members}

-- ---- no fraction

list_whole : {A : Type 0} (f : A → Data) → ((a : A) → has_float (f a) ≡ false) → (xs : List A) → items_have_float (items_of (map f xs)) ≡ false
list_whole f each [] = refl
list_whole f each (x ∷ xs) = rw (each x, list_whole f each xs) refl

producer_again : (id : List ℕ) (ack pending : Option ℕ) → has_float (producer_data (id, record { ack = ack; pending = pending })) ≡ false
producer_again id None None = refl
producer_again id None (Some m) = refl
producer_again id (Some n) None = refl
producer_again id (Some n) (Some m) = refl

producer_whole : (e : List ℕ × Mark) → has_float (producer_data e) ≡ false
producer_whole e = producer_again e.0 e.1.ack e.1.pending

source_whole : (s : Source) → has_float (source_data s) ≡ false
source_whole s = rw (list_whole producer_data producer_whole s.point.producers) refl

checkpoint_whole : (c : Checkpoint) → has_float (checkpoint_data c) ≡ false
checkpoint_whole c = rw (list_whole intent_data (λ i. refl) c.intents, list_whole source_data source_whole c.sources) refl

kept_whole : (kept : Kept) → has_float (kept_data kept) ≡ false
kept_whole (Number n) = refl
kept_whole (Text t) = refl

members_whole : (es : State) → members_have_float (members_in es) ≡ false
members_whole [] = refl
members_whole (e ∷ es) = rw (kept_whole e.1, members_whole es) refl

state_whole : (es : State) → AreKeys (keys_of es) → has_float (state_data es) ≡ false
state_whole es keys = subst (λ (ms : Members). members_have_float ms ≡ false) (sym (state_members es keys)) (members_whole es)

pub store_whole : (s : Store) → AreKeys (keys_of s.state) → has_float (store_data s) ≡ false
store_whole s keys = rw (checkpoint_whole s.checkpoint, state_whole s.state keys) refl

-- ---- how deep it nests

list_deep : {A : Type 0} (n : ℕ) (f : A → Data) → ((a : A) → depth (f a) ≤ n) → (xs : List A) → items_depth (items_of (map f xs)) ≤ n
list_deep n f each [] = omega arith
list_deep n f each (x ∷ xs) = max-le (each x) (list_deep n f each xs)

one_up : (a n : ℕ) → a ≤ n → suc a ≤ suc n
one_up a n le = omega arith

wider : (a m n : ℕ) → a ≤ m → m ≤ n → a ≤ n
wider a m n f g = omega arith

producer_nests : (id : List ℕ) (ack pending : Option ℕ) → depth (producer_data (id, record { ack = ack; pending = pending })) ≤ 1
producer_nests id None None = lit≤ tt
producer_nests id None (Some m) = lit≤ tt
producer_nests id (Some n) None = lit≤ tt
producer_nests id (Some n) (Some m) = lit≤ tt

producer_deep : (e : List ℕ × Mark) → depth (producer_data e) ≤ 1
producer_deep e = producer_nests e.0 e.1.ack e.1.pending

source_deep : (s : Source) → depth (source_data s) ≤ 3
source_deep s = one_up _ 2 (max-le (lit≤ tt) (max-le (lit≤ tt) (max-le (one_up _ 1 (list_deep 1 producer_data producer_deep s.point.producers)) (lit≤ tt))))

checkpoint_deep : (c : Checkpoint) → depth (checkpoint_data c) ≤ 5
checkpoint_deep c =
    one_up _ 4 (max-le (one_up _ 3 (list_deep 3 intent_data (λ i. lit≤ tt) c.intents)) (max-le (one_up _ 3 (list_deep 3 source_data source_deep c.sources)) (lit≤ tt)))

kept_deep : (kept : Kept) → depth (kept_data kept) ≤ 4
kept_deep (Number n) = lit≤ tt
kept_deep (Text t) = lit≤ tt

members_deep : (es : State) → members_depth (members_in es) ≤ 4
members_deep [] = lit≤ tt
members_deep (e ∷ es) = max-le (kept_deep e.1) (members_deep es)

state_deep : (es : State) → AreKeys (keys_of es) → depth (state_data es) ≤ 5
state_deep es keys = one_up _ 4 (subst (λ (ms : Members). members_depth ms ≤ 4) (sym (state_members es keys)) (members_deep es))

pub store_nests : (s : Store) → AreKeys (keys_of s.state) → depth (store_data s) ≤ max_depth
store_nests s keys = wider _ 6 127 (one_up _ 5 (max-le (checkpoint_deep s.checkpoint) (max-le (state_deep s.state keys) (lit≤ tt)))) (lit≤ tt)
