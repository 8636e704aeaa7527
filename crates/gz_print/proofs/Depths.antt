-- How deep what is printed of specifications nests.
use Rattle.std.proofs.Common.{ℕ, suc, max, ◌≤◌, List, [], ◌∷◌, map, arith, codes, lit≤, Ordering, Less, Equal, Greater, nat_cmp}
use Rattle.std.proofs.Math.Nat.{le-max_left, le-max_right, max-le}
use Rattle.std.specs.Cmp.Lexicographic.{slice_cmp}
use Rattle.std.specs.Ordering.{match_ordering}
use Rattle.serde_json.specs.Data.{Data, string, Members, no_members, member, put, depth, items_depth, members_depth}
use Rattle.serde_json.specs.View.{items_of}
use Rattle.serde_json.specs.Read.{max_depth}
use Rattle.gz_label.specs.declared.label.Label.{Label}
use Rattle.gz_spec.specs.Records.{JournalSpec, SourceSpec, ShardSpec, Specs}
use Rattle.gz_print.specs.Printed.{list_data, first_values, label_members, journal_data, source_data, shard_data, member_data, four_lists, specs_data, specs_data_as}

first_part : (a b n : ℕ) → max a b ≤ n → a ≤ n
first_part a b n most = let l = le-max_left a b in omega arith

last_part : (a b n : ℕ) → max a b ≤ n → b ≤ n
last_part a b n most = let l = le-max_right a b in omega arith

put_ordered : (o : Ordering) (n : ℕ) (k l : List ℕ) (d e : Data) (ms more : Members) → depth d ≤ n → members_depth (member l e ms) ≤ n → members_depth more ≤ n
    → members_depth (match_ordering o (member k d (member l e ms)) (member l d ms) (member l e more)) ≤ n
put_ordered Less n k l d e ms more new old ih = max-le new old
put_ordered Equal n k l d e ms more new old ih = max-le new (last_part (depth e) (members_depth ms) n old)
put_ordered Greater n k l d e ms more new old ih = max-le (first_part (depth e) (members_depth ms) n old) ih

put_deep : (n : ℕ) (k : List ℕ) (d : Data) (ms : Members) → depth d ≤ n → members_depth ms ≤ n → members_depth (put k d ms) ≤ n
put_deep n k d no_members new old = max-le new old
put_deep n k d (member l e ms) new old =
    put_ordered (slice_cmp nat_cmp k l) n k l d e ms _ new old (put_deep n k d ms new (last_part (depth e) (members_depth ms) n old))

pub list_deep : {A : Type 0} (n : ℕ) (f : A → Data) → ((a : A) → depth (f a) ≤ n) → (xs : List A) → items_depth (items_of (map f xs)) ≤ n
list_deep n f each [] = omega arith
list_deep n f each (x ∷ xs) = max-le (each x) (list_deep n f each xs)

pub one_up : (a n : ℕ) → a ≤ n → suc a ≤ suc n
one_up a n le = omega arith

pub wider : (a m n : ℕ) → a ≤ m → m ≤ n → a ≤ n
wider a m n f g = omega arith

members_deep : (ls : List Label) → members_depth (label_members ls) ≤ 1
members_deep [] = lit≤ tt
members_deep (l ∷ ls) = put_deep 1 l.name _ (label_members ls) (one_up _ 0 (list_deep 0 string (λ v. lit≤ tt) (first_values l.name (l ∷ ls)))) (members_deep ls)

pub journal_deep : (j : JournalSpec) → depth (journal_data j) ≤ 3
journal_deep j = one_up _ 2 (max-le (lit≤ tt) (max-le (one_up _ 1 (members_deep j.labels)) (lit≤ tt)))

sources_deep : (ss : List SourceSpec) → depth (list_data (map source_data ss)) ≤ 2
sources_deep ss = one_up _ 1 (list_deep 1 source_data (λ s. lit≤ tt) ss)

pub shard_deep : (s : ShardSpec) → depth (shard_data s) ≤ 3
shard_deep s =
    one_up _ 2
    (max-le (lit≤ tt) (max-le (lit≤ tt) (max-le (lit≤ tt) (max-le (lit≤ tt) (max-le (lit≤ tt)
    (max-le (one_up _ 1 (members_deep s.labels)) (max-le (lit≤ tt) (max-le (sources_deep s.sources) (lit≤ tt)))))))))

lists_deep : (s : Specs) → members_depth (four_lists s) ≤ 4
lists_deep s =
    max-le (one_up _ 3 (list_deep 3 member_data (λ m. lit≤ tt) s.brokers))
    (max-le (one_up _ 3 (list_deep 3 member_data (λ m. lit≤ tt) s.consumers))
    (max-le (one_up _ 3 (list_deep 3 journal_data journal_deep s.journals))
    (max-le (one_up _ 3 (list_deep 3 shard_data shard_deep s.shards)) (lit≤ tt))))

specs_as_deep : (event : List ℕ) (s : Specs) → depth (specs_data_as event s) ≤ 5
unfolding specs_data_as
specs_as_deep event s = one_up _ 4 (put_deep 4 (codes "do") (string event) (four_lists s) (lit≤ tt) (lists_deep s))

pub journal_nests : (j : JournalSpec) → depth (journal_data j) ≤ max_depth
journal_nests j = wider _ 3 127 (journal_deep j) (lit≤ tt)

pub shard_nests : (s : ShardSpec) → depth (shard_data s) ≤ max_depth
shard_nests s = wider _ 3 127 (shard_deep s) (lit≤ tt)

pub specs_nest : (s : Specs) → depth (specs_data s) ≤ max_depth
specs_nest s = wider _ 5 127 (one_up _ 4 (lists_deep s)) (lit≤ tt)

pub specs_as_nest : (event : List ℕ) (s : Specs) → depth (specs_data_as event s) ≤ max_depth
specs_as_nest event s = wider _ 5 127 (specs_as_deep event s) (lit≤ tt)
