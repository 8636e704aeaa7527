-- What is printed of specifications has no fraction.
use Rattle.std.proofs.Common.{◌≡◌, ℕ, List, [], ◌∷◌, map, refl, codes, Bool, true, false, ◌||◌, Ordering, Less, Equal, Greater, nat_cmp}
use Rattle.std.specs.Cmp.Lexicographic.{slice_cmp}
use Rattle.std.specs.Ordering.{match_ordering}
use Rattle.serde_json.specs.Data.{Data, string, Members, no_members, member, put}
use Rattle.serde_json.specs.View.{items_of}
use Rattle.serde_json.specs.Written.{has_float, items_have_float, members_have_float}
use Rattle.gz_label.specs.declared.label.Label.{Label}
use Rattle.gz_spec.specs.Records.{JournalSpec, ShardSpec, Specs}
use Rattle.gz_print.specs.Printed.{first_values, label_members, journal_data, source_data, shard_data, member_data, four_lists, specs_data, specs_data_as}

none_first : (b c : Bool) → (b || c) ≡ false → b ≡ false
none_first true c none = none
none_first false c none = refl

none_behind : (b c : Bool) → (b || c) ≡ false → c ≡ false
none_behind true c none = cc
none_behind false c none = none

put_ordered : (o : Ordering) (k l : List ℕ) (d e : Data) (ms more : Members) → has_float d ≡ false → members_have_float (member l e ms) ≡ false → members_have_float more ≡ false
    → members_have_float (match_ordering o (member k d (member l e ms)) (member l d ms) (member l e more)) ≡ false
put_ordered Less k l d e ms more new none ih = rw (new, none) refl
put_ordered Equal k l d e ms more new none ih = rw (new, none_behind (has_float e) _ none) refl
put_ordered Greater k l d e ms more new none ih = rw (none_first (has_float e) _ none) ih

put_float : (k : List ℕ) (d : Data) (ms : Members) → has_float d ≡ false → members_have_float ms ≡ false → members_have_float (put k d ms) ≡ false
put_float k d no_members new none = rw new refl
put_float k d (member l e ms) new none = put_ordered (slice_cmp nat_cmp k l) k l d e ms _ new none (put_float k d ms new (none_behind (has_float e) _ none))

pub list_float : {A : Type 0} (f : A → Data) → ((a : A) → has_float (f a) ≡ false) → (xs : List A) → items_have_float (items_of (map f xs)) ≡ false
list_float f each [] = refl
list_float f each (x ∷ xs) = rw (each x, list_float f each xs) refl

labels_float : (ls : List Label) → members_have_float (label_members ls) ≡ false
labels_float [] = refl
labels_float (l ∷ ls) = put_float l.name _ (label_members ls) (list_float string (λ s. refl) (first_values l.name (l ∷ ls))) (labels_float ls)

pub journal_float : (j : JournalSpec) → has_float (journal_data j) ≡ false
journal_float j = rw (labels_float j.labels) refl

pub shard_float : (s : ShardSpec) → has_float (shard_data s) ≡ false
shard_float s = rw (labels_float s.labels, list_float source_data (λ u. refl) s.sources) refl

lists_float : (s : Specs) → members_have_float (four_lists s) ≡ false
lists_float s =
    rw (list_float member_data (λ m. refl) s.brokers, list_float member_data (λ m. refl) s.consumers, list_float journal_data journal_float s.journals, list_float shard_data shard_float s.shards) refl

pub journal_no_float : (d : Data) (j : JournalSpec) → d ≡ journal_data j → has_float d ≡ false
journal_no_float d j is = rw is (journal_float j)

pub shard_no_float : (d : Data) (s : ShardSpec) → d ≡ shard_data s → has_float d ≡ false
shard_no_float d s is = rw is (shard_float s)

pub specs_no_float : (d : Data) (s : Specs) → d ≡ specs_data s → has_float d ≡ false
specs_no_float d s is = rw is (lists_float s)

specs_as_float : (event : List ℕ) (s : Specs) → has_float (specs_data_as event s) ≡ false
unfolding specs_data_as
specs_as_float event s = put_float (codes "do") (string event) (four_lists s) refl (lists_float s)

pub specs_as_no_float : (d : Data) (event : List ℕ) (s : Specs) → d ≡ specs_data_as event s → has_float d ≡ false
specs_as_no_float d event s is = rw is (specs_as_float event s)
