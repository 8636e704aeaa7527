-- Problems and placements by names.
use Rattle.std.specs.Prelude.{◌≡◌, ℕ, ◌+◌, ◌*◌, ◌<◌, ◌==◌, ◌&&◌, ◌++◌, Bool, true, false, nat_le, nat_lt, List, [], ◌∷◌, length, map, slice_index_or, if◌then◌else◌, not, replicate, suc}
use Prim.Native.Nat.{zero}
use Rattle.std.specs.List.{list_any, list_all}
use Rattle.std.specs.Ordering.{nat_cmp, is_lt}
use Rattle.std.specs.Cmp.Lexicographic.{pointwise, slice_cmp}
use Rattle.gz_alloc.specs.declared.problem.Item.{Item}
use Rattle.gz_alloc.specs.declared.problem.Member.{Member}
use Rattle.gz_alloc.specs.Sums.{all_to}
use Rattle.gz_alloc.specs.Flow.{Net, Cells, Keeps, row, load, in_zone, zone_bound, replicas, limit, zone, items, members, total, capacity, cells_of, set_cell, is_zone}
use Rattle.gz_alloc.specs.Search.{Marks, is_chosen, is_zone_chosen}

-- what is asked
pub record Asked : Type 0 where
  pub items : List Item
  pub members : List Member

abbrev pub item_names : Asked → List (List ℕ)
item_names asked = map (λ i. i.name) asked.items

abbrev pub member_names : Asked → List (List ℕ)
member_names asked = map (λ m. m.name) asked.members

abbrev pub zone_names : Asked → List (List ℕ)
zone_names asked = map (λ m. m.zone) asked.members

-- two names are the same
abbrev pub same : List ℕ → List ℕ → Bool
same a b = pointwise ◌==◌ a b

abbrev pub name_at : List (List ℕ) → ℕ → List ℕ
name_at names i = slice_index_or names i []

-- the place of the first name that is the same, or how many names there are
abbrev pub place_of : List ℕ → List (List ℕ) → ℕ
place_of name [] = 0
place_of name (n ∷ ns) = if same n name then 0 else suc (place_of name ns)

-- each name is below the next one
abbrev pub rises_at : List (List ℕ) → ℕ → Bool
rises_at names i = if nat_lt (i + 1) (length names) then is_lt (slice_cmp nat_cmp (name_at names i) (name_at names (i + 1))) else true

abbrev pub rises : List (List ℕ) → Bool
rises names = all_to (length names) (rises_at names)

-- The problem by numbers. A zone's number is the place of its first member.
abbrev pub net_of : Asked → Net
net_of asked = record {
  replicas = map (λ i. i.replicas) asked.items;
  limits = map (λ m. m.limit) asked.members;
  zones = map (λ m. place_of m.zone (zone_names asked)) asked.members;
}

-- at most 1,024 items and 64 members, each under a name of its own and in the order of names, with 1 to 5 replicas and limits of at most 1,024
abbrev pub is_problem : Asked → Bool
is_problem asked = nat_le (length asked.items) 1024 && (nat_le (length asked.members) 64 && (rises (item_names asked) && (rises (member_names asked)
    && (all_to (length asked.items) (λ i. nat_lt 0 (replicas (net_of asked) i) && nat_le (replicas (net_of asked) i) 5)
    && all_to (length asked.members) (λ m. nat_le (limit (net_of asked) m) 1024)))))

-- the list has a pair of these names
abbrev pub has : List (List ℕ × List ℕ) → List ℕ → List ℕ → Bool
has pairs a b = list_any (λ p. same p.0 a && same p.1 b) pairs

-- which items and members of the problem are pairs
abbrev pub paired : Asked → List (List ℕ × List ℕ) → Cells
paired asked pairs i m = has pairs (name_at (item_names asked) i) (name_at (member_names asked) m)

-- the pair is of the problem's items and members
abbrev pub is_known : Asked → List ℕ × List ℕ → Bool
is_known asked p = nat_lt (place_of p.0 (item_names asked)) (items (net_of asked)) && nat_lt (place_of p.1 (member_names asked)) (members (net_of asked))

-- the pairs are of the problem's items and members, and keep its bounds
pub record IsFeasible (asked : Asked) (pairs : List (List ℕ × List ℕ)) : Type 0 where
  pub known : list_all (is_known asked) pairs ≡ true
  pub keeps : Keeps (net_of asked) (paired asked pairs)

-- how many pairs of the problem's items and members a placement has
abbrev pub size : Asked → List (List ℕ × List ℕ) → ℕ
size asked pairs = total (net_of asked) (paired asked pairs)

-- the cut has the member
abbrev pub cuts_member : Asked → List (List ℕ) → ℕ → Bool
cuts_member asked names m = list_any (λ n. same n (name_at (member_names asked) m)) names

-- the cut has the pair of the item and the zone
abbrev pub cuts_zone : Asked → List (List ℕ × List ℕ) → ℕ → ℕ → Bool
cuts_zone asked pairs i z = has pairs (name_at (item_names asked) i) (name_at (zone_names asked) z)

-- A chosen member counts with its limit. A chosen pair of an item and a zone counts with the lesser of the item's bound and the number of the zone's members that aren't chosen. An item that isn't cut counts with its replicas.
abbrev pub cut_capacity : Asked → List (List ℕ) → List (List ℕ × List ℕ) → ℕ
cut_capacity asked names pairs = capacity (net_of asked) (cuts_member asked names) (cuts_zone asked pairs)

-- each pair in order, where it is known
abbrev pub mark_pair : Asked → List Bool → List ℕ × List ℕ → List Bool
mark_pair asked flags p = if is_known asked p then set_cell flags (place_of p.0 (item_names asked)) (place_of p.1 (member_names asked)) true else flags

abbrev pub mark_pairs : Asked → List (List ℕ × List ℕ) → List Bool → List Bool
mark_pairs asked [] flags = flags
mark_pairs asked (p ∷ ps) flags = mark_pairs asked ps (mark_pair asked flags p)

-- two tables agree
abbrev pub Agree : Net → Cells → Cells → Type 0
Agree net x y = (i m : ℕ) → i < items net → m < members net → x i m ≡ y i m

-- the table with one more pair, where it keeps the bounds
abbrev pub fits : Net → Cells → ℕ → ℕ → Bool
fits net x i m = not (x i m) && (nat_lt (row net x i) (replicas net i) && (nat_lt (load net x m) (limit net m) && nat_lt (in_zone net x i (zone net m)) (zone_bound (replicas net i))))

abbrev pub add_where_fits : Net → List Bool → ℕ → ℕ → List Bool
add_where_fits net flags i m = if fits net (cells_of flags) i m then set_cell flags i m true else flags

-- each pair in order, where it is known and fits
abbrev pub keep_pair : Asked → List Bool → List ℕ × List ℕ → List Bool
keep_pair asked flags p = if is_known asked p then add_where_fits (net_of asked) flags (place_of p.0 (item_names asked)) (place_of p.1 (member_names asked)) else flags

abbrev pub keep_pairs : Asked → List (List ℕ × List ℕ) → List Bool → List Bool
keep_pairs asked [] flags = flags
keep_pairs asked (p ∷ ps) flags = keep_pairs asked ps (keep_pair asked flags p)

-- the first k members for an item, where they fit
abbrev pub fill_row : Net → ℕ → ℕ → List Bool → List Bool
fill_row net i zero flags = flags
fill_row net i (suc m) flags = add_where_fits net (fill_row net i m flags) i m

abbrev pub fill : Net → ℕ → List Bool → List Bool
fill net zero flags = flags
fill net (suc i) flags = fill_row net i (members net) (fill net i flags)

-- The greedy table: the pairs of now in order, and then all pairs in order, each where the result stays feasible.
abbrev pub greedy : Asked → List (List ℕ × List ℕ) → List Bool
greedy asked now = fill (net_of asked) (items (net_of asked)) (keep_pairs asked now (replicate (64 * items (net_of asked)) false))

-- the numbers below n that pass, each as a value
abbrev pub picks : {A : Type 0} → ℕ → (ℕ → Bool) → (ℕ → A) → List A
picks zero p f = []
picks (suc n) p f = picks n p f ++ (if p n then f n ∷ [] else [])

abbrev pub gather : {A : Type 0} → ℕ → (ℕ → List A) → List A
gather zero f = []
gather (suc n) f = gather n f ++ f n

-- the pairs of a table, in the order of items and members
abbrev pub pairs_of : Asked → Cells → List (List ℕ × List ℕ)
pairs_of asked x = gather (items (net_of asked)) (λ i. picks (members (net_of asked)) (x i) (λ m. (name_at (item_names asked) i, name_at (member_names asked) m)))

-- the greedy placement
abbrev pub greedy_pairs : Asked → List (List ℕ × List ℕ) → List (List ℕ × List ℕ)
greedy_pairs asked now = pairs_of asked (cells_of (greedy asked now))

-- the placement is feasible and has so many pairs
abbrev pub IsFeasibleOf : Asked → List (List ℕ × List ℕ) → ℕ → Type 0
IsFeasibleOf asked pairs n = IsFeasible asked pairs × (size asked pairs ≡ n)

-- Of so many pairs it is the first of: now, where it is feasible and has as many; the greedy placement, where it has as many; the goal, where it is feasible and has as many.
pub record IsChoice (asked : Asked) (now goal pairs : List (List ℕ × List ℕ)) (n : ℕ) : Type 0 where
  pub stays : IsFeasibleOf asked now n → pairs ≡ now
  pub greedy : (IsFeasibleOf asked now n → ⊥) → size asked (greedy_pairs asked now) ≡ n → pairs ≡ greedy_pairs asked now
  pub aims : (IsFeasibleOf asked now n → ⊥) → (size asked (greedy_pairs asked now) ≡ n → ⊥) → IsFeasibleOf asked goal n → pairs ≡ goal

-- the members that a search chooses, and the pairs of items and zones
abbrev pub cut_members : Asked → Marks → List (List ℕ)
cut_members asked s = picks (members (net_of asked)) (is_chosen s) (name_at (member_names asked))

abbrev pub cut_zones : Asked → Marks → List (List ℕ × List ℕ)
cut_zones asked s = gather (items (net_of asked)) (λ i. picks (members (net_of asked)) (λ z. is_zone (net_of asked) z && is_zone_chosen (net_of asked) s i z) (λ z. (name_at (item_names asked) i, name_at (zone_names asked) z)))
