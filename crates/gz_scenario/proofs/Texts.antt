-- The strings of what is read as JSON are UTF-8.
use Rattle.std.proofs.Common.{◌≡◌, ℕ, zero, suc, ◌≤◌, Bool, true, false, cond, ◌&&◌, ◌==◌, List, [], ◌∷◌, length, take, IsUtf8, Option, Some, None, option_map, option_and_then, Ordering, Less, Equal, Greater, nat_cmp, refl, subst, arith}
use Rattle.std.specs.Bool.{⊤}
use Rattle.std.specs.Cmp.Lexicographic.{slice_cmp}
use Rattle.std.specs.List.{list_all}
use Rattle.std.specs.Ordering.{match_ordering}
use Rattle.std.specs.Str.{is_utf8}
use Rattle.std.specs.Str.Lossy.{valid_len_up_to, utf8_valid_len}
use Rattle.std.proofs.lemmas.Bool.{and_parts, and_from, eqb-true}
use Rattle.std.proofs.lemmas.List.{take_all}
use Rattle.std.proofs.lemmas.Str.{IsUtf8-nil, IsUtf8-from_is_utf8}
use Rattle.json.specs.Json as json
use Rattle.json.specs.Json.{Parse, parse_map, after_end_array, read_key, items_step, members_step, value_with, if_last}
use Rattle.json.specs.Lex.{tokens}
use Rattle.json.specs.Token.{Token}
use Rattle.serde_json.specs.Data.{Num, Data, null, boolean, number, string, array, object, Items, no_items, item, Members, no_members, member, put}
use Rattle.serde_json.specs.Find.{get_member, get, as_str, as_array}
use Rattle.serde_json.specs.Read.{number_of, of_json, of_items, of_members, read, max_depth}
use Rattle.gz_json.specs.Json.{json_of}
use Rattle.gz_scenario.proofs.Strings.{nothing, same_some, utf8_token, tokens_good}

-- ---- the grammar

abbrev mutual
  utf8_json : json.Json → Bool
  utf8_json json.null = true
  utf8_json (json.boolean b) = true
  utf8_json (json.number s) = true
  utf8_json (json.string s) = is_utf8 s
  utf8_json (json.array js) = utf8_json_items js
  utf8_json (json.object ms) = utf8_json_members ms

  utf8_json_items : json.Items → Bool
  utf8_json_items json.no_items = true
  utf8_json_items (json.item j js) = utf8_json j && utf8_json_items js

  utf8_json_members : json.Members → Bool
  utf8_json_members json.no_members = true
  utf8_json_members (json.member k j ms) = utf8_json j && utf8_json_members ms

abbrev are_utf8 : List Token → Bool
are_utf8 ts = list_all utf8_token ts

-- what was read is good, and so is what follows it
abbrev Reads : {A : Type 0} → (A → Bool) → Option (A × List Token) → Type 0
Reads good None = ⊤
Reads good (Some p) = (good p.0 ≡ true) × (are_utf8 p.1 ≡ true)

abbrev IsReader : {A : Type 0} → (A → Bool) → Parse A → Type 0
IsReader good parse = (ts : List Token) → are_utf8 ts ≡ true → Reads good (parse ts)

mapped : {A B : Type 0} (f : A → B) (good : A → Bool) (fine : B → Bool) → ((a : A) → good a ≡ true → fine (f a) ≡ true)
    → (o : Option (A × List Token)) → Reads good o → Reads fine (parse_map f o)
mapped f good fine keeps None r = tt
mapped f good fine keeps (Some p) r = (keeps p.0 r.0, r.1)

value_reads : (a : Parse json.Items) (o : Parse json.Members) → IsReader utf8_json_items a → IsReader utf8_json_members o
    → (ts : List Token) → are_utf8 ts ≡ true → Reads utf8_json (value_with a o ts)
value_reads a o items members [] good = tt
value_reads a o items members (Token.begin_object ∷ ts) good =
    mapped json.object utf8_json_members utf8_json (λ ms h. h) (o ts) (members ts good)
value_reads a o items members (Token.end_object ∷ ts) good = tt
value_reads a o items members (Token.begin_array ∷ ts) good =
    mapped json.array utf8_json_items utf8_json (λ js h. h) (a ts) (items ts good)
value_reads a o items members (Token.end_array ∷ ts) good = tt
value_reads a o items members (Token.key s ∷ ts) good = tt
value_reads a o items members (Token.string s ∷ ts) good = and_parts (is_utf8 s) (are_utf8 ts) good
value_reads a o items members (Token.number s ∷ ts) good = (refl, good)
value_reads a o items members (Token.boolean b ∷ ts) good = (refl, good)
value_reads a o items members (Token.null ∷ ts) good = (refl, good)
value_reads a o items members (Token.bad ∷ ts) good = tt

abbrev IfRest : Option (List Token) → Type 0
IfRest None = ⊤
IfRest (Some ts) = are_utf8 ts ≡ true

end_reads : (ts : List Token) → are_utf8 ts ≡ true → IfRest (after_end_array ts)
end_reads [] good = tt
end_reads (Token.begin_object ∷ ts) good = tt
end_reads (Token.end_object ∷ ts) good = tt
end_reads (Token.begin_array ∷ ts) good = tt
end_reads (Token.end_array ∷ ts) good = good
end_reads (Token.key s ∷ ts) good = tt
end_reads (Token.string s ∷ ts) good = tt
end_reads (Token.number s ∷ ts) good = tt
end_reads (Token.boolean b ∷ ts) good = tt
end_reads (Token.null ∷ ts) good = tt
end_reads (Token.bad ∷ ts) good = tt

abbrev any_key : Option (List ℕ) → Bool
any_key k = true

key_reads : (ts : List Token) → are_utf8 ts ≡ true → Reads any_key (read_key ts)
key_reads [] good = tt
key_reads (Token.begin_object ∷ ts) good = tt
key_reads (Token.end_object ∷ ts) good = (refl, good)
key_reads (Token.begin_array ∷ ts) good = tt
key_reads (Token.end_array ∷ ts) good = tt
key_reads (Token.key s ∷ ts) good = (refl, good)
key_reads (Token.string s ∷ ts) good = tt
key_reads (Token.number s ∷ ts) good = tt
key_reads (Token.boolean b ∷ ts) good = tt
key_reads (Token.null ∷ ts) good = tt
key_reads (Token.bad ∷ ts) good = tt

item_reads : (more : Parse json.Items) → IsReader utf8_json_items more → (o : Option (json.Json × List Token))
    → Reads utf8_json o → Reads utf8_json_items (option_and_then (λ p. parse_map (json.item p.0) (more p.1)) o)
item_reads more rest None r = tt
item_reads more rest (Some p) r =
    mapped (json.item p.0) utf8_json_items utf8_json_items (λ js h. and_from (utf8_json p.0) (utf8_json_items js) r.0 h)
    (more p.1) (rest p.1 r.1)

items_turn : (value : Parse json.Json) (more : Parse json.Items) → IsReader utf8_json value → IsReader utf8_json_items more
    → (ts : List Token) → are_utf8 ts ≡ true → (o : Option (List Token)) → IfRest o
    → Reads utf8_json_items (items_step value more ts o)
items_turn value more reads rest ts good (Some left) r = (refl, r)
items_turn value more reads rest ts good None r = item_reads more rest (value ts) (reads ts good)

items_read : (value : Parse json.Json) → IsReader utf8_json value → (n : ℕ) (ts : List Token) → are_utf8 ts ≡ true
    → Reads utf8_json_items (json.items value n ts)
unfolding json.items
items_read value reads zero ts good = tt
items_read value reads (suc n) ts good =
    items_turn value (json.items value n) reads (items_read value reads n) ts good (after_end_array ts) (end_reads ts good)

member_reads : (more : Parse json.Members) (k : List ℕ) → IsReader utf8_json_members more
    → (o : Option (json.Json × List Token)) → Reads utf8_json o
    → Reads utf8_json_members (option_and_then (λ p. parse_map (json.member k p.0) (more p.1)) o)
member_reads more k rest None r = tt
member_reads more k rest (Some p) r =
    mapped (json.member k p.0) utf8_json_members utf8_json_members
    (λ ms h. and_from (utf8_json p.0) (utf8_json_members ms) r.0 h) (more p.1) (rest p.1 r.1)

members_turn : (value : Parse json.Json) (more : Parse json.Members) → IsReader utf8_json value
    → IsReader utf8_json_members more → (k : Option (List ℕ)) (ts : List Token) → are_utf8 ts ≡ true
    → Reads utf8_json_members (members_step value more k ts)
members_turn value more reads rest None ts good = (refl, good)
members_turn value more reads rest (Some k) ts good = member_reads more k rest (value ts) (reads ts good)

keyed : (value : Parse json.Json) (more : Parse json.Members) → IsReader utf8_json value → IsReader utf8_json_members more
    → (o : Option (Option (List ℕ) × List Token)) → Reads any_key o
    → Reads utf8_json_members (option_and_then (λ p. members_step value more p.0 p.1) o)
keyed value more reads rest None r = tt
keyed value more reads rest (Some p) r = members_turn value more reads rest p.0 p.1 r.1

members_read : (value : Parse json.Json) → IsReader utf8_json value → (n : ℕ) (ts : List Token) → are_utf8 ts ≡ true
    → Reads utf8_json_members (json.members value n ts)
unfolding json.members
members_read value reads zero ts good = tt
members_read value reads (suc n) ts good =
    keyed value (json.members value n) reads (members_read value reads n) (read_key ts) (key_reads ts good)

value_is_read : (depth : ℕ) (ts : List Token) → are_utf8 ts ≡ true → Reads utf8_json (json.value depth ts)
unfolding json.value
value_is_read zero ts good = value_reads (λ us. None) (λ us. None) (λ us h. tt) (λ us h. tt) ts good
value_is_read (suc depth) ts good =
    value_reads (λ us. json.items (json.value depth) (length us) us) (λ us. json.members (json.value depth) (length us) us)
    (λ us h. items_read (json.value depth) (value_is_read depth) (length us) us h)
    (λ us h. members_read (json.value depth) (value_is_read depth) (length us) us h) ts good

-- ---- values

-- Each string of a value is UTF-8. Names of members are passed over.
abbrev mutual
  pub utf8_data : Data → Bool
  utf8_data null = true
  utf8_data (boolean b) = true
  utf8_data (number n) = true
  utf8_data (string s) = is_utf8 s
  utf8_data (array ds) = utf8_items ds
  utf8_data (object ms) = utf8_members ms

  pub utf8_items : Items → Bool
  utf8_items no_items = true
  utf8_items (item d ds) = utf8_data d && utf8_items ds

  pub utf8_members : Members → Bool
  utf8_members no_members = true
  utf8_members (member k d ms) = utf8_data d && utf8_members ms

-- what there is, is good
abbrev If : {A : Type 0} → (A → Bool) → Option A → Type 0
If good None = ⊤
If good (Some a) = good a ≡ true

option_mapped : {A B : Type 0} (f : A → B) (good : A → Bool) (fine : B → Bool) → ((a : A) → good a ≡ true → fine (f a) ≡ true)
    → (o : Option A) → If good o → If fine (option_map f o)
option_mapped f good fine keeps None is = tt
option_mapped f good fine keeps (Some a) is = keeps a is

put_ordered : (o : Ordering) (k l : List ℕ) (d e : Data) (ms more : Members) → utf8_data d ≡ true
    → utf8_members (member l e ms) ≡ true → utf8_members more ≡ true
    → utf8_members (match_ordering o (member k d (member l e ms)) (member l d ms) (member l e more)) ≡ true
put_ordered Less k l d e ms more new old rest = and_from (utf8_data d) (utf8_members (member l e ms)) new old
put_ordered Equal k l d e ms more new old rest =
    and_from (utf8_data d) (utf8_members ms) new (and_parts (utf8_data e) (utf8_members ms) old).1
put_ordered Greater k l d e ms more new old rest =
    and_from (utf8_data e) (utf8_members more) (and_parts (utf8_data e) (utf8_members ms) old).0 rest

put_good : (k : List ℕ) (d : Data) (ms : Members) → utf8_data d ≡ true → utf8_members ms ≡ true → utf8_members (put k d ms) ≡ true
put_good k d no_members new old = and_from (utf8_data d) true new refl
put_good k d (member l e ms) new old =
    put_ordered (slice_cmp nat_cmp k l) k l d e ms (put k d ms) new old
    (put_good k d ms new (and_parts (utf8_data e) (utf8_members ms) old).1)

items_with : (o : Option Data) (ds : Option Items) → If utf8_data o → If utf8_items ds
    → If utf8_items (option_and_then (λ d. option_map (item d) ds) o)
items_with None ds one more = tt
items_with (Some d) ds one more =
    option_mapped (item d) utf8_items utf8_items (λ js h. and_from (utf8_data d) (utf8_items js) one h) ds more

members_with : (k : List ℕ) (ms : json.Members) (found : Members) → utf8_members found ≡ true
    → ((next : Members) → utf8_members next ≡ true → If utf8_members (of_members ms next)) → (o : Option Data) → If utf8_data o
    → If utf8_members (option_and_then (λ d. of_members ms (put k d found)) o)
members_with k ms found old more None one = tt
members_with k ms found old more (Some d) one = more (put k d found) (put_good k d found one old)

number_good : (o : Option Num) → If utf8_data (option_map number o)
number_good None = tt
number_good (Some n) = refl

mutual
  value_good : (j : json.Json) → utf8_json j ≡ true → If utf8_data (of_json j)
  value_good json.null good = refl
  value_good (json.boolean b) good = refl
  value_good (json.number s) good = number_good (number_of s)
  value_good (json.string s) good = good
  value_good (json.array js) good = option_mapped array utf8_items utf8_data (λ ds h. h) (of_items js) (items_good js good)
  value_good (json.object ms) good =
      option_mapped object utf8_members utf8_data (λ ds h. h) (of_members ms no_members) (members_good ms no_members good refl)

  items_good : (js : json.Items) → utf8_json_items js ≡ true → If utf8_items (of_items js)
  items_good json.no_items good = refl
  items_good (json.item j js) good =
      let g = and_parts (utf8_json j) (utf8_json_items js) good in
      items_with (of_json j) (of_items js) (value_good j g.0) (items_good js g.1)

  members_good : (ms : json.Members) (found : Members) → utf8_json_members ms ≡ true → utf8_members found ≡ true
      → If utf8_members (of_members ms found)
  members_good json.no_members found good old = old
  members_good (json.member k j ms) found good old =
      let g = and_parts (utf8_json j) (utf8_json_members ms) good in
      members_with k ms found old (λ next h. members_good ms next g.1 h) (of_json j) (value_good j g.0)

-- ---- texts

last_good : (j : json.Json) (ts : List Token) → utf8_json j ≡ true → If utf8_json (if_last j ts)
last_good j [] good = good
last_good j (t ∷ ts) good = tt

whole_good : (o : Option (json.Json × List Token)) → Reads utf8_json o → If utf8_json (option_and_then (λ p. if_last p.0 p.1) o)
whole_good None r = tt
whole_good (Some p) r = last_good p.0 p.1 r.0

then_good : (o : Option json.Json) → If utf8_json o → If utf8_data (option_and_then of_json o)
then_good None is = tt
then_good (Some j) is = value_good j is

read_good : (text : List ℕ) → IsUtf8 text → If utf8_data (read text)
read_good text u =
    then_good (option_and_then (λ p. if_last p.0 p.1) (json.value max_depth (tokens text)))
    (whole_good (json.value max_depth (tokens text)) (value_is_read max_depth (tokens text) (tokens_good text u)))

up_to_turn : (bs : List ℕ) (n : ℕ) (t : Bool) → valid_len_up_to bs n ≤ n → cond t (suc n) (valid_len_up_to bs n) ≤ suc n
up_to_turn bs n true below = omega arith
up_to_turn bs n false below = omega arith

up_to_le : (bs : List ℕ) (n : ℕ) → valid_len_up_to bs n ≤ n
up_to_le bs zero = omega arith
up_to_le bs (suc n) = up_to_turn bs n (is_utf8 (take (suc n) bs)) (up_to_le bs n)

prefix_utf8 : (bs : List ℕ) (n : ℕ) (t : Bool) → is_utf8 (take (suc n) bs) ≡ t → cond t (suc n) (valid_len_up_to bs n) ≡ suc n
    → IsUtf8 (take (suc n) bs)
prefix_utf8 bs n true e is = IsUtf8-from_is_utf8 (take (suc n) bs) e
prefix_utf8 bs n false e is =
    let same : valid_len_up_to bs n ≡ suc n = is in
    let below : valid_len_up_to bs n ≤ n = up_to_le bs n in
    absurd (omega (arith, same, below))

whole_prefix : (bs : List ℕ) (n : ℕ) → valid_len_up_to bs n ≡ n → IsUtf8 (take n bs)
whole_prefix bs zero is = IsUtf8-nil
whole_prefix bs (suc n) is = prefix_utf8 bs n (is_utf8 (take (suc n) bs)) refl is

valid_is_utf8 : (bs : List ℕ) → utf8_valid_len bs ≡ length bs → IsUtf8 bs
unfolding utf8_valid_len
valid_is_utf8 bs is = subst IsUtf8 (take_all (length bs) bs (omega arith)) (whole_prefix bs (length bs) is)

json_turn : (bytes : List ℕ) (t : Bool) (d : Data) → (utf8_valid_len bytes == length bytes) ≡ t
    → cond t (read bytes) None ≡ Some d → utf8_data d ≡ true
json_turn bytes true d e is =
    let u = valid_is_utf8 bytes (eqb-true (utf8_valid_len bytes) (length bytes) e) in
    subst (λ (o : Option Data). If utf8_data o) is (read_good bytes u)
json_turn bytes false d e is = absurd (nothing is)

-- each string of a text's value is UTF-8
pub json_is_utf8 : (bytes : List ℕ) (d : Data) → json_of bytes ≡ Some d → utf8_data d ≡ true
json_is_utf8 bytes d is = json_turn bytes (utf8_valid_len bytes == length bytes) d refl is

-- ---- what is found in a value

found_ordered : (o : Ordering) (e d : Data) (rest : Option Data) → utf8_data e ≡ true → (rest ≡ Some d → utf8_data d ≡ true)
    → match_ordering o rest (Some e) rest ≡ Some d → utf8_data d ≡ true
found_ordered Less e d rest here more is = more is
found_ordered Equal e d rest here more is = subst (λ x. utf8_data x ≡ true) (same_some is) here
found_ordered Greater e d rest here more is = more is

member_good : (k : List ℕ) (ms : Members) (d : Data) → utf8_members ms ≡ true → get_member k ms ≡ Some d → utf8_data d ≡ true
member_good k no_members d good is = absurd (nothing is)
member_good k (member l e ms) d good is =
    let g = and_parts (utf8_data e) (utf8_members ms) good in
    found_ordered (slice_cmp nat_cmp k l) e d (get_member k ms) g.0 (λ there. member_good k ms d g.1 there) is

pub get_good : (k : List ℕ) (v d : Data) → utf8_data v ≡ true → get k v ≡ Some d → utf8_data d ≡ true
get_good k null d good is = absurd (nothing is)
get_good k (boolean b) d good is = absurd (nothing is)
get_good k (number n) d good is = absurd (nothing is)
get_good k (string s) d good is = absurd (nothing is)
get_good k (array ds) d good is = absurd (nothing is)
get_good k (object ms) d good is = member_good k ms d good is

pub text_good : (d : Data) (s : List ℕ) → utf8_data d ≡ true → as_str d ≡ Some s → is_utf8 s ≡ true
text_good null s good is = absurd (nothing is)
text_good (boolean b) s good is = absurd (nothing is)
text_good (number n) s good is = absurd (nothing is)
text_good (string t) s good is = subst (λ x. is_utf8 x ≡ true) (same_some is) good
text_good (array ds) s good is = absurd (nothing is)
text_good (object ms) s good is = absurd (nothing is)

pub list_good : (d : Data) (ds : Items) → utf8_data d ≡ true → as_array d ≡ Some ds → utf8_items ds ≡ true
list_good null ds good is = absurd (nothing is)
list_good (boolean b) ds good is = absurd (nothing is)
list_good (number n) ds good is = absurd (nothing is)
list_good (string t) ds good is = absurd (nothing is)
list_good (array es) ds good is = subst (λ x. utf8_items x ≡ true) (same_some is) good
list_good (object ms) ds good is = absurd (nothing is)
