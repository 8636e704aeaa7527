-- What the values of keys say.
use Rattle.std.specs.Prelude.{ℕ, ◌+◌, ◌-◌, ◌*◌, ◌^◌, ◌==◌, ◌&&◌, ◌++◌, List, [], ◌∷◌, not, Bool, true, false, Option, Some, None, if◌then◌else◌, nat_le, nat_lt, codes, decimal}
use Rattle.std.specs.List.{list_all, list_any, slice_split}
use Rattle.std.specs.Str.{all_ascii_digits, bytes_eq}
use Rattle.gz_label.specs.Items.{items_of}
use Rattle.gz_fields.specs.Names.{is_id}
use Rattle.gz_spec.specs.Limits.{max_limit}
use Rattle.gz_keyspace.specs.declared.formats.Joined.{Joined}
use Rattle.gz_keyspace.specs.Keys.{same_key}

-- ---- numbers

-- the number that goes on from this one by these decimal digits
abbrev pub number_from : ℕ → List ℕ → ℕ
number_from n [] = n
number_from n (b ∷ bs) = number_from (n * 10 + (b - 48)) bs

-- some digit, and not one that leads as a zero
abbrev pub begins_as_number : List ℕ → Bool
begins_as_number [] = false
begins_as_number (b ∷ []) = true
begins_as_number (b ∷ c ∷ cs) = not (b == 48)

-- the number below 2^64 that goes on from this one by this text
abbrev pub number_after : ℕ → List ℕ → Option ℕ
number_after n text =
    let number = number_from n text in
    if all_ascii_digits text && nat_lt number (2 ^ 64) then Some number else None

-- the number below 2^64 that the text is in decimal, without leading zeros
abbrev pub number_of : List ℕ → Option ℕ
number_of text = if begins_as_number text then number_after 0 text else None

-- ---- lists of ids

-- the id that the text is
abbrev pub id_of : List ℕ → Option (List ℕ)
id_of text = if is_id text then Some text else None

-- the text is one of these
abbrev pub is_in : List ℕ → List (List ℕ) → Bool
is_in text texts = list_any (same_key text) texts

-- no text is among those behind it
abbrev pub are_distinct : List (List ℕ) → Bool
are_distinct [] = true
are_distinct (text ∷ texts) = not (is_in text texts) && are_distinct texts

-- these items, where each is an id and none stands twice
abbrev pub ids_in : List (List ℕ) → Option (List (List ℕ))
ids_in items = if list_all is_id items && are_distinct items then Some items else None

-- the ids that commas join; the empty text has none
abbrev pub ids_of : List ℕ → Option (List (List ℕ))
ids_of text = ids_in (items_of text)

-- ---- members

-- the words of a text, with a space between each two, of which there is at least one
abbrev pub words_of : List ℕ → List (List ℕ)
words_of text = slice_split (λ b. b == 32) text

-- whether the word says a consumer, or else a broker
abbrev pub is_consumer : List ℕ → Option Bool
is_consumer word = if bytes_eq word (codes "consumer") then Some true else if bytes_eq word (codes "broker") then Some false else None

-- the member of this id, kind, zone and limit, where they are of their forms
abbrev pub joined_with : List ℕ → Option Bool → List ℕ → Option ℕ → Option Joined
joined_with id None zone limit = None
joined_with id (Some consumer) zone None = None
joined_with id (Some consumer) zone (Some limit) =
    if is_id id && is_id zone && nat_le limit max_limit
    then Some (record { consumer = consumer; spec = record { id = id; zone = zone; limit = limit } })
    else None

-- three words: the kind, the zone and the limit
abbrev pub joined_words : List ℕ → List (List ℕ) → Option Joined
joined_words id [] = None
joined_words id (kind ∷ []) = None
joined_words id (kind ∷ zone ∷ []) = None
joined_words id (kind ∷ zone ∷ limit ∷ []) = joined_with id (is_consumer kind) zone (number_of limit)
joined_words id (kind ∷ zone ∷ limit ∷ word ∷ words) = None

-- the member of this id whose key has this value
abbrev pub joined_of : List ℕ → List ℕ → Option Joined
joined_of id value = joined_words id (words_of value)

-- the word of a member's kind
abbrev pub kind_word : Bool → List ℕ
kind_word consumer = if consumer then codes "consumer" else codes "broker"

-- the value of a member's key: its kind, its zone and its limit, with a space between each two
abbrev pub member_text : Joined → List ℕ
member_text j = kind_word j.consumer ++ (codes " " ++ (j.spec.zone ++ (codes " " ++ decimal j.spec.limit)))
