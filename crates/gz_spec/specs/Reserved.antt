-- Ids that are kept for the program's own, and what may begin the keys of hints.
use Rattle.std.specs.Prelude.{ℕ, ◌&&◌, ◌||◌, List, [], ◌∷◌, length, take, drop, Bool, codes, nat_le, not}
use Rattle.std.specs.List.{list_all}
use Rattle.std.specs.Char.{is_ascii_digit}
use Rattle.std.specs.Str.{bytes_eq}
use Rattle.gz_json.specs.Json.{is_among}
use Rattle.gz_fields.specs.Names.{is_id}

abbrev pub is_number : List ℕ → Bool
is_number text = nat_le 1 (length text) && list_all is_ascii_digit text

-- the word, and one or more digits behind it
unfoldable pub is_numbered : List ℕ → List ℕ → Bool
is_numbered word text = bytes_eq (take (length word) text) word && is_number (drop (length word) text)

-- An id that is kept for the program's own: the key space, the store, and the clients of a served cluster.
unfoldable pub is_reserved : List ℕ → Bool
is_reserved text = bytes_eq text (codes "keys") || bytes_eq text (codes "store") || is_numbered (codes "client") text

-- The words that begin the cluster's own keys.
abbrev pub key_words : List (List ℕ)
key_words = codes "journal" ∷ codes "shard" ∷ codes "member" ∷ codes "route" ∷ codes "sync" ∷ codes "assign" ∷ codes "author" ∷ []

-- The prefix of a shard's hints is an id, and none of those words.
unfoldable pub is_hint_prefix : List ℕ → Bool
is_hint_prefix text = is_id text && not (is_among text key_words)
