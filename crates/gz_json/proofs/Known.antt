-- A text among several, and the members of an object.
use Rattle.std.proofs.Common.{◌≡◌, ℕ, ◌==◌, List, [], ◌∷◌, map, refl, true, false, arith, Bor, length, Option, Some, String, string_bytes, Global}
use Rattle.std.specs.List.{list_any}
use Rattle.std.specs.Str.{bytes_eq, IsUtf8}
use Rattle.std.specs.Map.Iter.{deref_pair, TakesFirst}
use Rattle.std.proofs.lemmas.Grind.{common_steps}
use Rattle.std.proofs.lemmas.Str.{utf8_valid_len-IsUtf8}
use Rattle.std.proofs.lemmas.Map.Iter.{rest_more}
use Rattle.serde_json.specs.Read.{read}
use Rattle.serde_json.specs.View.{members_view}
use Rattle.serde_json.specs.declared.value.Value.{Value}
use Rattle.gz_json.specs.Json.{is_among, json_of, first_unknown}

same_length : (n : ℕ) → (n == n) ≡ true
same_length n = grind (arith, common_steps)

pub json_of_text : (bytes : List ℕ) → IsUtf8 bytes → json_of bytes ≡ read bytes
json_of_text bytes u = rw (utf8_valid_len-IsUtf8 bytes u, same_length (length bytes)) refl

pub is_among-map : (name : List ℕ) (known : List (Bor (List ℕ))) → is_among name (map (λ k. k.now) known) ≡ list_any (λ k. bytes_eq k.now name) known
is_among-map name [] = refl
is_among-map name (k ∷ ks) = rw (is_among-map name ks) refl

abbrev Entry : Type 0
Entry = String Global × Value

-- one turn of the loop, at a known name
pub known_turn : (known : List (Bor (List ℕ))) (s t : List Entry) (r : Option (Bor (String Global) × Bor Value)) (x : Bor (String Global) × Bor Value) → r ≡ Some x → TakesFirst deref_pair s r t
    → (name : List ℕ) → name ≡ string_bytes x.0.now → list_any (λ k. bytes_eq k.now name) known ≡ true
    → first_unknown (map (λ k. k.now) known) (members_view t) ≡ first_unknown (map (λ k. k.now) known) (members_view s)
known_turn known s t r x is step name same found = rw (rest_more deref_pair s t r x is step, ← same, is_among-map name known, found) refl

-- and at an unknown one
pub unknown_turn : (known : List (Bor (List ℕ))) (s t : List Entry) (r : Option (Bor (String Global) × Bor Value)) (x : Bor (String Global) × Bor Value) → r ≡ Some x → TakesFirst deref_pair s r t
    → (name : List ℕ) → name ≡ string_bytes x.0.now → list_any (λ k. bytes_eq k.now name) known ≡ false
    → Some name ≡ first_unknown (map (λ k. k.now) known) (members_view s)
unknown_turn known s t r x is step name same missing = rw (rest_more deref_pair s t r x is step, ← same, is_among-map name known, missing) refl
