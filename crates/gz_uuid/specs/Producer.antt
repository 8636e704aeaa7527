-- The octets of a producer.
use Rattle.std.specs.Prelude.{◌≡◌, ℕ, ◌/◌, ◌%◌, ◌^◌, List, [], ◌∷◌, length, slice_index}

-- six octets with the multicast bit, the least one of the first octet
pub record AreProducer (octets : List ℕ) : Type 0 where
  pub six : length octets ≡ 6
  pub multicast : slice_index octets 0 % 2 ≡ 1

-- a first octet, and a number in five octets with the high one first
abbrev pub numbered : ℕ → ℕ → List ℕ
numbered first number =
    first ∷ number / 2 ^ 32 % 2 ^ 8 ∷ number / 2 ^ 24 % 2 ^ 8 ∷ number / 2 ^ 16 % 2 ^ 8 ∷ number / 2 ^ 8 % 2 ^ 8 ∷ number % 2 ^ 8 ∷ []

-- the producers of a shard's revision and of a client's number
abbrev pub shard_octets : ℕ → List ℕ
shard_octets revision = numbered 5 revision

abbrev pub client_octets : ℕ → List ℕ
client_octets number = numbered 3 number
