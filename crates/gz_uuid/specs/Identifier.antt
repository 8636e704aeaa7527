-- Where a producer, a clock and flags stand in an identifier, by the fields of RFC 9562, section 5.1.
use Rattle.std.specs.Prelude.{ℕ, ◌+◌, ◌*◌, ◌/◌, ◌%◌, ◌^◌, ◌<◌, ◌==◌, ◌&&◌, Bool, List, ◌++◌, take, drop, slice_index}
use Rattle.std.specs.Int.{w16, w32, to_be_bytes, from_be_bytes}
use Rattle.gz_uuid.specs.Producer.{AreProducer}

-- the sixteen bytes of a producer, a clock and flags: time_low, time_mid, the version 1 above time_high,
-- the variant 10 above the clock's lowest four bits above the flags, and the node
abbrev pub identifier : List ℕ → ℕ → ℕ → List ℕ
identifier producer clock flags =
    to_be_bytes w32 (clock / 2 ^ 4 % 2 ^ 32)
    ++ to_be_bytes w16 (clock / 2 ^ 36 % 2 ^ 16)
    ++ to_be_bytes w16 (2 ^ 12 + clock / 2 ^ 52)
    ++ to_be_bytes w16 (2 ^ 15 + clock % 2 ^ 4 * 2 ^ 10 + flags)
    ++ producer

-- what may stand in an identifier
pub record AreParts (producer : List ℕ) (clock flags : ℕ) : Type 0 where
  pub octets : AreProducer producer
  pub clock_fits : clock < 2 ^ 64
  pub flags_fit : flags < 2 ^ 10

-- whether sixteen bytes are an identifier: the version is 1, the variant is binary 10, and the node has
-- the multicast bit
abbrev pub is_identifier : List ℕ → Bool
is_identifier id = (slice_index id 6 / 16 == 1) && (slice_index id 8 / 64 == 2) && (slice_index id 10 % 2 == 1)

-- the producer of an identifier
abbrev pub producer_of : List ℕ → List ℕ
producer_of id = drop 10 id

-- the clock of an identifier
abbrev pub clock_of : List ℕ → ℕ
clock_of id =
    from_be_bytes w16 (take 2 (drop 6 id)) % 2 ^ 12 * 2 ^ 52
    + from_be_bytes w16 (take 2 (drop 4 id)) * 2 ^ 36
    + from_be_bytes w32 (take 4 id) * 2 ^ 4
    + slice_index id 8 / 2 ^ 2 % 2 ^ 4

-- the flags of an identifier
abbrev pub flags_of : List ℕ → ℕ
flags_of id = slice_index id 8 % 2 ^ 2 * 2 ^ 8 + slice_index id 9
