-- The low bytes of numbers.
use Rattle.std.proofs.Common.{◌≡◌, ℕ, ◌/◌, ◌%◌, refl, arith}
use Rattle.std.specs.Int.{w32, to_be_bytes}

byte3 : (n : ℕ) → n % 4294967296 / 16777216 % 256 ≡ n / 16777216 % 256
byte3 n = omega arith

byte2 : (n : ℕ) → n % 4294967296 / 65536 % 256 ≡ n / 65536 % 256
byte2 n = omega arith

byte1 : (n : ℕ) → n % 4294967296 / 256 % 256 ≡ n / 256 % 256
byte1 n = omega arith

byte0 : (n : ℕ) → n % 4294967296 % 256 ≡ n % 256
byte0 n = omega arith

-- four bytes of a number are those of its low 32 bits
pub low_32 : (n : ℕ) → to_be_bytes w32 (n % 4294967296) ≡ to_be_bytes w32 n
low_32 n = rw (byte3 n, byte2 n, byte1 n, byte0 n) refl
