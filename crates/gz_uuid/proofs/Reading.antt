-- An identifier's parts, read back from its bytes.
use Rattle.std.proofs.Common.{◌≡◌, ℕ, ◌+◌, ◌*◌, ◌/◌, ◌%◌, ◌^◌, ◌<◌, IsTrue, List, [], ◌∷◌, ◌++◌, length, slice_index, refl, arith, drop, All, sym, lit<}
use Rattle.std.specs.Int.{w16, w32, to_be_bytes}
use Rattle.gz_uuid.specs.Identifier.{identifier, AreParts, is_identifier, producer_of, clock_of, flags_of}

-- an identifier has the form
pub is_identifier_identifier : (producer : List ℕ) (clock flags : ℕ) → AreParts producer clock flags →
    IsTrue (is_identifier (identifier producer clock flags))
is_identifier_identifier producer clock flags lawful = grind arith

-- its parts read back
pub clock_of_identifier : (producer : List ℕ) (clock flags : ℕ) → AreParts producer clock flags →
    clock_of (identifier producer clock flags) ≡ clock
clock_of_identifier producer clock flags lawful = omega arith

pub flags_of_identifier : (producer : List ℕ) (clock flags : ℕ) → AreParts producer clock flags →
    flags_of (identifier producer clock flags) ≡ flags
flags_of_identifier producer clock flags lawful = omega arith

pub producer_of_identifier : (producer : List ℕ) (clock flags : ℕ) → AreParts producer clock flags →
    producer_of (identifier producer clock flags) ≡ producer
producer_of_identifier producer clock flags lawful = refl

-- the last six of sixteen
pub last_six : (xs : List ℕ) → length xs ≡ 16 →
    drop 10 xs ≡ slice_index xs 10 ∷ slice_index xs 11 ∷ slice_index xs 12 ∷ slice_index xs 13 ∷ slice_index xs 14 ∷ slice_index xs 15 ∷ []
last_six (a ∷ b ∷ c ∷ d ∷ e ∷ f ∷ g ∷ h ∷ i ∷ j ∷ k ∷ l ∷ m ∷ n ∷ o ∷ p ∷ []) sixteen = refl
last_six xs sixteen = absurd (omega arith)

-- a number in four bytes, and one in two
four_bytes : (a b c d n : ℕ) → a < 2 ^ 8 → b < 2 ^ 8 → c < 2 ^ 8 → d < 2 ^ 8 →
    n ≡ a * 2 ^ 24 + b * 2 ^ 16 + c * 2 ^ 8 + d → to_be_bytes w32 n ≡ a ∷ b ∷ c ∷ d ∷ []
four_bytes a b c d n a_fits b_fits c_fits d_fits number =
    let first : n / 2 ^ 24 % 2 ^ 8 ≡ a = omega arith in
    let second : n / 2 ^ 16 % 2 ^ 8 ≡ b = omega arith in
    let third : n / 2 ^ 8 % 2 ^ 8 ≡ c = omega arith in
    let last : n % 2 ^ 8 ≡ d = omega arith in
    cc

two_bytes : (a b n : ℕ) → a < 2 ^ 8 → b < 2 ^ 8 → n ≡ a * 2 ^ 8 + b → to_be_bytes w16 n ≡ a ∷ b ∷ []
two_bytes a b n a_fits b_fits number =
    let first : n / 2 ^ 8 % 2 ^ 8 ≡ a = omega arith in
    let last : n % 2 ^ 8 ≡ b = omega arith in
    cc

-- four lists before another, each equal to one
joined : (a b c d a' b' c' d' rest : List ℕ) → a ≡ a' → b ≡ b' → c ≡ c' → d ≡ d' →
    a ++ b ++ c ++ d ++ rest ≡ a' ++ b' ++ c' ++ d' ++ rest
joined a b c d a' b' c' d' rest p q r s = cc

-- the first ten bytes of an identifier, from the clock and the flags that they read as
head_bytes : (a b c d e f g h i j clock flags : ℕ) (node : List ℕ) →
    a < 2 ^ 8 → b < 2 ^ 8 → c < 2 ^ 8 → d < 2 ^ 8 → e < 2 ^ 8 → f < 2 ^ 8 → g < 2 ^ 8 → h < 2 ^ 8 → i < 2 ^ 8 → j < 2 ^ 8 →
    g / 2 ^ 4 ≡ 1 → i / 2 ^ 6 ≡ 2 →
    clock ≡ (g * 2 ^ 8 + h) % 2 ^ 12 * 2 ^ 52 + (e * 2 ^ 8 + f) * 2 ^ 36 + (a * 2 ^ 24 + b * 2 ^ 16 + c * 2 ^ 8 + d) * 2 ^ 4 + i / 2 ^ 2 % 2 ^ 4 →
    flags ≡ i % 2 ^ 2 * 2 ^ 8 + j →
    identifier node clock flags ≡ a ∷ b ∷ c ∷ d ∷ e ∷ f ∷ g ∷ h ∷ i ∷ j ∷ node
head_bytes a b c d e f g h i j clock flags node a_fits b_fits c_fits d_fits e_fits f_fits g_fits h_fits i_fits j_fits version variant clock_is flags_is =
    joined _ _ _ _ (a ∷ b ∷ c ∷ d ∷ []) (e ∷ f ∷ []) (g ∷ h ∷ []) (i ∷ j ∷ []) node
    (four_bytes a b c d (clock / 2 ^ 4 % 2 ^ 32) (omega arith) (omega arith) (omega arith) (omega arith) (omega arith))
    (two_bytes e f (clock / 2 ^ 36 % 2 ^ 16) (omega arith) (omega arith) (omega arith))
    (two_bytes g h (2 ^ 12 + clock / 2 ^ 52) (omega arith) (omega arith) (omega arith))
    (two_bytes i j (2 ^ 15 + clock % 2 ^ 4 * 2 ^ 10 + flags) (omega arith) (omega arith) (omega arith))

-- sixteen bytes of the form are the identifier of their parts
identifier_reading : (id : List ℕ) → length id ≡ 16 → All (λ byte. byte < 2 ^ 8) id → IsTrue (is_identifier id) →
    id ≡ identifier (producer_of id) (clock_of id) (flags_of id)
identifier_reading (a ∷ b ∷ c ∷ d ∷ e ∷ f ∷ g ∷ h ∷ i ∷ j ∷ k ∷ l ∷ m ∷ n ∷ o ∷ p ∷ []) sixteen fit form =
    sym (head_bytes a b c d e f g h i j _ _ (k ∷ l ∷ m ∷ n ∷ o ∷ p ∷ [])
    (fit 0 0 (lit< tt)) (fit 1 0 (lit< tt)) (fit 2 0 (lit< tt)) (fit 3 0 (lit< tt)) (fit 4 0 (lit< tt))
    (fit 5 0 (lit< tt)) (fit 6 0 (lit< tt)) (fit 7 0 (lit< tt)) (fit 8 0 (lit< tt)) (fit 9 0 (lit< tt))
    (grind arith) (grind arith) refl refl)
identifier_reading xs sixteen fit form = absurd (omega arith)

-- sixteen bytes of the form are the identifier of what they read as
pub identifier_read : (id producer : List ℕ) (clock flags : ℕ) →
    length id ≡ 16 → All (λ byte. byte < 2 ^ 8) id → IsTrue (is_identifier id) →
    producer ≡ producer_of id → clock ≡ clock_of id → flags ≡ flags_of id → id ≡ identifier producer clock flags
identifier_read id producer clock flags sixteen fit form producer_is clock_is flags_is =
    rw (producer_is, clock_is, flags_is) (identifier_reading id sixteen fit form)
