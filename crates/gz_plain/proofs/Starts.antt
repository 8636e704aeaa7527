-- The producers of shards and of clients, and a shard that has read nothing.
use Rattle.std.proofs.Common.{◌≡◌, ◌*◌, get_or, ℕ, zero, suc, ◌+◌, ◌<◌, ◌^◌, List, [], ◌∷◌, length, refl, ap, sym, ◌∙◌, Bool, true, false, All, arith}
use Rattle.std.specs.Prelude.{◌&&◌}
use Rattle.std.specs.Str.{bytes_eq}
use Rattle.std.proofs.lemmas.Slice.Eq.{bytes_eq-Decides}
use Rattle.gz_uuid.specs.Producer.{AreProducer, shard_octets, client_octets}
use Rattle.gz_frame.specs.Messages.{Message, is_text_within, max_key, max_value}
use Rattle.gz_frame.specs.Release.{of_producer}
use Rattle.gz_frame.proofs.Lines.{lawful_line_reads_back}
use Rattle.gz_frame.proofs.Texts.{is_lawful}
use Rattle.std.proofs.lemmas.Str.{IsUtf8-nil}
use Rattle.gz_plain.specs.Definitions.{Definition, fresh}
use Rattle.gz_promise.specs.Journals.{Journal}
use Rattle.gz_plain.specs.Runs.{AreClients}
use Rattle.gz_plain.proofs.Takes.{none_taken}
use Rattle.gz_plain.proofs.Writes.{IsClean, holds_clean}
use Rattle.gz_plain.proofs.Steps.{HasLines, Kept}

-- ---- the producers of shards

octets_fit : (n : ℕ) → All (λ octet. octet < 2 ^ 8) (shard_octets n)
octets_fit n zero d within = omega arith
octets_fit n (suc zero) d within = omega arith
octets_fit n (suc (suc zero)) d within = omega arith
octets_fit n (suc (suc (suc zero))) d within = omega arith
octets_fit n (suc (suc (suc (suc zero)))) d within = omega arith
octets_fit n (suc (suc (suc (suc (suc zero))))) d within = omega arith
octets_fit n (suc (suc (suc (suc (suc (suc i)))))) d within = absurd (omega arith)

are_producer : (n : ℕ) → AreProducer (shard_octets n)
are_producer n = record { six = refl; multicast = refl }

still_message : (a : Bool) → a ≡ true → (a && true) ≡ true
still_message true is = refl
still_message false is = is

pub has_lines : (n : ℕ) → HasLines (shard_octets n)
has_lines n = record {
  line = λ clock o fits is. lawful_line_reads_back (record { producer = shard_octets n; clock = clock; flags = 0; key = o.key; value = o.value })
      (still_message (is_text_within max_key o.key && is_text_within max_value o.value) is)
      (record { octets = are_producer n; clock_fits = fits; flags_fit = omega arith }) (octets_fit n);
  ack = λ clock fits. lawful_line_reads_back (record { producer = shard_octets n; clock = clock; flags = 2; key = []; value = [] }) (is_lawful (shard_octets n) clock 2 [] [] IsUtf8-nil (omega arith) IsUtf8-nil (omega arith) (omega arith))
      (record { octets = are_producer n; clock_fits = fits; flags_fit = omega arith }) (octets_fit n);
}

-- ---- each producer is its shard's own

apart_if : (a b : List ℕ) → (a ≡ b → ⊥) → (t : Bool) → bytes_eq a b ≡ t → bytes_eq a b ≡ false
apart_if a b apart true is = absurd (apart ((bytes_eq-Decides a b).0 is))
apart_if a b apart false is = is

pub unequal : (a b : List ℕ) → (a ≡ b → ⊥) → bytes_eq a b ≡ false
unequal a b apart = apart_if a b apart (bytes_eq a b) refl

number_back : (a b c d e : ℕ) → ℕ
number_back a b c d e = (((a * 256 + b) * 256 + c) * 256 + d) * 256 + e

octet_at : List ℕ → ℕ → ℕ
octet_at xs i = get_or xs i 0

-- the number that five octets behind the first one say
behind : List ℕ → ℕ
behind xs = number_back (octet_at xs 1) (octet_at xs 2) (octet_at xs 3) (octet_at xs 4) (octet_at xs 5)

number_of : (n : ℕ) → n < 2 ^ 40 → behind (shard_octets n) ≡ n
unfolding behind number_back octet_at
number_of n fits = omega arith

pub shards_apart : (m n : ℕ) → m < 2 ^ 40 → n < 2 ^ 40 → (m ≡ n → ⊥) → shard_octets m ≡ shard_octets n → ⊥
shards_apart m n first second apart same =
    apart (sym (number_of m first) ∙ ap (λ (xs : List ℕ). behind xs) same ∙ number_of n second)

-- ---- the producers of clients

client_first : (m : ℕ) → octet_at (client_octets m) 0 ≡ 3
unfolding octet_at
client_first m = refl

shard_first : (n : ℕ) → octet_at (shard_octets n) 0 ≡ 5
unfolding octet_at
shard_first n = refl

first_octet : (m n : ℕ) → client_octets m ≡ shard_octets n → ⊥
first_octet m n same =
    let first : octet_at (client_octets m) 0 ≡ octet_at (shard_octets n) 0 = ap (λ (xs : List ℕ). octet_at xs 0) same in
    absurd (omega (arith, first, client_first m, shard_first n))

-- clients' messages are of no shard
pub none_of : (number : ℕ) (ms : List Message) → AreClients ms → of_producer (shard_octets number) ms ≡ []
none_of number [] clients = refl
none_of number (m ∷ ms) clients =
    let other : bytes_eq m.producer (shard_octets number) ≡ false =
    ap (λ (p : List ℕ). bytes_eq p (shard_octets number)) clients.1.1 ∙ unequal (client_octets clients.1.0) (shard_octets number) (first_octet clients.1.0 number) in
    rw (other, none_of number ms clients.2) refl

-- ---- a shard that has read nothing

pub kept_new : (js : List Journal) (number : ℕ) (d : Definition) → IsClean (shard_octets number) js → Kept js (fresh number d)
kept_new js number d clean = record {
  batches = [];
  taken = none_taken 0 js d.sources;
  upto = tt;
  lines = tt;
  shape = tt;
  store = refl;
  puts = refl;
  outputs = holds_clean js (shard_octets number) (length d.outputs) 0 d.outputs clean;
  clock = refl;
}
