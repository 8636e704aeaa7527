-- The content of an operation is read back as that operation.
use Rattle.std.proofs.Common.{◌≡◌, ℕ, zero, suc, ◌<◌, ◌≤◌, ◌^◌, List, length, refl, ap, arith, true, Some, nat_le}
use Rattle.std.specs.Int.{w64, to_be_bytes}
use Rattle.std.specs.Str.{bytes_eq}
use Rattle.std.proofs.lemmas.Grind.{common_steps}
use Rattle.std.proofs.lemmas.Nat.{from_be_bytes-to_be_bytes_8}
use Rattle.std.proofs.lemmas.Slice.Eq.{bytes_eq-Decides}
use Rattle.hex.specs.Hex.{IsBytes, decode_sized}
use Rattle.hex.proofs.HexLemmas.{decode_sized-encode_lower}
use Rattle.serde_json.proofs.OnLiterals.{serde_json_on_literals}
use Rattle.gz_json.specs.Json.{json_of}
use Rattle.gz_recovery.specs.Operations.{Op, IsLawful, max_seq, max_path, path_of, op_data, op_text, op_in, op_of, author_in, author_text}
use Rattle.gz_recovery.specs.declared.op.OpKind.{OpKind}
use Rattle.gz_recovery.specs.declared.op.OpKind.TheVariants.{Create, Link, Unlink, Write, Property, Handoff}

bytes_fit : (a : ℕ) → IsBytes (to_be_bytes w64 a)
bytes_fit a zero = omega arith
bytes_fit a (suc zero) = omega arith
bytes_fit a (suc (suc zero)) = omega arith
bytes_fit a (suc (suc (suc zero))) = omega arith
bytes_fit a (suc (suc (suc (suc zero)))) = omega arith
bytes_fit a (suc (suc (suc (suc (suc zero))))) = omega arith
bytes_fit a (suc (suc (suc (suc (suc (suc zero)))))) = omega arith
bytes_fit a (suc (suc (suc (suc (suc (suc (suc zero))))))) = omega arith
bytes_fit a (suc (suc (suc (suc (suc (suc (suc (suc n)))))))) = omega arith

author_again : (a : ℕ) → a < 2 ^ 64 → author_in (decode_sized (author_text a) 8) ≡ Some a
unfolding author_text
author_again a fits = rw (decode_sized-encode_lower (to_be_bytes w64 a) 8 refl (bytes_fit a)) (ap (λ (n : ℕ). Some n) (from_be_bytes-to_be_bytes_8 a fits))

within : (n m : ℕ) → n ≤ m → nat_le n m ≡ true
within n m h = grind (arith, common_steps)

again : (author seq : ℕ) (kind : OpKind) → author < 2 ^ 64 → seq ≤ max_seq → length (path_of kind) ≤ max_path →
    op_in (op_data (record { author = author; seq = seq; kind = kind })) ≡ Some (record { author = author; seq = seq; kind = kind })
unfolding serde_json_on_literals
again author seq (Create path) fits small short = rw (author_again author fits, within seq max_seq small, within (length path) max_path short) refl
again author seq (Link fnode path) fits small short = rw (author_again author fits, within seq max_seq small, within (length path) max_path short) refl
again author seq (Unlink path) fits small short = rw (author_again author fits, within seq max_seq small, within (length path) max_path short) refl
again author seq (Write fnode offset text) fits small short = rw (author_again author fits, within seq max_seq small) refl
again author seq (Property path text) fits small short = rw (author_again author fits, within seq max_seq small, within (length path) max_path short) refl
again author seq Handoff fits small short = rw (author_again author fits, within seq max_seq small) refl

-- an operation's members are read as that operation
pub op_again : (op : Op) → IsLawful op → op_in (op_data op) ≡ Some op
op_again op lawful = again op.author op.seq op.kind lawful.author lawful.number lawful.path

itself : (content : List ℕ) → bytes_eq content content ≡ true
itself content = (bytes_eq-Decides content content).1 refl

-- where its content is JSON, it is read back
pub content_again : (op : Op) (content : List ℕ) → IsLawful op → content ≡ op_text op → json_of content ≡ Some (op_data op) → op_of content ≡ Some op
unfolding op_of
content_again op content lawful printed read = rw (read, op_again op lawful, printed, itself (op_text op)) refl
