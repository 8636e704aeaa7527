-- Where prefixes of a list of marks end, in bytes. A longer prefix ends no earlier; it ends later where entries alone are
-- between the two, since none is empty. That is what makes a comparison of offsets one of counts.
use Rattle.std.proofs.Common.{◌≡◌, ℕ, ◌+◌, ◌<◌, ◌≤◌, List, [], ◌∷◌, ◌++◌, length, take, drop, refl, ap, arith, zero, suc}
use Rattle.std.specs.Prelude.{map}
use Rattle.std.proofs.lemmas.List.{length-append, take_all}
use Rattle.gz_label.specs.declared.label.Label.{Label}
use Rattle.gz_label.specs.declared.entry.Entry.{Entry}
use Rattle.gz_journal.specs.JournalList.{text_of, end_of}
use Rattle.gz_spool.specs.Spools.{registers_behind}
use Rattle.gz_lineage.specs.Lists.{Each}
use Rattle.gz_lineage.specs.Marks.{Mark, Reset, Added, IsPut, size_of, end_of_marks, registers_after, registers_from}

-- the end of two lists in a row is the sum of their ends
pub end_append : (xs ys : List Mark) → end_of_marks (xs ++ ys) ≡ end_of_marks xs + end_of_marks ys
end_append [] ys = omega arith
end_append (x ∷ xs) ys = omega (arith, end_append xs ys)

-- entries end as marks where they end as entries
pub end_added : (es : List Entry) → end_of_marks (map Added es) ≡ end_of es
end_added [] = refl
end_added (e ∷ es) = omega (arith, end_added es, length-append e.bytes (text_of es))

-- and leave the same registers
pub registers_added : (base : List Label) (es : List Entry) → registers_from base (map Added es) ≡ registers_behind base es
registers_added base [] = refl
registers_added base (e ∷ es) = registers_added e.registers es

-- registers behind two lists in a row are those that the second leaves behind the first
pub registers_append : (base : List Label) (xs ys : List Mark) → registers_from base (xs ++ ys) ≡ registers_from (registers_from base xs) ys
registers_append base [] ys = refl
registers_append base (x ∷ xs) ys = registers_append (registers_after x) xs ys

-- the longest prefix of a list ends where the list does
pub end_whole : (xs : List Mark) → end_of_marks (take (length xs) xs) ≡ end_of_marks xs
end_whole xs = ap end_of_marks (take_all (length xs) xs (omega arith))

-- a longer prefix ends at or behind the end of a shorter one
pub end_more : (j k : ℕ) (xs : List Mark) → j ≤ k → end_of_marks (take j xs) ≤ end_of_marks (take k xs)
end_more zero k xs l = omega arith
end_more (suc j) zero xs l = absurd (omega arith)
end_more (suc j) (suc k) [] l = omega arith
end_more (suc j) (suc k) (x ∷ xs) l = omega (arith, end_more j k xs (omega arith))

-- an entry has bytes
put_size : (m : Mark) → IsPut m → 0 < size_of m
put_size Reset p = absurd p
put_size (Added e) p = p

-- and behind it, where entries alone stand from the first b marks on
pub end_less : (b j k : ℕ) (xs : List Mark) → Each IsPut (drop b xs) → b ≤ j → j < k → k ≤ length xs → end_of_marks (take j xs) < end_of_marks (take k xs)
end_less b j zero xs p l m n = absurd (omega arith)
end_less b j (suc k) [] p l m n = absurd (omega arith)
end_less b zero (suc k) (x ∷ xs) p l m n = let z : b ≡ 0 = omega arith in let q : Each IsPut (x ∷ xs) = rw z at p in omega (arith, put_size x q.0)
end_less zero (suc j) (suc k) (x ∷ xs) p l m n = omega (arith, end_less 0 j k xs p.1 (omega arith) (omega arith) (omega arith))
end_less (suc b) (suc j) (suc k) (x ∷ xs) p l m n = omega (arith, end_less b j k xs p (omega arith) (omega arith) (omega arith))
