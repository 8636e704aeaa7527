-- Lists without resets where no registers are: they end where the lists do, with the same registers. So a cluster's
-- acknowledged list and the reduced journal that it follows end alike, and what both get they get alike.
use Rattle.std.proofs.Common.{◌≡◌, List, [], ◌∷◌, ◌++◌, refl, ap, sym, ◌∙◌, arith}
use Rattle.gz_label.specs.declared.label.Label.{Label}
use Rattle.gz_lineage.specs.Marks.{Mark, Reset, Added, registers_from, end_of_marks}
use Rattle.gz_lineage.specs.World.{World}
use Rattle.gz_cluster.specs.Ledger.{Ledger}
use Rattle.gz_steps.specs.Followed.{plain_of, LedgerSeen}

plain_append : (regs : List Label) (xs ys : List Mark) → plain_of regs (xs ++ ys) ≡ plain_of regs xs ++ plain_of (registers_from regs xs) ys
plain_append regs [] ys = refl
plain_append regs (Added e ∷ xs) ys = ap (λ l. Added e ∷ l) (plain_append e.registers xs ys)
plain_append [] (Reset ∷ xs) ys = plain_append [] xs ys
plain_append (r ∷ rs) (Reset ∷ xs) ys = ap (λ l. Reset ∷ l) (plain_append [] xs ys)

plain_end : (regs : List Label) (xs : List Mark) → end_of_marks (plain_of regs xs) ≡ end_of_marks xs
plain_end regs [] = refl
plain_end regs (Added e ∷ xs) = omega (arith, plain_end e.registers xs)
plain_end [] (Reset ∷ xs) = omega (arith, plain_end [] xs)
plain_end (r ∷ rs) (Reset ∷ xs) = omega (arith, plain_end [] xs)

plain_registers : (regs : List Label) (xs : List Mark) → registers_from regs (plain_of regs xs) ≡ registers_from regs xs
plain_registers regs [] = refl
plain_registers regs (Added e ∷ xs) = plain_registers e.registers xs
plain_registers [] (Reset ∷ xs) = plain_registers [] xs
plain_registers (r ∷ rs) (Reset ∷ xs) = plain_registers [] xs

-- so both end at one offset
pub same_end : (l : Ledger) (w : World) → LedgerSeen l w → end_of_marks l.marks ≡ end_of_marks w.journal
same_end l w s = sym (plain_end [] l.marks) ∙ ap end_of_marks s.list ∙ plain_end [] w.journal

-- with the same registers
pub same_registers : (l : Ledger) (w : World) → LedgerSeen l w → registers_from [] l.marks ≡ registers_from [] w.journal
same_registers l w s = sym (plain_registers [] l.marks) ∙ ap (registers_from []) s.list ∙ plain_registers [] w.journal

-- both lists get what is the same behind their registers
pub adds_same : (l : Ledger) (w : World) (marks more : List Mark) → LedgerSeen l w → plain_of (registers_from [] w.journal) marks ≡ plain_of (registers_from [] w.journal) more →
    plain_of [] (l.marks ++ marks) ≡ plain_of [] (w.journal ++ more)
adds_same l w marks more s e =
    plain_append [] l.marks marks
    ∙ ap (λ r. plain_of [] l.marks ++ plain_of r marks) (same_registers l w s) ∙ ap (λ x. plain_of [] l.marks ++ x) e
    ∙ ap (λ x. x ++ plain_of (registers_from [] w.journal) more) s.list ∙ sym (plain_append [] w.journal more)
