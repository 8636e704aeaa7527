-- The acknowledged list of a journal follows the journal of the reduced world. They are the same but for resets where no
-- registers are: the cluster's list gets one whenever a primary opens with a bare spool, also the first time, the reduced
-- journal only where its list has one. So lists are compared without such resets.
use Rattle.std.specs.Prelude.{◌≡◌, List, [], ◌∷◌}
use Rattle.gz_label.specs.declared.label.Label.{Label}
use Rattle.gz_lineage.specs.Marks.{Mark, Reset, Added}
use Rattle.gz_lineage.specs.World.{World}
use Rattle.gz_cluster.specs.Ledger.{Ledger}

-- without resets where the registers are empty already
abbrev pub plain_of : List Label → List Mark → List Mark
plain_of regs [] = []
plain_of regs (Added e ∷ ms) = Added e ∷ plain_of e.registers ms
plain_of [] (Reset ∷ ms) = plain_of [] ms
plain_of (r ∷ rs) (Reset ∷ ms) = Reset ∷ plain_of [] ms

-- The same greatest open epoch, and the same list but for such resets.
pub record LedgerSeen (l : Ledger) (w : World) : Type 0 where
  pub top : l.top ≡ w.top
  pub list : plain_of [] l.marks ≡ plain_of [] w.journal
