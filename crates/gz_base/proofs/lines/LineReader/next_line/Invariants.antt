use Rattle.std.proofs.Common.{◌≤◌, ◌+◌, ◌-◌, max, length}
use Rattle.std.specs.Io.KnownBytes.{Keeps}
use Rattle.gz_model.specs.Lines.{IsSearched}
use Rattle.gz_model.specs.Told.{ahead}
use Rattle.gz_base.proofs.lines.LineReader.next_line.Given as goal

abbrev pub invariant-reads : goal.invariant-reads
invariant-reads g l =
    let source = g.S.Source in
    record {
      same : Keeps (ahead l.fn.self (source.left l.fn.input)) (ahead l.self (source.left l.input));
      within : l.searched ≤ length l.self;
      searched : IsSearched l.searched l.self;
      limited : l.searched ≤ l.limit;
      one_block : length l.self ≤ max (length l.fn.self) (l.searched + 65536);
      faults_stay : source.faults l.fn.input ≤ source.faults l.input;
    }

abbrev pub decreases-reads : goal.decreases-reads
decreases-reads g l = l.limit + 1 - length l.self
