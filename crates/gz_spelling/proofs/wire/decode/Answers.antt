use Rattle.gz_wire.specs.Kinds.{kind_of}
use Rattle.gz_spelling.proofs.Rows.{have_kinds}
use Rattle.gz_spelling.proofs.wire.decode.Goals as goal

pub returns-clause-only : goal.returns-clause-only
returns-clause-only c = λ peer m more fits e. c.read.ensures.only peer m more (rw c.messages-table.ensures (have_kinds (kind_of m))) fits e
