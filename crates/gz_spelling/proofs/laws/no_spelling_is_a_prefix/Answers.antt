use Rattle.gz_wire.specs.Kinds.{kind_of}
use Rattle.gz_spelling.proofs.Rows.{have_kinds}
use Rattle.gz_spelling.proofs.laws.no_spelling_is_a_prefix.Goals as goal

pub returns : goal.returns
returns c = λ p q m n more one other same. c.no_spelling_is_a_prefix.ensures p q m n more (rw c.messages.ensures (have_kinds (kind_of m))) (rw c.messages.ensures (have_kinds (kind_of n))) one other same
