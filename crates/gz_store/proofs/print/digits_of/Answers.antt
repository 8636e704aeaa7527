use Rattle.std.proofs.Common.{arith}
use Rattle.gz_store.proofs.print.digits_of.Goals as goal

pub returns-clause-bytes : goal.returns-clause-bytes
returns-clause-bytes c = λ i. let fits = c.type_inv.octets i in omega arith
