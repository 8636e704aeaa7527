use Rattle.std.proofs.Common.{arith}
use Rattle.gz_spelling.proofs.Rows.{own_tags}
use Rattle.gz_spelling.proofs.Whole.{found_begins, found_all}
use Rattle.gz_spelling.proofs.table.Table.read.Goals as goal

pub returns-clause-begins : goal.returns-clause-begins
returns-clause-begins g c = found_begins c.args.self.now.rows (own_tags c.args.self.now.rows c.args.self.now.tagged) c.args.bytes.now c.read.result (λ i. omega (arith, c.type_inv.bytes i)) c.read.ensures

pub returns-clause-only : goal.returns-clause-only
returns-clause-only g c = found_all c.args.self.now.rows c.args.self.now.distinct (own_tags c.args.self.now.rows c.args.self.now.tagged) c.args.bytes.now c.read.result c.read.ensures
