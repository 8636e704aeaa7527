use Rattle.gz_spelling.proofs.Rows.{own_tags}
use Rattle.gz_spelling.proofs.Whole.{no_prefix}
use Rattle.gz_spelling.proofs.table.Table.no_spelling_is_a_prefix.Goals as goal

pub returns : goal.returns
returns g c = no_prefix c.args.self.now.rows c.args.self.now.distinct (own_tags c.args.self.now.rows c.args.self.now.tagged)
