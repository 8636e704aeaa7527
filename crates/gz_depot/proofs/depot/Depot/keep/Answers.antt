use Rattle.std.proofs.Common.{ap, ◌∙◌}
use Rattle.gz_depot.specs.Depot.{kept}
use Rattle.gz_depot.proofs.IndexLemmas.{kept_by_table}
use Rattle.gz_depot.proofs.depot.Depot.keep.Goals as goal

pub returns : goal.returns
returns c =
    kept_by_table c.self.inside.indexes.entries c.insert.new.self.entries c.insert-2.new.self.entries c.args.journal c.in_ok-key.key c.args.name c.args.name.begin c.args.content c.new.result c.in_ok-found.found c.in_ok-index.index
    c.in_ok-key.ensures c.new.ensures c.in_ok-found.ensures.entries c.in_ok-found.ensures.old c.requires c.in_ok-index.ensures c.in_ok-insert.ensures.entries
    ∙ ap (kept c.args.journal c.args.name.begin c.args.content) c.self.view_is
