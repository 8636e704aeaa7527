use Rattle.std.proofs.Common.{◌∙◌}
use Rattle.gz_broker.specs.Brokers.{row_of}
use Rattle.gz_brokering.proofs.Found.{row_taken}
use Rattle.gz_brokering.proofs.rows.Rows.take.Goals as goal

pub returns-clause-row : goal.returns-clause-row
returns-clause-row c =
    c.found_or_new-row.ensures
    ∙ row_taken c.in_ok-key.key c.self.inside.rows.entries c.in_ok-found.found c.in_ok-found.ensures.old
    ∙ (λ i. row_of (c.in_ok-key.ensures i) (c.self.view_is i))
