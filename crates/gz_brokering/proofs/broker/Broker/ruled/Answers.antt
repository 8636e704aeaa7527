use Rattle.std.proofs.Common.{◌≡◌, ◌∙◌, ap}
use Rattle.gz_broker.specs.Brokers.{Broker, new_row, row_of, with_row}
use Rattle.gz_brokering.specs.Rules.{gave}
use Rattle.gz_brokering.proofs.Ruling.{ruled_by}
use Rattle.gz_brokering.proofs.broker.Broker.ruled.Goals as goal

pub returns : goal.returns
returns c =
    let taken : Broker = record { name = c.self.inside.name; mirror = c.self.inside.mirror; rows = c.take.new.self; fetches = c.self.inside.fetches.items; requests = c.self.inside.requests } in
    let rows : c.take.new.self ≡ with_row c.args.journal.now new_row c.args.self.now.rows =
    c.in_ok-row.ensures.rows ∙ ap (λ (b : Broker). with_row c.args.journal.now new_row b.rows) c.self.view_is in
    let same : taken ≡ record c.args.self.now { rows = with_row c.args.journal.now new_row c.args.self.now.rows } = λ i. record (c.self.view_is i) { rows = rows i } in
    let found : c.in_ok-row.row ≡ row_of c.args.journal.now c.args.self.now.rows =
    c.in_ok-row.ensures.row ∙ ap (λ (b : Broker). row_of c.args.journal.now b.rows) c.self.view_is in
    ruled_by c.args.self.now taken c.args.journal.now c.in_ok-row.row c.args.rule (gave c.apply.new.self c.in_ok-out.out) same found c.in_ok-out.ensures
