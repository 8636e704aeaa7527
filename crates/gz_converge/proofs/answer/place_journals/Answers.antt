use Rattle.std.proofs.Common.{◌≡◌, List, false, map, ap, ◌∙◌}
use Rattle.gz_converge.specs.declared.view.JournalView.{JournalView}
use Rattle.gz_converge.specs.declared.view.MemberView.{MemberView}
use Rattle.gz_converge.specs.Converged.{holder, holders, journal_item, journals_asked, routes_now}
use Rattle.gz_converge.proofs.Placing.{asked_is, placed_as, made_problem}
use Rattle.gz_converge.proofs.answer.place_journals.Goals as goal

pub returns : goal.returns
returns c =
    let items : c.in_ok-items.items.items ≡ map journal_item c.args.view.now.journals = c.in_ok-items.ensures ∙ ap (λ (js : List JournalView). map journal_item js) c.journals.ensures in
    let members : c.in_ok-brokers.brokers.items ≡ map holder (holders false c.args.view.now.members) = c.in_ok-brokers.ensures ∙ ap (λ (ms : List MemberView). map holder (holders false ms)) c.members.ensures in
    let asked : c.in-Some.problem ≡ journals_asked c.args.view.now = asked_is c.in_ok-items.items.items (map journal_item c.args.view.now.journals) c.in_ok-brokers.brokers.items (map holder (holders false c.args.view.now.members)) c.in-Some.problem c.in-Some.ensures items members in
    placed_as c.in-Some.problem (journals_asked c.args.view.now) c.in_ok-now.now (routes_now c.args.view.now) c.args.goal.now c.in_ok-placement.placement asked c.in_ok-now.ensures c.in_ok-placement.ensures

pub placed-requires : goal.placed-requires
placed-requires c = made_problem c.in_ok-items.items.items c.in_ok-brokers.brokers.items c.in-Some.problem c.in-Some.ensures
