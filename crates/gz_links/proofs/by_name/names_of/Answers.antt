use Rattle.std.proofs.Common.{◌∙◌, ap}
use Rattle.gz_spec.specs.Specs.{name_of_journal}
use Rattle.gz_links.proofs.ByName.{names_turn}
use Rattle.gz_links.proofs.by_name.names_of.Goals as goal

pub loop-journal-preserved : goal.loop-journal-preserved
loop-journal-preserved c =
    names_turn name_of_journal _ _ c.args.journals.now c.loop-journal.journal-index c.journal-item.result c.in_ok-name.name c.loop-journal-test.true
    c.journal-item.is c.loop-journal.invariant (c.in_ok-name.ensures ∙ ap name_of_journal c.journal.view_is) c.in_ok-insert.ensures.keys
