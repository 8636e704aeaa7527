use Rattle.std.proofs.Common.{None}
use Rattle.gz_spec.specs.Specs.{name_of_journal}
use Rattle.gz_links.proofs.ByName.{named_by, named_got}
use Rattle.gz_links.proofs.by_name.JournalsByName.named.Goals as goal

pub returns-in-None : goal.returns-in-None
returns-in-None c =
    named_by name_of_journal c.args.name.now c.self.inside.names.keys c.self.inside.journals.now c.args.self.now None c.self.invariant c.self.view_is
    c.in-None.ensures.index

pub returns-in-Some : goal.returns-in-Some
returns-in-Some c =
    named_got name_of_journal c.args.name.now c.self.inside.names.keys c.self.inside.journals.now c.args.self.now c.in-Some.place c.get.result
    c.self.invariant c.self.view_is c.in-Some.ensures.index c.get.ensures.lookup.0 c.get.ensures.lookup.1
