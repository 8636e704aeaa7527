use Rattle.std.proofs.Common.{◌∙◌, ap, None, Some}
use Rattle.gz_spec.specs.declared.framing.Framing.{Framing}
use Rattle.gz_links.proofs.ByName.{held_by}
use Rattle.gz_links.proofs.by_name.JournalsByName.framing_at.Goals as goal

pub returns-in-None : goal.returns-in-None
returns-in-None c = held_by c.args.self.now c.args.name.now None c.in-None.ensures

pub returns-in-Some : goal.returns-in-Some
returns-in-Some c =
    ap (λ (f : Framing). Some f) c.framing.ensures ∙ held_by c.args.self.now c.args.name.now (Some c.in-Some.journal.now) c.in-Some.ensures
