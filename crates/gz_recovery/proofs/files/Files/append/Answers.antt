use Rattle.std.proofs.Common.{◌≡◌, sym, ◌∙◌, ap, ℕ, List}
use Rattle.std.proofs.lemmas.Map.Steps.{set_value_same}
use Rattle.gz_recovery.specs.Files.{Nodes, is_node}
use Rattle.gz_recovery.specs.declared.files.Node.{Node}
use Rattle.std.specs.Map.{set_value}
use Rattle.gz_recovery.proofs.Maps.{on_err}
use Rattle.gz_recovery.proofs.files.Files.append.Goals as goal

pub returns-in_err-append-clause-err : goal.returns-in_err-append-clause-err
returns-in_err-append-clause-err c =
    let w : Node = record { text = c.append.new.self; links = c.in-Some.node.now.links } in
    let same : w ≡ c.in-Some.node.now = ap (λ (t : List ℕ). record { text = t; links = c.in-Some.node.now.links }) c.in_err-append.ensures.err in
    let holds = c.get_mut.follows.holds w in
    let stays = set_value_same (is_node c.args.fnode) c.self.inside.nodes.entries c.in-Some.node.now (sym c.in-Some.ensures.value) in
    on_err c.from_residual.result _ (ap (λ (ns : Nodes). record { nodes = ns; paths = c.self.inside.paths.entries; properties = c.self.inside.properties.entries }) (holds.0 ∙ ap (λ (x : Node). set_value (is_node c.args.fnode) c.self.inside.nodes.entries x) same ∙ stays) ∙ c.self.view_is)
