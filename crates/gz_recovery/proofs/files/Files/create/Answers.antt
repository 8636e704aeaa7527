use Rattle.std.proofs.Common.{sym, ◌∙◌}
use Rattle.gz_recovery.proofs.Maps.{undone}
use Rattle.gz_recovery.proofs.files.Files.create.Goals as goal

pub returns-in-Err : goal.returns-in-Err
returns-in-Err c =
    undone _ _ _ _ _ _ c.args.path.now _ c.args.seq c.self.view_is (sym c.contains_key.ensures ∙ c.if-contains_key.false) c.in_ok-copy.ensures c.in_ok-insert.ensures.entries c.remove.ensures.entries c.in-Err.ensures.err
