use Rattle.std.proofs.Common.{◌≡◌}
use Rattle.std.specs.Prelude.{slice_get}
use Rattle.gz_recovery.proofs.files.Files.nth_path.Given as goal

abbrev pub invariant-loop-path : goal.invariant-loop-path
invariant-loop-path l = slice_get l.path-iterator l.left ≡ slice_get l.fn.self.paths l.place
