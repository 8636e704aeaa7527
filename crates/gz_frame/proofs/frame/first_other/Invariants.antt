use Rattle.std.proofs.Common.{◌≡◌, drop}
use Rattle.gz_frame.specs.Frame.{magic, first_other}
use Rattle.gz_frame.proofs.frame.first_other.Given as goal

-- what is to be compared is what is left
abbrev pub invariant-magic : goal.invariant-magic
invariant-magic l = first_other 0 magic l.bytes ≡ first_other l.i (drop l.i magic) (drop l.i l.bytes)
