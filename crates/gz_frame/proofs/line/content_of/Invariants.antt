use Rattle.std.proofs.Common.{◌≡◌, ◌++◌, take, drop, option_map}
use Rattle.gz_frame.specs.Text.{content_of}
use Rattle.gz_frame.proofs.line.content_of.Given as goal

-- what stands before the newline is the bytes so far and what stands there in the rest
abbrev pub invariant-bytes : goal.invariant-bytes
invariant-bytes l = content_of l.line ≡ option_map (λ content. take l.i l.line ++ content) (content_of (drop l.i l.line))
