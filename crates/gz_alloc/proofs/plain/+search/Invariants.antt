use Rattle.std.proofs.Common.{◌+◌, ◌-◌, ◌*◌}
use Rattle.gz_alloc.proofs.plain.+search.Given as goal

abbrev pub decreases-search : goal.decreases-search
decreases-search l = 65 * (1025 - l.i) + (65 - l.m)
