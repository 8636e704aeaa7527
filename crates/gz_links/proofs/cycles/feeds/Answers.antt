use Rattle.std.proofs.Common.{refl}
use Rattle.gz_links.proofs.cycles.feeds.Goals as goal

pub returns : goal.returns
returns c = rw (c.is_any_read.ensures, c.as_slice.ensures.value, c.as_slice-2.ensures, ← c.shard.view_is, ← c.other.view_is) refl
