use Rattle.std.proofs.Common.{◌≡◌, ◌-◌}
use Rattle.gz_codec.specs.Reading.{items_at, label_at}
use Rattle.gz_codec.proofs.Loop.{with_prefix}
use Rattle.gz_codec.proofs.labels.labels_from.Given as goal

abbrev pub invariant-items : goal.invariant-items
invariant-items l = with_prefix l.items.items (items_at label_at (l.count - l.counter) l.field l.rest) ≡ items_at label_at l.count l.field l.bytes
