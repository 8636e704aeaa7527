use Rattle.std.proofs.Common.{◌≡◌, drop}
use Rattle.std.specs.List.{list_all}
use Rattle.gz_fields.specs.Names.{is_segment, segments}
use Rattle.gz_fields.proofs.Segments.{goes_on}
use Rattle.gz_fields.proofs.names.is_path.Given as goal

abbrev pub invariant-loop-byte : goal.invariant-loop-byte
invariant-loop-byte l = goes_on l.is_inside (drop l.byte-index l.text) ≡ list_all is_segment (segments l.text)
