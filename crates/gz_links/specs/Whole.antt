-- Specifications as a whole: the journals that shards name are there, and no shard reaches itself.
use Rattle.std.specs.Prelude.{ℕ, List, Option, Some, None, Result, Ok, Err, codes}
use Rattle.gz_model.specs.Steps.{◌>>=◌}
use Rattle.gz_fields.specs.Paths.{at_place}
use Rattle.gz_spec.specs.Records.{ShardSpec, Specs}
use Rattle.gz_spec.specs.Specs.{part_of}
use Rattle.gz_links.specs.Outcomes.{of_fields}
use Rattle.gz_links.specs.Links.{all_linked}
use Rattle.gz_links.specs.Cycles.{first_cycle}
use Rattle.gz_links.specs.declared.error.SpecError.{SpecError}
use Rattle.gz_links.specs.declared.error.SpecError.TheVariants.{Cycle}

abbrev pub cycle_if : Option ℕ → Result (Unit {0}) SpecError
cycle_if None = Ok tt
cycle_if (Some i) = Err (Cycle (at_place (codes "shards") i))

-- No shard reaches itself. Else the first that does is told.
unfoldable pub acyclic : List ShardSpec → Result (Unit {0}) SpecError
acyclic shards = cycle_if (first_cycle shards)

-- The journals that the shards name are there, and no shard reaches itself.
unfoldable pub whole : Specs → Result Specs SpecError
whole specs = do
  _ ← all_linked specs.journals 0 specs.shards
  _ ← acyclic specs.shards
  Ok specs

-- the four lists that a text says
unfoldable pub specs_of : List ℕ → Result Specs SpecError
specs_of bytes = do
  specs ← of_fields (part_of bytes)
  whole specs
