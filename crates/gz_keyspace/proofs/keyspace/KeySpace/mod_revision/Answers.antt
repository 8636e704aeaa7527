use Rattle.std.proofs.Common.{ap, Option}
use Rattle.std.specs.Option.{option_map_or}
use Rattle.gz_keyspace.specs.declared.table.Held.{Held}
use Rattle.gz_keyspace.proofs.keyspace.KeySpace.mod_revision.Goals as goal

pub returns-in-None : goal.returns-in-None
returns-in-None c = ap (λ (o : Option Held). option_map_or (λ (held : Held). held.mod_revision) o 0) c.in-None.ensures

pub returns-in-Some : goal.returns-in-Some
returns-in-Some c = ap (λ (o : Option Held). option_map_or (λ (held : Held). held.mod_revision) o 0) c.in-Some.ensures
