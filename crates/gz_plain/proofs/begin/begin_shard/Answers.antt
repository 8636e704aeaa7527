use Rattle.std.proofs.Common.{◌≡◌, None, refl}
use Rattle.gz_plain.specs.declared.shard.Shard.{Shard}
use Rattle.gz_plain.proofs.Beginning.{IsBegun, begun_kept, begun_seen}
use Rattle.gz_plain.proofs.begin.begin_shard.Goals as goal

pub returns-clause-shard : goal.returns-clause-shard
returns-clause-shard c =
    let s : Shard = record { id = c.args.definition.id; log = c.args.definition.log; producer = c.producer_of.result; readers = c.in_ok-readers.readers; writers = c.in_ok-writers.writers; app = c.args.definition.app; is_disabled = c.args.definition.is_disabled; past = None; commits = c.new.result; messages = 0; store = c.new-2.result } in
    begun_seen c.args.journals.now c.args.number c.args.definition s
    (record { id = refl; log = refl; producer = c.producer_of.ensures; readers = c.in_ok-readers.ensures; writers = c.in_ok-writers.ensures; app = refl; is_disabled = refl; past = refl; commits = c.new.ensures.items; messages = refl; store = c.new-2.ensures })

pub returns-clause-kept : goal.returns-clause-kept
returns-clause-kept c =
    let s : Shard = record { id = c.args.definition.id; log = c.args.definition.log; producer = c.producer_of.result; readers = c.in_ok-readers.readers; writers = c.in_ok-writers.writers; app = c.args.definition.app; is_disabled = c.args.definition.is_disabled; past = None; commits = c.new.result; messages = 0; store = c.new-2.result } in
    begun_kept c.args.journals.now c.args.number c.args.definition s c.requires.offsets c.requires.sources c.requires.outputs
    (record { id = refl; log = refl; producer = c.producer_of.ensures; readers = c.in_ok-readers.ensures; writers = c.in_ok-writers.ensures; app = refl; is_disabled = refl; past = refl; commits = c.new.ensures.items; messages = refl; store = c.new-2.ensures })
