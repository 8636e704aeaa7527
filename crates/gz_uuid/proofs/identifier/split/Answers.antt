-- The bytes that were read are the identifier of what was read from them.
use Rattle.std.proofs.Common.{◌≡◌, IsTrue, arith}
use Rattle.std.proofs.lemmas.Grind.{common_steps}
use Rattle.gz_uuid.specs.Identifier.{is_identifier, producer_of, flags_of}
use Rattle.gz_uuid.proofs.Reading.{last_six, identifier_read}
use Rattle.gz_uuid.proofs.identifier.split.Goals as goal

pub returns-clause-some : goal.returns-clause-some
returns-clause-some c =
    let sixteen = rw c.as_bytes-bytes.ensures at c.bytes_fit.ensures.sixteen in
    let fit = rw c.as_bytes-bytes.ensures at c.bytes_fit.ensures.fit in
    let form : IsTrue (is_identifier c.args.id) = grind (arith, common_steps) in
    let producer : c.in_ok-producer.producer ≡ producer_of c.args.id = grind (arith, last_six) in
    let flags : c.in_ok-flags.flags ≡ flags_of c.args.id = grind arith in
    identifier_read _ _ _ _ sixteen fit form producer c.clock_in-clock.ensures flags
