use Rattle.std.proofs.Common.{rules, arith, ◌≡◌, ◌<◌, true, false, is_some, length, get_or, sym}
use Rattle.std.proofs.lemmas.List.{get_or_read}
use Rattle.gz_replica.proofs.Slotted.{fill_there, fill_full, fill_past, emptied_there, emptied_past}
use Rattle.gz_replica.proofs.slots.fill.Goals as goal

pub returns-then-place-slots-clause-slots : goal.returns-then-place-slots-clause-slots
returns-then-place-slots-clause-slots g c = sym (fill_past c.args.member.now c.args.value c.args.slots.now (omega arith))

pub returns-then-place-slots-clause-undone : goal.returns-then-place-slots-clause-undone
returns-then-place-slots-clause-undone g c = emptied_past c.args.slots.now (length c.args.slots.now) (omega arith)

pub returns-then-is_some-clause-slots : goal.returns-then-is_some-clause-slots
returns-then-is_some-clause-slots g c =
    let some : is_some c.index-slots-place.result.1 ≡ true = search rules in
    sym (fill_full c.args.member.now c.args.value c.args.slots.now c.place_of-place.result c.index-slots-place.result c.place_of-place.ensures (omega arith) c.index-slots-place.is some)

pub returns-then-is_some-clause-undone : goal.returns-then-is_some-clause-undone
returns-then-is_some-clause-undone g c = emptied_past c.args.slots.now (length c.args.slots.now) (omega arith)

pub returns-clause-slots : goal.returns-clause-slots
returns-clause-slots g c =
    let none : is_some c.index-slots-place.result.1 ≡ false = search rules in
    let within : c.place_of-place.result < length c.args.slots.now = omega arith in
    let same : c.index-slots-place.result ≡ get_or c.args.slots.now c.place_of-place.result c.index-slots-place-2.result =
    get_or_read c.args.slots.now c.place_of-place.result c.index-slots-place.result within c.index-slots-place.is c.index-slots-place-2.result in
    let name : c.put_value.new.slot.0 ≡ c.index-slots-place.result.0 = cc (c.put_value.ensures.name, same) in
    fill_there c.args.member.now c.args.value c.args.slots.now c.place_of-place.result c.index-slots-place.result c.put_value.new.slot
    c.place_of-place.ensures within c.index-slots-place.is none name c.put_value.ensures.value

pub returns-clause-undone : goal.returns-clause-undone
returns-clause-undone g c =
    let none : is_some c.index-slots-place.result.1 ≡ false = search rules in
    let within : c.place_of-place.result < length c.args.slots.now = omega arith in
    let same : c.index-slots-place.result ≡ get_or c.args.slots.now c.place_of-place.result c.index-slots-place-2.result =
    get_or_read c.args.slots.now c.place_of-place.result c.index-slots-place.result within c.index-slots-place.is c.index-slots-place-2.result in
    let name : c.put_value.new.slot.0 ≡ c.index-slots-place.result.0 = cc (c.put_value.ensures.name, same) in
    emptied_there c.args.slots.now c.place_of-place.result c.index-slots-place.result c.put_value.new.slot
    within c.index-slots-place.is none name
