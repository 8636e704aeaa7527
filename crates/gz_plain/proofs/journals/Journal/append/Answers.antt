-- There are still no registers, and the text has room.
use Rattle.gz_journal.proofs.Plain.{plain_registers, plain_end}
use Rattle.gz_plain.proofs.journals.Journal.append.Goals as goal

pub invariant_of-self-2 : goal.invariant_of-self-2
invariant_of-self-2 c = (
  rw c.in_ok-landed.ensures.ok (plain_end c.self.inside.state c.args.attempt c.args.bytes c.self.invariant.1 c.self.invariant.0),
  rw c.in_ok-landed.ensures.ok (plain_registers c.self.inside.state c.args.attempt c.args.bytes c.self.invariant.1),
)
