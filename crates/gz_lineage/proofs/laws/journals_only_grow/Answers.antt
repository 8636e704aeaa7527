use Rattle.gz_lineage.proofs.Safe.{safe, grows}
use Rattle.gz_lineage.proofs.laws.journals_only_grow.Goals as goal

pub returns-clause-grows : goal.returns-clause-grows
returns-clause-grows c = grows

pub returns-clause-serves : goal.returns-clause-serves
returns-clause-serves c = λ size es h. (safe size es h).serves

pub returns-clause-heads : goal.returns-clause-heads
returns-clause-heads c = λ size es h. (safe size es h).heads

pub returns-clause-stores : goal.returns-clause-stores
returns-clause-stores c = λ size es h. (safe size es h).stores
