use Rattle.gz_frame.specs.Text.{messages_of}
use Rattle.gz_world.proofs.report.print_text.Goals as goal

pub returns-in-None : goal.returns-in-None
unfolding messages_of
returns-in-None c = let none = rw c.as_slice.ensures.value at c.in-None.ensures in rw none c.print_line-in-None.ensures
