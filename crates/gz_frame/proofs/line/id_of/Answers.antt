use Rattle.std.proofs.Common.{sym, true≢false}
use Rattle.gz_frame.proofs.Texts.{no_value}
use Rattle.gz_frame.proofs.line.id_of.Goals as goal

pub returns-in-Err : goal.returns-in-Err
returns-in-Err c = no_value _ (λ w. true≢false (sym (c.in-Err.ensures.ok.1 w)))
