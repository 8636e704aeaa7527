use Rattle.gz_codec.proofs.Values.{fields_take, fields_again}
use Rattle.gz_codec.proofs.laws.fields_have_one_spelling.Goals as goal

pub returns-clause-read_as_spelled : goal.returns-clause-read_as_spelled
returns-clause-read_as_spelled c = λ kinds first bytes values fits read. fields_take kinds first bytes values fits read

pub returns-clause-spelled_as_read : goal.returns-clause-spelled_as_read
returns-clause-spelled_as_read c = λ kinds first values fit. fields_again kinds first values fit
