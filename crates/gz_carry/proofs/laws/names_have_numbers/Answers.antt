use Rattle.gz_carry.proofs.Numbers.{names_have_numbers}
use Rattle.gz_carry.proofs.laws.names_have_numbers.Goals as goal

pub returns : goal.returns
returns c = names_have_numbers
