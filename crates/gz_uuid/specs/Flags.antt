-- The numbers of the named flags, which `Flags::CONTINUE_TXN`, `OUTSIDE_TXN` and `ACK_TXN` are.
use Rattle.std.specs.Prelude.{ℕ}
