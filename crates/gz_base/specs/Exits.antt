-- The status that an answer has.
use Rattle.std.specs.Prelude.{ℕ}
use Rattle.gz_base.specs.declared.exit.Exit.{Exit}
use Rattle.gz_base.specs.declared.exit.Exit.TheVariants.{Done, Usage, BadInput, ReadFault, WriteFault, FileFault, PeerFault, Refused, Lost, NoMemory, Mismatch, HistoryFull, SpawnFault, BadPeer}

abbrev pub status_of : Exit → ℕ
status_of Done = 0
status_of Usage = 2
status_of BadInput = 3
status_of ReadFault = 4
status_of WriteFault = 5
status_of FileFault = 6
status_of PeerFault = 7
status_of Refused = 8
status_of Lost = 9
status_of NoMemory = 10
status_of Mismatch = 11
status_of HistoryFull = 12
status_of SpawnFault = 13
status_of BadPeer = 14
