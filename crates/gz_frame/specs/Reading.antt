-- What makes the line of a message one that is read back.
use Rattle.std.specs.Prelude.{◌≡◌, true, Some}
use Rattle.uuid.specs.Text.{hyphenated_text, lower, parsed}
use Rattle.gz_uuid.specs.Identifier.{identifier, is_identifier, producer_of, clock_of, flags_of}
use Rattle.gz_frame.specs.Messages.{Message, is_message}

-- the message is lawful, and its identifier has the form and reads back from its text
pub record IsReadable (m : Message) : Type 0 where
  pub lawful : is_message m ≡ true
  pub form : is_identifier (identifier m.producer m.clock m.flags) ≡ true
  pub producer : producer_of (identifier m.producer m.clock m.flags) ≡ m.producer
  pub clock : clock_of (identifier m.producer m.clock m.flags) ≡ m.clock
  pub flags : flags_of (identifier m.producer m.clock m.flags) ≡ m.flags
  pub parses : parsed (hyphenated_text lower (identifier m.producer m.clock m.flags)) ≡ Some (identifier m.producer m.clock m.flags)
