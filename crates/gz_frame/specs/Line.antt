-- The line that a message is.
use Rattle.std.specs.Prelude.{ℕ, List, [], ◌∷◌, ◌++◌, codes}
use Rattle.serde_json.specs.Data.{Data, string, object, no_members, member}
use Rattle.serde_json.specs.Written.{compact_text}
use Rattle.uuid.specs.Text.{hyphenated_text, lower}
use Rattle.gz_model.specs.Lines.{newline}
use Rattle.gz_uuid.specs.Identifier.{identifier}
use Rattle.gz_frame.specs.Messages.{Message}

-- the object of a message: its key, its identifier and its value
abbrev pub data_of : Message → Data
data_of m =
    object (member (codes "key") (string m.key)
    (member (codes "uuid") (string (hyphenated_text lower (identifier m.producer m.clock m.flags)))
    (member (codes "value") (string m.value) no_members)))

-- the compact JSON of the object, and a newline
unfoldable pub line_of : Message → List ℕ
line_of m = compact_text (data_of m) ++ newline ∷ []
