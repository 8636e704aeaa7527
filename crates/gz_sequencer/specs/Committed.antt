-- What a text's messages release.
use Rattle.std.specs.Prelude.{ℕ, List, [], ◌∷◌, ◌++◌, map}
use Rattle.gz_frame.specs.Messages.{Message}
use Rattle.gz_frame.specs.Release.{Release, released, of_producer}
use Rattle.gz_frame.specs.Text.{Placed, messages_of}

-- the messages without their places
abbrev pub messages_alone : List Placed → List Message
messages_alone ps = map (λ p. p.message) ps

-- the released messages without the ends of the lines that released them
abbrev pub released_in : List Release → List Message
released_in rs = map (λ r. r.message) rs

-- what messages release in order, behind a history; each with the end of the line that released it
abbrev pub committed_after : List Message → List Placed → List Release
committed_after history [] = []
committed_after history (p ∷ ps) =
    map (λ m. record { message = m; end = p.end }) (released (of_producer p.message.producer history) p.message)
    ++ committed_after (history ++ p.message ∷ []) ps

-- the committed messages of a text that begins at an offset
abbrev pub committed : ℕ → List ℕ → List Release
committed offset text = committed_after [] (messages_of offset text)
