-- What a commit consumes of a source is what a sequencer releases.
use Rattle.std.specs.Prelude.{◌≡◌, ◌≤◌, ◌-◌, ℕ, List, ◌++◌, drop}
use Rattle.gz_sequencer.specs.Machine.{started, fed, at, point_of, resumed}
use Rattle.gz_reader.specs.Reader.{Message}
use Rattle.gz_reader.specs.Coding.{Coding, TellsProducers, all_coded, text_of}
use Rattle.gz_once.specs.Applications.{App, upto, part}

-- A sequencer that is made from the checkpoint of a source's text up to the one offset, and is fed this text and what
-- follows up to the other offset, releases the part between them.
abbrev pub IsSequenced : Type 0
IsSequenced = (c : Coding) → TellsProducers c → (g : App) (k from to offset : ℕ) (t : List Message) (text more : List ℕ) →
    upto g k from t ≡ text_of c offset text → upto g k to t ≡ text_of c offset (text ++ more) →
    let resuming = resumed (point_of (fed (started offset) text)) in
    part g k t from to ≡ all_coded c (fed resuming (drop (at resuming - offset) (text ++ more))).released

-- A sequencer that runs on over several commits releases one part after another.
abbrev pub PartsJoin : Type 0
PartsJoin = (g : App) (k : ℕ) (t : List Message) (from mid to : ℕ) → from ≤ mid → mid ≤ to →
    part g k t from mid ++ part g k t mid to ≡ part g k t from to
