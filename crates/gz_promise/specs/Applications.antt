-- What an application makes of messages, one after another.
use Rattle.std.specs.Prelude.{List}
use Rattle.gz_frame.specs.Messages.{Message}
use Rattle.gz_app.specs.States.{State}
use Rattle.gz_app.specs.Applications.{Output, effect_of, fold_of, outputs_of}
use Rattle.gz_app.specs.declared.app.AppKind.{AppKind}

-- the state after a message, and what it emits
abbrev pub after : AppKind → State → Message → State
after app state m = (effect_of app state m).state

abbrev pub emits : AppKind → State → Message → List Output
emits app state m = outputs_of (effect_of app state m).output

-- the state after one message after another, and what they emit
abbrev pub folded : AppKind → State → List Message → State
folded app state ms = (fold_of (effect_of app) state ms).state

abbrev pub emitted : AppKind → State → List Message → List Output
emitted app state ms = (fold_of (effect_of app) state ms).outputs
