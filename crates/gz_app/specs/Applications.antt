-- What the applications make of messages.
use Rattle.std.specs.Prelude.{ℕ, ◌+◌, ◌-◌, ◌^◌, min, List, [], ◌∷◌, ◌++◌, Option, Some, None, if◌then◌else◌, codes}
use Rattle.std.specs.Fmt.{decimal}
use Rattle.std.specs.Str.{bytes_eq}
use Rattle.gz_frame.specs.Messages.{Message}
use Rattle.gz_app.specs.States.{State, keep, number_at}
use Rattle.gz_app.specs.declared.state.Kept.TheVariants.{Number, Text}
use Rattle.gz_app.specs.declared.app.AppKind.{AppKind}
use Rattle.gz_app.specs.declared.app.AppKind.TheVariants.{Count, Relay, Latest}

-- what an application emits
pub record Output : Type 0 where
  pub key : List ℕ
  pub value : List ℕ

-- what a message makes of a state: the state after it, and what it emits
pub record Effect : Type 0 where
  pub state : State
  pub output : Option Output

-- one more, up to the greatest number of 64 bits
abbrev pub raised : ℕ → ℕ
raised n = min (n + 1) (2 ^ 64 - 1)

-- `count` raises the key's number, and emits the key with that number in decimal
abbrev pub count_effect : State → Message → Effect
count_effect state m = record {
  state = keep m.key (Number (raised (number_at m.key state))) state;
  output = Some (record { key = m.key; value = decimal (raised (number_at m.key state)) });
}

-- `relay` keeps nothing, and emits the key and the value
abbrev pub relay_effect : State → Message → Effect
relay_effect state m = record { state = state; output = Some (record { key = m.key; value = m.value }) }

-- `latest` keeps the key's last value, and emits nothing
abbrev pub latest_effect : State → Message → Effect
latest_effect state m = record { state = keep m.key (Text m.value) state; output = None }

abbrev pub effect_of : AppKind → State → Message → Effect
effect_of Count = count_effect
effect_of Relay = relay_effect
effect_of Latest = latest_effect

-- the application of a name
abbrev pub app_named : List ℕ → Option AppKind
app_named name =
    if bytes_eq name (codes "count") then Some Count
    else (if bytes_eq name (codes "relay") then Some Relay
    else (if bytes_eq name (codes "latest") then Some Latest
    else None))

-- the state and the outputs of messages, one after another
pub record Fold : Type 0 where
  pub state : State
  pub outputs : List Output

abbrev pub outputs_of : Option Output → List Output
outputs_of None = []
outputs_of (Some output) = output ∷ []

-- an application's fold over messages, from a state on
abbrev pub fold_of : (State → Message → Effect) → State → List Message → Fold
fold_of effect state [] = record { state = state; outputs = [] }
fold_of effect state (m ∷ ms) = record {
  state = (fold_of effect (effect state m).state ms).state;
  outputs = outputs_of (effect state m).output ++ (fold_of effect (effect state m).state ms).outputs;
}
