-- Folds over joined messages.
use Rattle.std.proofs.Common.{◌≡◌, List, [], ◌∷◌, ◌++◌, refl, sym, ◌∙◌, ap, append_assoc}
use Rattle.gz_frame.specs.Messages.{Message}
use Rattle.gz_app.specs.States.{State}
use Rattle.gz_app.specs.Applications.{Effect, fold_of, outputs_of}

pub state_joined : (effect : State → Message → Effect) (state : State) (first more : List Message) →
    (fold_of effect state (first ++ more)).state ≡ (fold_of effect (fold_of effect state first).state more).state
state_joined effect state [] more = refl
state_joined effect state (m ∷ ms) more = state_joined effect (effect state m).state ms more

pub outputs_joined : (effect : State → Message → Effect) (state : State) (first more : List Message) →
    (fold_of effect state (first ++ more)).outputs
    ≡ (fold_of effect state first).outputs ++ (fold_of effect (fold_of effect state first).state more).outputs
outputs_joined effect state [] more = refl
outputs_joined effect state (m ∷ ms) more =
    ap (λ outs. outputs_of (effect state m).output ++ outs) (outputs_joined effect (effect state m).state ms more)
    ∙ sym (append_assoc (outputs_of (effect state m).output) (fold_of effect (effect state m).state ms).outputs _)
