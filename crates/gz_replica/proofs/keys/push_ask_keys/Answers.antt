use Rattle.std.proofs.Common.{ℕ, List, [], ◌∷◌, ◌++◌, ◌∙◌, ap₂}
use Rattle.gz_wire.specs.declared.msg.Msg.{Msg}
use Rattle.gz_replica.specs.Member.{send}
use Rattle.gz_replica.proofs.keys.push_ask_keys.Goals as goal

pub returns : goal.returns
returns c = c.in_ok-push_one.ensures ∙ ap₂ (λ (to : List ℕ) (msg : Msg). c.args.sends.now ++ send to msg ∷ []) c.in_ok-to.ensures c.in_ok-msg.ensures
