-- The application over numbers is the application.
use Rattle.std.proofs.Common.{◌≡◌, ℕ, ◌<◌, ◌==◌, List, [], ◌∷◌, ◌++◌, map, refl, ap, sym, ◌∙◌, arith, append_assoc, Bool, true, false, cond, nat_lt, ◌&&◌}
use Rattle.std.proofs.lemmas.Grind.{common_steps}
use Rattle.std.proofs.lemmas.List.{map-append}
use Rattle.gz_frame.specs.Messages as frame
use Rattle.gz_app.specs.States.{State}
use Rattle.gz_app.specs.Applications.{Output}
use Rattle.gz_app.specs.declared.app.AppKind.{AppKind}
use Rattle.gz_promise.specs.Applications.{after, emits, folded, emitted}
use Rattle.gz_promise.specs.Outputs.{choice, routed}
use Rattle.gz_reader.specs.Reader.{Message}
use Rattle.gz_once.specs.Applications as once
use Rattle.gz_once.specs.Applications.{fold, values_to, goes}
use Rattle.gz_account.specs.Account.{Numbers, AreReadBack, Wiring, numbered}

pub folded_two : (app : AppKind) (s : State) (xs ys : List frame.Message) → folded app s (xs ++ ys) ≡ folded app (folded app s xs) ys
folded_two app s [] ys = refl
folded_two app s (x ∷ xs) ys = folded_two app (after app s x) xs ys

pub emitted_two : (app : AppKind) (s : State) (xs ys : List frame.Message) → emitted app s (xs ++ ys) ≡ emitted app s xs ++ emitted app (folded app s xs) ys
emitted_two app s [] ys = refl
emitted_two app s (x ∷ xs) ys =
    ap (λ (v : List Output). emits app s x ++ v) (emitted_two app (after app s x) xs ys)
    ∙ sym (append_assoc (emits app s x) (emitted app (after app s x) xs) (emitted app (folded app (after app s x) xs) ys))

module _ (n : Numbers) (back : AreReadBack n) (app : AppKind) (w : Wiring) where
  abbrev g : once.App
  g = numbered n app w

  pub fold_is : (s : State) (ms : List Message) → fold g (n.state s) ms ≡ n.state (folded app s (map n.message_of ms))
  fold_is s [] = refl
  fold_is s (m ∷ ms) =
      ap (λ (v : State). fold g (n.state (after app v (n.message_of m))) ms) (back.state s)
      ∙ fold_is (after app s (n.message_of m)) ms

  pub emits_is : (s : State) (ms : List Message) → once.emits g (n.state s) ms ≡ map n.output (emitted app s (map n.message_of ms))
  emits_is s [] = refl
  emits_is s (m ∷ ms) =
      ap (λ (v : State). map n.output (emits app v (n.message_of m)) ++ once.emits g (n.state (after app v (n.message_of m))) ms) (back.state s)
      ∙ ap (λ (v : List ℕ). map n.output (emits app s (n.message_of m)) ++ v) (emits_is (after app s (n.message_of m)) ms)
      ∙ sym (map-append n.output (emits app s (n.message_of m)) (emitted app (after app s (n.message_of m)) (map n.message_of ms)))

  -- what goes to an output is what its key chooses
  pub routed_is : (j : ℕ) → j < w.outputs → (os : List Output) → map n.output_of (values_to g j (map n.output os)) ≡ routed w.outputs j os
  routed_is j l [] = refl
  routed_is j l (o ∷ os) =
      let within : nat_lt j w.outputs ≡ true = grind (arith, common_steps) in
      let test : goes g j (n.output o) ≡ (choice w.outputs o.key == j) = rw within (and_true (choice w.outputs (n.output_of (n.output o)).key == j)) ∙ ap (λ (v : Output). choice w.outputs v.key == j) (back.output o) in
      ap (λ (b : Bool). map n.output_of (cond b (n.output o ∷ values_to g j (map n.output os)) (values_to g j (map n.output os)))) test
      ∙ by_test (choice w.outputs o.key == j) (routed_is j l os)
    where
      and_true : (b : Bool) → (b && true) ≡ b
      and_true true = refl
      and_true false = refl

      by_test : (b : Bool) → map n.output_of (values_to g j (map n.output os)) ≡ routed w.outputs j os →
          map n.output_of (cond b (n.output o ∷ values_to g j (map n.output os)) (values_to g j (map n.output os))) ≡ cond b (o ∷ routed w.outputs j os) (routed w.outputs j os)
      by_test true ih = ap (λ (v : Output). v ∷ map n.output_of (values_to g j (map n.output os))) (back.output o) ∙ ap (λ (v : List Output). o ∷ v) ih
      by_test false ih = ih
