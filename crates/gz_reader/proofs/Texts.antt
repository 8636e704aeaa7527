-- A reader of a journal's text, and a sequencer that goes on from a checkpoint.
use Rattle.std.proofs.Common.{◌≡◌, ℕ, ◌-◌, List, [], ◌∷◌, ◌++◌, drop, refl, ap, sym, ◌∙◌}
use Rattle.gz_frame.specs.Messages as frame
use Rattle.gz_frame.specs.Text.{messages_of}
use Rattle.gz_sequencer.specs.Committed as sequencer
use Rattle.gz_sequencer.specs.Machine.{started, fed, at, point_of, resumed}
use Rattle.gz_sequencer.proofs.Resuming.{releases_the_rest}
use Rattle.gz_reader.specs.Reader.{committed}
use Rattle.gz_reader.specs.Coding.{Coding, TellsProducers, coded, all_coded, text_of}
use Rattle.gz_reader.proofs.Coded.{told_is, agrees_nothing}

coded_join : (c : Coding) (xs ys : List frame.Message) → all_coded c (xs ++ ys) ≡ all_coded c xs ++ all_coded c ys
coded_join c [] ys = refl
coded_join c (x ∷ xs) ys = ap (λ v. coded c x ∷ v) (coded_join c xs ys)

pub accepts_released : (c : Coding) → TellsProducers c → (offset : ℕ) (text : List ℕ) →
    committed (text_of c offset text) ≡ all_coded c (sequencer.released_in (sequencer.committed offset text))
accepts_released c apart offset text = told_is c apart (messages_of offset text) [] [] (agrees_nothing c)

pub resumed_accepts : (c : Coding) → TellsProducers c → (offset : ℕ) (text more : List ℕ) →
    committed (text_of c offset text) ++ all_coded c (fed (resumed (point_of (fed (started offset) text))) (drop (at (resumed (point_of (fed (started offset) text))) - offset) (text ++ more))).released
    ≡ committed (text_of c offset (text ++ more))
resumed_accepts c apart offset text more =
    let resuming = resumed (point_of (fed (started offset) text)) in
    let new : List frame.Message = (fed resuming (drop (at resuming - offset) (text ++ more))).released in
    ap (λ v. v ++ all_coded c new) (accepts_released c apart offset text)
    ∙ sym (coded_join c (sequencer.released_in (sequencer.committed offset text)) new)
    ∙ ap (all_coded c) (releases_the_rest offset text more)
    ∙ sym (accepts_released c apart offset (text ++ more))
