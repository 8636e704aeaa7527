use Rattle.std.proofs.Common.{◌∙◌, ap, List, ℕ}
use Rattle.gz_promise.specs.Journals.{place_of}
use Rattle.gz_plain.proofs.Redefining.{end_is}
use Rattle.gz_plain.proofs.redefine.end_of.Goals as goal

pub returns : goal.returns
returns c =
    end_is c.args.journals.now c.args.source.now c.place_of-place.result c.end_at-end.result c.saturating_sub-behind.result
    (c.place_of-place.ensures ∙ ap (λ (name : List ℕ). place_of name c.args.journals.now) c.as_slice.ensures.value) c.end_at-end.ensures.value c.saturating_sub-behind.ensures
