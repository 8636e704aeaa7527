-- There is a text for each writer.
use Rattle.std.proofs.Common.{ℕ, List, length, ap, ◌∙◌}
use Rattle.gz_plain.proofs.Places.{length_texts}
use Rattle.gz_plain.proofs.writer.write_commit.Goals as goal

pub append_texts-requires : goal.append_texts-requires
append_texts-requires c =
    ap (λ (texts : List (List ℕ)). length texts) c.in_ok-texts.ensures.texts ∙ length_texts _ _ _ _ _
