-- The two forms of an item.
use Rattle.std.specs.Prelude.{ℕ, List, Bool}
use Rattle.gz_label.specs.declared.items.Form.{Form}
use Rattle.gz_label.specs.declared.items.Form.TheVariants.{Label, Term}
use Rattle.gz_label.specs.Labels.{is_label_item}
use Rattle.gz_label.specs.Selectors.{is_term}

-- the item says a label, or a term
abbrev pub fits : Form → List ℕ → Bool
fits Label item = is_label_item item
fits Term item = is_term item
