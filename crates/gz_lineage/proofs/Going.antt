-- For the crate that carries a full cluster to this model: a rule by which no primary opens, and one that raises no
-- primary's head, leaves each open primary at no greater epoch and with a head in the same list.
use Rattle.gz_lineage.specs.Marks.{Mark}
use Rattle.std.proofs.Common.{◌≡◌, ℕ, ◌+◌, ◌<◌, ◌≤◌, min, max, List, [], ◌∷◌, ◌++◌, length, take, ap, sym, ◌∙◌, arith, true, false, subst, inl, inr, Option, Some, None}
use Rattle.std.specs.Prelude.{nat_lt, ◌==◌, ◌&&◌}
use Rattle.std.proofs.lemmas.Bool.{cond_both, cases_lt, eqb-true}
use Rattle.gz_lineage.specs.Prefix.{IsPrefix}
use Rattle.gz_lineage.specs.Lists.{fill, full, slots_for}
use Rattle.gz_lineage.specs.Nodes.{Route, Image, Report, Part, Node, Outcome, Closed, Opening, Adopting, Syncing, Open}
use Rattle.gz_lineage.specs.Rules
use Rattle.gz_lineage.specs.World.{World as Worlds, node_at, grown, risen}
use Rattle.gz_lineage.specs.World
use Rattle.gz_lineage.specs.Nodes.{Letter}
use Rattle.gz_lineage.proofs.Prefixes.{pre_trans, pre_take_of, pre_shorter, pre_len, pre_push}
use Rattle.gz_lineage.proofs.Facts.{LetterOk}
use Rattle.gz_lineage.proofs.Invariant.{Inv, risen_is, part_low}
use Rattle.gz_lineage.proofs.NodeSteps.{step_kept, step_journal, step_top}
use Rattle.std.specs.Prelude.{slice_index_or}
