use Rattle.std.proofs.Common.{sym, subst, ◌∙◌}
use Rattle.gz_alloc.specs.Flow.{Keeps, IsTable, cells_of}
use Rattle.gz_alloc.proofs.choice.place.Goals as goal

pub finish-requires-clause-keeps : goal.finish-requires-clause-keeps
finish-requires-clause-keeps c =
    subst (λ f. Keeps c.in_ok-network.network (cells_of f)) (sym (c.as_mut_slice.ensures.value ∙ c.in_ok-flags.ensures.items ∙ c.as_slice.ensures.value)) c.in_ok-first.ensures.keeps

pub finish-requires-clause-table : goal.finish-requires-clause-table
finish-requires-clause-table c =
    subst (λ f. IsTable c.in_ok-network.network f) (sym (c.as_mut_slice.ensures.value ∙ c.in_ok-flags.ensures.items ∙ c.as_slice.ensures.value)) c.in_ok-first.ensures.table
