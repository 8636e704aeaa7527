use Rattle.std.proofs.Common.{map, length, nat_le, sym, ap, ◌∙◌, arith}
use Rattle.std.specs.Prelude.{slice_index}
use Rattle.std.proofs.lemmas.Bool.{lt-leb}
use Rattle.gz_alloc.proofs.NameLemmas.{all_to_fails}
use Rattle.gz_alloc.proofs.problem.limits_fit.Goals as goal

pub returns-then-limit-gt-MAX_LIMIT : goal.returns-then-limit-gt-MAX_LIMIT
returns-then-limit-gt-MAX_LIMIT c =
    sym (all_to_fails (length c.args.members.now) (λ m. nat_le (slice_index (map (λ m. m.limit) c.args.members.now) m) 1024) c.loop-m.m (omega arith)
    (ap (λ n. nat_le n 1024) (sym c.limit_at-limit.ensures) ∙ lt-leb c.limit_at-limit.result 1024 (omega arith)))
