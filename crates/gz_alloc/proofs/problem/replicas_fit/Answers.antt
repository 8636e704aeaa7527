use Rattle.std.proofs.Common.{◌≡◌, ◌&&◌, false, map, length, nat_le, nat_lt, sym, ap, ◌∙◌, arith}
use Rattle.std.specs.Prelude.{slice_index}
use Rattle.std.proofs.lemmas.Bool.{lt-leb, le-ltb, and_left, and_right}
use Rattle.gz_alloc.proofs.NameLemmas.{all_to_fails}
use Rattle.gz_alloc.proofs.problem.replicas_fit.Goals as goal
use Rattle.gz_alloc.proofs.problem.replicas_fit.Goals.{then-replicas-eq0-via-then-replicas-eq0, then-replicas-eq0-via-else-replicas-eq0+then-replicas-gt-MAX_REPLICAS}

pub returns-then-replicas-eq0 : goal.returns-then-replicas-eq0
returns-then-replicas-eq0 c =
    let n = c.replicas_at-replicas.result in
    let fails : (nat_lt 0 n && nat_le n 5) ≡ false = elim c.then-replicas-eq0.branch [
      | then-replicas-eq0-via-then-replicas-eq0 w ↦ and_left (nat_lt 0 n) (nat_le n 5) (le-ltb 0 n (omega arith))
      | then-replicas-eq0-via-else-replicas-eq0+then-replicas-gt-MAX_REPLICAS w ↦ and_right (nat_lt 0 n) (nat_le n 5) (lt-leb n 5 (omega arith))
    ] in
    sym (all_to_fails (length c.args.items.now) (λ i. nat_lt 0 (slice_index (map (λ i. i.replicas) c.args.items.now) i) && nat_le (slice_index (map (λ i. i.replicas) c.args.items.now) i) 5) c.loop-i.i (omega arith)
    (ap (λ n. nat_lt 0 n && nat_le n 5) (sym c.replicas_at-replicas.ensures) ∙ fails))
