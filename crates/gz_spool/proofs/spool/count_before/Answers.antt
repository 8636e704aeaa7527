use Rattle.std.proofs.Common.{rules, arith, ◌≡◌, ◌+◌, ◌∙◌, inl, inr, length, take, drop, ap, sym}
use Rattle.gz_spool.specs.Spools.{registers_behind, rest_from}
use Rattle.gz_spool.proofs.Ends.{end_step, rest_step, rest_found, rest_lost}
use Rattle.gz_spool.proofs.spool.count_before.Goals as goal
use Rattle.gz_spool.proofs.spool.count_before.Goals.{then-entries-test+else-count-len, else-entries-test}

pub entries-preserved : goal.entries-preserved
entries-preserved c =
    let len : c.len-in-entries.result ≡ length c.index.result.now.bytes = search rules in
    record {
      within = omega arith;
      sum = let step = end_step c.args.entries.now.items c.entries.count c.index.result.now (omega arith) c.index.ensures in omega (arith, step, len);
      rest = λ base.
          c.entries.invariant.rest base
          ∙ rest_step c.args.offset c.entries.at base c.args.entries.now.items c.entries.count c.index.result.now (omega arith) c.index.ensures c.entries-test.true
          ∙ ap (λ n. rest_from c.args.offset (c.entries.at + n) (registers_behind base (take (c.entries.count + 1) c.args.entries.now.items)) (drop (c.entries.count + 1) c.args.entries.now.items)) (sym len);
    }

pub returns-then-at-offset-clause-value : goal.returns-then-at-offset-clause-value
returns-then-at-offset-clause-value c = λ base.
    c.entries.invariant.rest base ∙ rest_found c.args.offset c.entries.at base c.args.entries.now.items c.entries.count c.if-at-offset.true

pub returns-clause-value : goal.returns-clause-value
returns-clause-value c =
    elim c.entries-test.branch [
      | then-entries-test+else-count-len w ↦ λ base.
          c.entries.invariant.rest base ∙ rest_lost c.args.offset c.entries.at _ c.args.entries.now.items c.entries.count c.if-at-offset.false (inl (omega arith))
      | else-entries-test w ↦ λ base.
          c.entries.invariant.rest base ∙ rest_lost c.args.offset c.entries.at _ c.args.entries.now.items c.entries.count c.if-at-offset.false (inr (omega arith))
    ]
