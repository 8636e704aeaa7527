use Rattle.std.proofs.Common.{◌≡◌, ◌+◌, ◌++◌, List, ℕ, length, ap, sym, ◌∙◌, arith}
use Rattle.gz_sequencer.specs.Machine.{Machine, at}
use Rattle.gz_sequencer.proofs.Feeding.{whole_prefix, fed_split, at_split, smaller, fed_open}
use Rattle.gz_sequencer.proofs.sequencer.Sequencer.feed.Goals as goal

pub take_line-requires-clause-whole : goal.take_line-requires-clause-whole
take_line-requires-clause-whole c = whole_prefix c.lines.rest.now c.split_at.result.0.now c.in-Some.len c.in-Some.ensures.value c.in-Some.ensures.within c.split_at.ensures.front

pub take_line-requires-clause-small : goal.take_line-requires-clause-small
take_line-requires-clause-small c = omega (arith, c.split_at.ensures.front_len, c.in-Some.ensures.within, c.lines.invariant.small)

pub lines-smaller : goal.lines-smaller
lines-smaller c = smaller c.lines.rest.now c.split_at.result.1.now c.in-Some.len c.in-Some.ensures.value c.in-Some.ensures.within c.split_at.ensures.back

pub lines-preserved : goal.lines-preserved
lines-preserved c =
    let moved : at c.take_line.new.self + length c.split_at.result.1.now ≡ at c.lines.self + length c.lines.rest.now =
    at_split c.lines.rest.now c.split_at.result.0.now c.split_at.result.1.now c.in-Some.len c.lines.self c.take_line.new.self c.split_at.ensures.front c.split_at.ensures.back c.in_ok-take_line.ensures in
    record {
      same = fed_split c.lines.rest.now c.split_at.result.0.now c.split_at.result.1.now c.in-Some.len c.lines.self c.take_line.new.self c.split_at.ensures.front c.split_at.ensures.back c.in_ok-take_line.ensures ∙ c.lines.invariant.same;
      small = omega (arith, moved, c.lines.invariant.small);
    }

pub returns : goal.returns
returns c =
    ap (λ (line : List ℕ). record { until = c.self.inside.until; begin = c.self.inside.begin; line = line; parts = c.self.inside.parts; released = c.self.inside.released.items }) c.in_ok-append.ensures.ok
    ∙ ap (λ (s : Machine). record s { line = s.line ++ c.lines.rest.now }) c.self.view_is
    ∙ sym (fed_open c.lines.rest.now c.lines.self (sym c.in_default.ensures.value))
    ∙ c.lines.invariant.same
