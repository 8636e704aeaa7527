use Rattle.std.proofs.Common.{length, arith, sym, ap}
use Rattle.gz_base.proofs.ToldLemmas.{takes_whole, long_line}
use Rattle.gz_base.proofs.ReadLemmas.{keeps_more, searched_more, length_more, last_line}
use Rattle.gz_base.proofs.lines.LineReader.next_line.Goals as goal

pub returns-in-Some-clause-line : goal.returns-in-Some-clause-line
returns-in-Some-clause-line g c =
    let found = rw c.unread-bytes.ensures at c.in-Some.ensures.value in
    let e = c.in_ok-take_prefix-in-Some.ensures.ok in
    takes_whole _ _ c.reads.self _ _ c.in-Some.n c.reads.invariant.same (sym found) e.0 e.1

pub returns-then-have-limit-clause-too_long : goal.returns-then-have-limit-clause-too_long
returns-then-have-limit-clause-too_long g c =
    let missing = rw c.unread-bytes.ensures at c.in-None.ensures.value in
    λ _. (long_line _ _ _ c.reads.self c.reads.invariant.same (sym missing) (rw c.unread-bytes.ensures at c.if-have-limit.true), c.reads.invariant.same)

pub returns-then-n-eq0-clause-line : goal.returns-then-n-eq0-clause-line
returns-then-n-eq0-clause-line g c =
    let missing = rw c.unread-bytes.ensures at c.in-None.ensures.value in
    let e = c.in_ok-take_prefix.ensures.ok in
    last_line _ _ _ _ _ c.reads.self _ _ _ c.reads.invariant.same c.in_ok-n.ensures.more c.if-n-eq0.true (c.in_ok-n.ensures.end c.if-n-eq0.true) (sym missing) (sym (ap length c.unread-bytes.ensures)) c.if-have-eq0.false e.0 e.1

pub reads-preserved : goal.reads-preserved
reads-preserved g c =
    let missing = rw c.unread-bytes.ensures at c.in-None.ensures.value in
    let more = c.in_ok-n.ensures.more in
    record {
      same = keeps_more _ _ _ _ c.reads.self _ c.reads.invariant.same more;
      within = omega (arith, length_more _ _ _ _ _ more, ap length c.unread-bytes.ensures);
      limited = omega (arith, c.if-have-limit.false);
      one_block = omega (arith, length_more _ _ _ _ _ more, ap length c.unread-bytes.ensures, c.in_ok-n.ensures.one_block);
      searched = searched_more _ _ _ _ c.reads.self _ (sym missing) (sym (ap length c.unread-bytes.ensures)) more;
      faults_stay = omega (arith, c.read_block.ensures.faults_stay);
    }
