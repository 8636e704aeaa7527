use Rattle.gz_links.proofs.Climbs.{none_found}
use Rattle.gz_links.proofs.Reaching.{is_cycle, is_told}
use Rattle.gz_links.proofs.cycles.first_cycle.Goals as goal

pub returns-clause-value : goal.returns-clause-value
returns-clause-value c = is_cycle c.args.shards.now c.in_ok-rows.rows c.first_own-found.result c.in_ok-rows.ensures c.first_own-found.ensures

pub returns-clause-told : goal.returns-clause-told
returns-clause-told c = is_told c.args.shards.now c.in_ok-rows.rows c.first_own-found.result c.in_ok-rows.ensures c.first_own-found.ensures

pub returns-then-ordered-clause-value : goal.returns-then-ordered-clause-value
returns-then-ordered-clause-value c = none_found c.args.shards.now (c.in_ok-ordered.ensures c.if-ordered.true)
