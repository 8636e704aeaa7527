use Rattle.std.proofs.Common.{◌≡◌, ◌≤◌, Some, subst}
use Rattle.serde_json.specs.Data.{depth}
use Rattle.serde_json.specs.Read.{max_depth}
use Rattle.gz_json.specs.Json.{json_of}
use Rattle.gz_scenario.proofs.Again.{expire_line}
use Rattle.gz_scenario.proofs.print.print_expire.Goals as goal

pub returns-clause-reads_back : goal.returns-clause-reads_back
returns-clause-reads_back c = λ lawful.
    let reads = subst (λ d. depth d ≤ max_depth → json_of c.in_ok-line.line ≡ Some d) c.in_ok-value.ensures c.in_ok-line.ensures.reads_back in
    expire_line c.args.id.now c.in_ok-line.line lawful reads
