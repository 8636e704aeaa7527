use Rattle.std.proofs.Common.{◌∙◌, ap}
use Rattle.gz_keyspace.specs.Formats.{joined_of}
use Rattle.gz_keyspace.proofs.PrintLemmas.{member_reads}
use Rattle.gz_keyspace.proofs.formats.print_joined.Goals as goal

pub returns-clause-reads_back : goal.returns-clause-reads_back
returns-clause-reads_back c =
    ap (joined_of c.args.joined.now.spec.id) c.in_ok-text.ensures.text
    ∙ member_reads c.args.joined.now c.in_ok-text.ensures.valid
