use Rattle.std.proofs.Common.{◌≡◌, ◌++◌, drop, true}
use Rattle.std.specs.List.{list_all}
use Rattle.gz_scenario.specs.Lawful.{is_draft}
use Rattle.gz_client.specs.Contents.{content_at}
use Rattle.gz_client.proofs.content.print_drafts.Given as goal

abbrev pub invariant-loop-draft : goal.invariant-loop-draft
invariant-loop-draft l = record {
  written : l.content ++ content_at l.producer (drop l.draft-index l.drafts) ≡ content_at l.producer l.drafts;
  lawful : list_all is_draft (drop l.draft-index l.drafts) ≡ true;
}
