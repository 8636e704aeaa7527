use Rattle.std.proofs.Common.{◌≡◌, ◌+◌, ◌-◌, ◌≤◌, List, length, take, drop}
use Rattle.gz_label.specs.declared.label.Label.{Label}
use Rattle.gz_journal.specs.JournalList.{end_of}
use Rattle.gz_spool.specs.Spools.{registers_behind, rest_from}
use Rattle.gz_spool.proofs.spool.count_before.Given as goal

abbrev pub invariant-entries : goal.invariant-entries
invariant-entries l = record {
  within : l.count ≤ length l.entries.items;
  sum : l.at + end_of (drop l.count l.entries.items) ≡ l.begin + end_of l.entries.items;
  rest : (base : List Label) → rest_from l.offset l.begin base l.entries.items ≡ rest_from l.offset l.at (registers_behind base (take l.count l.entries.items)) (drop l.count l.entries.items);
}

abbrev pub decreases-entries : goal.decreases-entries
decreases-entries l = length l.entries.items - l.count
