-- Events as JSON, with the members in the order of their names, and the lines that are read back as them.
use Rattle.std.specs.Prelude.{◌≡◌, ◌≤◌, ℕ, List, length, map, Ok, codes}
use Rattle.serde_json.specs.Data.{Data, unsigned, number, string, array, object, no_members, member}
use Rattle.serde_json.specs.View.{items_of}
use Rattle.gz_print.specs.Printed.{list_data, journal_data, shard_data, member_data, specs_data_as}
use Rattle.gz_spec.specs.Records.{Specs}
use Rattle.gz_scenario.specs.Events.{max_lines, max_line, event_of}
use Rattle.gz_scenario.specs.declared.event.Flag.{Flag}
use Rattle.gz_scenario.specs.declared.event.Flag.TheVariants.{Outside, Continue, Ack}
use Rattle.gz_scenario.specs.declared.event.Draft.{Draft}
use Rattle.gz_scenario.specs.declared.event.Publish.{Publish}
use Rattle.gz_scenario.specs.declared.event.MemberKind.{MemberKind}
use Rattle.gz_scenario.specs.declared.event.MemberKind.TheVariants.{Broker, Consumer}
use Rattle.gz_scenario.specs.declared.event.Join.{Join}
use Rattle.gz_scenario.specs.declared.event.Event.{Event}
use Rattle.gz_scenario.specs.declared.event.Event.TheVariants as event

abbrev pub flag_text : Flag → List ℕ
flag_text Outside = codes "outside"
flag_text Continue = codes "continue"
flag_text Ack = codes "ack"

unfoldable pub draft_data : Draft → Data
draft_data m =
    object (member (codes "clock") (number (unsigned m.clock))
    (member (codes "flag") (string (flag_text m.flag))
    (member (codes "key") (string m.key)
    (member (codes "value") (string m.value) no_members))))

unfoldable pub publish_data : Publish → Data
publish_data p =
    object (member (codes "client") (string p.client)
    (member (codes "do") (string (codes "publish"))
    (member (codes "journal") (string p.journal)
    (member (codes "messages") (array (items_of (map draft_data p.messages)))
    (member (codes "producer") (number (unsigned p.producer)) no_members)))))

unfoldable pub settle_data : Data
settle_data = object (member (codes "do") (string (codes "settle")) no_members)

unfoldable pub converge_data : Data
converge_data = object (member (codes "do") (string (codes "converge")) no_members)

unfoldable pub apply_data : Specs → Data
apply_data part =
    object (member (codes "do") (string (codes "apply"))
    (member (codes "journals") (list_data (map journal_data part.journals))
    (member (codes "shards") (list_data (map shard_data part.shards)) no_members)))

abbrev pub kind_text : MemberKind → List ℕ
kind_text Broker = codes "broker"
kind_text Consumer = codes "consumer"

unfoldable pub join_data : Join → Data
join_data j = object (member (kind_text j.kind) (member_data j.member) (member (codes "do") (string (codes "join")) no_members))

unfoldable pub expire_data : List ℕ → Data
expire_data id = object (member (codes "do") (string (codes "expire")) (member (codes "member") (string id) no_members))

abbrev pub event_data : Event → Data
event_data (event.Specs specs) = specs_data_as (codes "specs") specs
event_data (event.Publish p) = publish_data p
event_data event.Settle = settle_data
event_data event.Converge = converge_data
event_data (event.Apply part) = apply_data part
event_data (event.Join j) = join_data j
event_data (event.Expire id) = expire_data id

-- Specifications stand on the first line, and any other event on each later one.
abbrev pub MayStandOn : ℕ → Event → Type 0
MayStandOn n (event.Specs specs) = n ≡ 1
MayStandOn n (event.Publish p) = 2 ≤ n
MayStandOn n event.Settle = 2 ≤ n
MayStandOn n event.Converge = 2 ≤ n
MayStandOn n (event.Apply part) = 2 ≤ n
MayStandOn n (event.Join j) = 2 ≤ n
MayStandOn n (event.Expire id) = 2 ≤ n

-- The line says the event, wherever the event may stand. A line past the last and one that is too long say nothing.
abbrev pub IsLine : Event → List ℕ → Type 0
IsLine e line = (n : ℕ) → MayStandOn n e → n ≤ max_lines → length line ≤ max_line → event_of n line ≡ Ok e
