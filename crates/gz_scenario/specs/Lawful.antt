-- What reading accepts of an event.
use Rattle.std.specs.Prelude.{ℕ, ◌&&◌, ◌==◌, List, length, nat_le, Bool, true, is_ok}
use Rattle.std.specs.List.{list_all}
use Rattle.std.specs.Str.{is_utf8}
use Rattle.gz_fields.specs.Names.{is_id, is_journal_name}
use Rattle.gz_links.specs.Whole.{whole}
use Rattle.gz_spec.specs.Valid.{is_lone_member, are_specs}
use Rattle.gz_spec.specs.Records.{MemberSpec, Specs}
use Rattle.gz_frame.specs.Messages.{max_key, max_value}
use Rattle.gz_scenario.specs.Events.{max_clock, max_producer}
use Rattle.gz_scenario.specs.declared.event.Draft.{Draft}
use Rattle.gz_scenario.specs.declared.event.Publish.{Publish}
use Rattle.gz_scenario.specs.declared.event.Event.{Event}
use Rattle.gz_scenario.specs.declared.event.Event.TheVariants as event

-- a text of at most so many bytes
abbrev pub is_short_text : ℕ → List ℕ → Bool
is_short_text most text = is_utf8 text && nat_le (length text) most

-- a clock in its range, a short key and a short value
abbrev pub is_draft : Draft → Bool
is_draft m = nat_le m.clock max_clock && is_short_text max_key m.key && is_short_text max_value m.value

-- a client's id, a journal's name, at least one message, and a producer in its range
unfoldable pub is_publish : Publish → Bool
is_publish p =
    is_id p.client && is_journal_name p.journal && nat_le 1 (length p.messages) && list_all is_draft p.messages
    && nat_le p.producer max_producer

-- specifications with nothing to refuse, neither in each of them nor in all as a whole
unfoldable pub is_start : Specs → Bool
is_start specs = are_specs specs && is_ok (whole specs)

-- journals and shards with nothing to refuse in each of them, and no members
unfoldable pub is_apply : Specs → Bool
is_apply part = are_specs part && length part.brokers == 0 && length part.consumers == 0

-- a member of an id, a zone and a limit of their form; the id may be a reserved one
unfoldable pub is_joiner : MemberSpec → Bool
is_joiner m = is_lone_member m

abbrev pub is_event : Event → Bool
is_event (event.Specs specs) = is_start specs
is_event (event.Publish p) = is_publish p
is_event event.Settle = true
is_event event.Converge = true
is_event (event.Apply part) = is_apply part
is_event (event.Join j) = is_joiner j.member
is_event (event.Expire id) = is_id id
