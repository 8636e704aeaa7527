-- The events that the lines of a scenario say.
use Rattle.std.specs.Prelude.{ℕ, ◌+◌, ◌==◌, ◌&&◌, List, [], ◌∷◌, length, Option, Some, None, option_and_then, Result, Ok, Err, if◌then◌else◌, codes, nat_le}
use Rattle.std.specs.Str.{bytes_eq}
use Rattle.serde_json.specs.Data.{Data, Items, no_items, item}
use Rattle.serde_json.specs.Find.{get, as_str}
use Rattle.gz_model.specs.Steps.{◌>>=◌}
use Rattle.gz_json.specs.Json.{json_of}
use Rattle.gz_fields.specs.Names.{is_id, is_journal_name}
use Rattle.gz_fields.specs.Paths.{below, at_place}
use Rattle.gz_fields.specs.Form.{found, has_only, text_at, name_at, number_at, number_or, items_at}
use Rattle.gz_spec.specs.Members.{member_at}
use Rattle.gz_spec.specs.Specs.{journals_in, shards_in}
use Rattle.gz_links.specs.Whole.{specs_of}
use Rattle.gz_spec.specs.Records.{Specs}
use Rattle.gz_fields.specs.declared.error.FieldError.{FieldError}
use Rattle.gz_fields.specs.declared.error.FieldError.TheVariants as field
use Rattle.gz_frame.specs.Messages.{max_key, max_value}
use Rattle.gz_scenario.specs.Refusals.{on_line, specs_on_line}
use Rattle.gz_scenario.specs.declared.error.ScenarioError.{ScenarioError}
use Rattle.gz_scenario.specs.declared.error.ScenarioError.TheVariants as error
use Rattle.gz_scenario.specs.declared.event.Flag.{Flag}
use Rattle.gz_scenario.specs.declared.event.Flag.TheVariants.{Outside, Continue, Ack}
use Rattle.gz_scenario.specs.declared.event.Draft.{Draft}
use Rattle.gz_scenario.specs.declared.event.Publish.{Publish}
use Rattle.gz_scenario.specs.declared.event.MemberKind.{MemberKind}
use Rattle.gz_scenario.specs.declared.event.MemberKind.TheVariants.{Broker, Consumer}
use Rattle.gz_scenario.specs.declared.event.Join.{Join}
use Rattle.gz_scenario.specs.declared.event.Event.{Event}
use Rattle.gz_scenario.specs.declared.event.Event.TheVariants as event

-- ---- messages

abbrev pub flag_named : List ℕ → List ℕ → Result Flag FieldError
flag_named path text =
    if bytes_eq text (codes "outside") then Ok Outside
    else (if bytes_eq text (codes "continue") then Ok Continue
    else (if bytes_eq text (codes "ack") then Ok Ack else Err (field.BadName path)))

abbrev pub flag_at : List ℕ → Data → Result Flag FieldError
flag_at path d = text_at path (codes "flag") d >>= λ text. flag_named (below path (codes "flag")) text

abbrev pub short_text : ℕ → List ℕ → List ℕ → Result (List ℕ) FieldError
short_text most path text = if nat_le (length text) most then Ok text else Err (field.BadNumber path)

abbrev pub short_if : ℕ → List ℕ → Option Data → Result (List ℕ) FieldError
short_if most path None = Ok []
short_if most path (Some d) = found path (as_str d) >>= λ text. short_text most path text

-- a text of at most so many bytes, which may be absent, and is empty then
abbrev pub short_or_none : ℕ → List ℕ → List ℕ → Data → Result (List ℕ) FieldError
short_or_none most path name d = short_if most (below path name) (get name d)

abbrev pub draft_members : List (List ℕ)
draft_members = codes "flag" ∷ codes "clock" ∷ codes "key" ∷ codes "value" ∷ []

-- the greatest clock, which is below 2 to the 64
abbrev pub max_clock : ℕ
max_clock = 18446744073709551615

-- a message, without what its producer adds
unfoldable pub draft_in : List ℕ → Data → Result Draft FieldError
draft_in path d = do
  _ ← has_only path draft_members d
  flag ← flag_at path d
  clock ← number_at 0 max_clock path (codes "clock") d
  key ← short_or_none max_key path (codes "key") d
  value ← short_or_none max_value path (codes "value") d
  Ok (record { flag = flag; clock = clock; key = key; value = value })

-- the messages from place i on
abbrev pub drafts_from : List ℕ → ℕ → Items → Result (List Draft) FieldError
drafts_from path i no_items = Ok []
drafts_from path i (item d ds) = draft_in (at_place path i) d >>= λ draft. drafts_from path (i + 1) ds >>= λ rest. Ok (draft ∷ rest)

-- at least one message
abbrev pub some_drafts : List ℕ → Items → Result (List Draft) FieldError
some_drafts path no_items = Err (field.BadNumber path)
some_drafts path (item d ds) = drafts_from path 0 (item d ds)

-- ---- publish

abbrev pub publish_members : List (List ℕ)
publish_members = codes "do" ∷ codes "client" ∷ codes "journal" ∷ codes "messages" ∷ codes "producer" ∷ []

-- the greatest producer, which is below 2 to the 40
abbrev pub max_producer : ℕ
max_producer = 1099511627775

-- A client's messages for a journal. The first producer sends them where no other is said.
unfoldable pub publish_in : Data → Result Publish FieldError
publish_in d = do
  _ ← has_only [] publish_members d
  client ← name_at is_id [] (codes "client") d
  journal ← name_at is_journal_name [] (codes "journal") d
  items ← items_at [] (codes "messages") d
  messages ← some_drafts (codes "messages") items
  producer ← number_or 1 0 max_producer [] (codes "producer") d
  Ok (record { client = client; journal = journal; messages = messages; producer = producer })

-- ---- settle

unfoldable pub settle_in : Data → Result Event FieldError
settle_in d = do
  _ ← has_only [] (codes "do" ∷ []) d
  Ok event.Settle

-- ---- converge

unfoldable pub converge_in : Data → Result Event FieldError
converge_in d = do
  _ ← has_only [] (codes "do" ∷ []) d
  Ok event.Converge

-- ---- apply

abbrev pub apply_members : List (List ℕ)
apply_members = codes "do" ∷ codes "journals" ∷ codes "shards" ∷ []

-- Journals and shards, each list by itself: whether the journals that the shards name are there isn't asked.
unfoldable pub apply_in : Data → Result Specs FieldError
apply_in d = do
  _ ← has_only [] apply_members d
  journals ← journals_in d
  shards ← shards_in d
  Ok (record { journals = journals; shards = shards; brokers = []; consumers = [] })

-- ---- join

abbrev pub join_members : List (List ℕ)
join_members = codes "do" ∷ codes "broker" ∷ codes "consumer" ∷ []

-- one member, where no other stands beside it
abbrev pub joining : MemberKind → List ℕ → Data → Result Join FieldError
joining kind name d = do
  m ← member_at name d
  Ok (record { kind = kind; member = m })

-- Just one of the two is there. Where both are, the consumer is a bad field, and with neither the broker is.
abbrev pub one_joining : Option Data → Option Data → Result Join FieldError
one_joining None None = Err (field.BadField (codes "broker"))
one_joining None (Some c) = joining Consumer (codes "consumer") c
one_joining (Some b) None = joining Broker (codes "broker") b
one_joining (Some b) (Some c) = joining Broker (codes "broker") b >>= λ j. Err (field.BadField (codes "consumer"))

-- a broker or a consumer
unfoldable pub join_in : Data → Result Join FieldError
join_in d = do
  _ ← has_only [] join_members d
  one_joining (get (codes "broker") d) (get (codes "consumer") d)

-- ---- expire

-- a member's id, which may be a reserved one
unfoldable pub expire_in : Data → Result (List ℕ) FieldError
expire_in d = do
  _ ← has_only [] (codes "do" ∷ codes "member" ∷ []) d
  name_at is_id [] (codes "member") d

-- ---- lines

-- the events that change what is there, by what they say to do
abbrev pub change_event : ℕ → List ℕ → Data → Result Event ScenarioError
change_event number verb d =
    if bytes_eq verb (codes "apply") then on_line number event.Apply (apply_in d)
    else (if bytes_eq verb (codes "join") then on_line number event.Join (join_in d)
    else (if bytes_eq verb (codes "expire") then on_line number event.Expire (expire_in d)
    else (if bytes_eq verb (codes "converge") then on_line number (λ e. e) (converge_in d) else Err (error.Unknown number))))

-- the events of later lines, by what they say to do
abbrev pub later_event : ℕ → List ℕ → Data → Result Event ScenarioError
later_event number verb d =
    if bytes_eq verb (codes "publish") then on_line number event.Publish (publish_in d)
    else (if bytes_eq verb (codes "settle") then on_line number (λ e. e) (settle_in d) else change_event number verb d)

-- the first line has the specifications, and no later line has
abbrev pub event_named : ℕ → List ℕ → List ℕ → Data → Result Event ScenarioError
event_named number line verb d =
    if number == 1
    then (if bytes_eq verb (codes "specs") then specs_on_line number event.Specs (specs_of line) else Err (error.Unknown number))
    else later_event number verb d

abbrev pub event_if : ℕ → List ℕ → Data → Option (List ℕ) → Result Event ScenarioError
event_if number line d None = Err (error.Unknown number)
event_if number line d (Some verb) = event_named number line verb d

-- the event of an object, by what it says to do
abbrev pub event_in : ℕ → List ℕ → Option Data → Result Event ScenarioError
event_in number line None = Err (error.NotJson number)
event_in number line (Some d) = event_if number line d (option_and_then as_str (get (codes "do") d))

-- the most lines, and the most bytes of a line
abbrev pub max_lines : ℕ
max_lines = 65536

abbrev pub max_line : ℕ
max_line = 4194304

-- the event that the line of this number says
unfoldable pub event_of : ℕ → List ℕ → Result Event ScenarioError
event_of number line =
    if nat_le number max_lines && nat_le (length line) max_line
    then event_in number line (json_of line)
    else Err (error.Limit number)
