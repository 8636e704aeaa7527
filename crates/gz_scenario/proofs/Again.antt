-- Events that are printed are read back.
use Rattle.std.proofs.Common.{◌≡◌, ◌≤◌, ◌&&◌, ◌==◌, ℕ, ◌+◌, List, [], ◌∷◌, length, map, refl, Bool, true, false, nat_le, Some, Result, Ok, Err, option_and_then, codes, ap, sym, subst, ◌∙◌, arith}
use Rattle.std.specs.Prelude.{is_ok}
use Rattle.std.specs.List.{list_all}
use Rattle.std.specs.Str.{is_utf8}
use Rattle.std.proofs.lemmas.Grind.{common_steps}
use Rattle.std.proofs.lemmas.Bool.{and_parts, false≢true, eqb-true}
use Rattle.serde_json.specs.Data.{depth}
use Rattle.serde_json.specs.Find.{get, as_str}
use Rattle.serde_json.specs.Read.{max_depth}
use Rattle.serde_json.specs.View.{items_of}
use Rattle.serde_json.proofs.OnLiterals.{serde_json_on_literals}
use Rattle.gz_json.specs.Json.{json_of}
use Rattle.gz_fields.specs.Names.{is_id, is_journal_name}
use Rattle.gz_print.specs.Printed.{member_data, specs_data, specs_data_as}
use Rattle.gz_fields.specs.Form.{has_only, is_between}
use Rattle.gz_spec.specs.Members.{member_with, member_at}
use Rattle.gz_spec.specs.Specs.{journals_in, shards_in, part_of}
use Rattle.gz_links.specs.Whole.{whole, specs_of}
use Rattle.gz_spec.specs.Valid.{are_journals, are_shards, are_specs}
use Rattle.gz_spec.specs.Limits.{max_limit}
use Rattle.gz_spec.specs.Records.{MemberSpec, Specs}
use Rattle.gz_links.specs.declared.error.SpecError.{SpecError}
use Rattle.gz_links.proofs.Whole.{whole_good, part_judged}
use Rattle.gz_print.proofs.SpecsBack.{journals_back, shards_back}
use Rattle.gz_fields.specs.Paths.{at_place}
use Rattle.gz_frame.specs.Messages.{max_key, max_value}
use Rattle.gz_scenario.specs.Events.{draft_in, drafts_from, some_drafts, publish_in, settle_in, converge_in, apply_members, apply_in, join_in, expire_in, event_in, event_of, max_lines, max_line, max_clock, max_producer}
use Rattle.gz_scenario.specs.Lawful.{is_short_text, is_draft, is_publish, is_start, is_apply, is_joiner}
use Rattle.gz_scenario.specs.Printed.{draft_data, publish_data, settle_data, converge_data, apply_data, join_data, expire_data, IsLine}
use Rattle.gz_scenario.specs.declared.event.Flag.{Flag}
use Rattle.gz_scenario.specs.declared.event.Flag.TheVariants.{Outside, Continue, Ack}
use Rattle.gz_scenario.specs.declared.event.Draft.{Draft}
use Rattle.gz_scenario.specs.declared.event.Publish.{Publish}
use Rattle.gz_scenario.specs.declared.event.MemberKind.{MemberKind}
use Rattle.gz_scenario.specs.declared.event.MemberKind.TheVariants.{Broker, Consumer}
use Rattle.gz_scenario.specs.declared.event.Join.{Join}
use Rattle.gz_scenario.specs.declared.event.Event.TheVariants as event
use Rattle.gz_scenario.proofs.Floats.{publish_depth, settle_depth, converge_depth, apply_depth, join_depth, expire_depth}

left : (b c : Bool) → (b && c) ≡ true → b ≡ true
left true c h = refl
left false c h = h

right : (b c : Bool) → (b && c) ≡ true → c ≡ true
right true c h = h
right false c h = absurd (false≢true h)

least : (n : ℕ) → nat_le 0 n ≡ true
least n = grind (arith, common_steps)

fields_again : (path : List ℕ) (flag : Flag) (clock : ℕ) (key value : List ℕ)
    → nat_le clock max_clock ≡ true → nat_le (length key) max_key ≡ true → nat_le (length value) max_value ≡ true
    → draft_in path (draft_data (record { flag = flag; clock = clock; key = key; value = value })) ≡ Ok (record { flag = flag; clock = clock; key = key; value = value })
unfolding draft_in draft_data serde_json_on_literals
fields_again path Outside clock key value c k v = rw (least clock, c, k, v) refl
fields_again path Continue clock key value c k v = rw (least clock, c, k, v) refl
fields_again path Ack clock key value c k v = rw (least clock, c, k, v) refl

short_again : (most : ℕ) (text : List ℕ) → is_short_text most text ≡ true → nat_le (length text) most ≡ true
short_again most text h = right (is_utf8 text) (nat_le (length text) most) h

draft_again : (path : List ℕ) (m : Draft) → is_draft m ≡ true → draft_in path (draft_data m) ≡ Ok m
draft_again path m h =
    let clock = nat_le m.clock max_clock in
    let key = is_short_text max_key m.key in
    let value = is_short_text max_value m.value in
    let prefix = left (clock && key) value h in
    fields_again path m.flag m.clock m.key m.value
    (left clock key prefix) (short_again max_key m.key (right clock key prefix))
    (short_again max_value m.value (right (clock && key) value h))

drafts_again : (path : List ℕ) (i : ℕ) (ms : List Draft) → list_all is_draft ms ≡ true → drafts_from path i (items_of (map draft_data ms)) ≡ Ok ms
drafts_again path i [] h = refl
drafts_again path i (m ∷ ms) h =
    rw (draft_again (at_place path i) m (left (is_draft m) (list_all is_draft ms) h), drafts_again path (i + 1) ms (right (is_draft m) (list_all is_draft ms) h)) refl

some_again : (path : List ℕ) (ms : List Draft) → nat_le 1 (length ms) ≡ true → list_all is_draft ms ≡ true → some_drafts path (items_of (map draft_data ms)) ≡ Ok ms
some_again path [] some h = absurd (false≢true some)
some_again path (m ∷ ms) some h = drafts_again path 0 (m ∷ ms) h

parts_again : (client journal : List ℕ) (messages : List Draft) (producer : ℕ)
    → is_id client ≡ true → is_journal_name journal ≡ true → some_drafts (codes "messages") (items_of (map draft_data messages)) ≡ Ok messages → nat_le producer max_producer ≡ true
    → publish_in (publish_data (record { client = client; journal = journal; messages = messages; producer = producer })) ≡ Ok (record { client = client; journal = journal; messages = messages; producer = producer })
unfolding publish_in publish_data serde_json_on_literals
parts_again client journal messages producer named found some known = rw (named, found, some, least producer, known) refl

five : (a b c d e : Bool) → (a && b && c && d && e) ≡ true → (a ≡ true) × (b ≡ true) × (c ≡ true) × (d ≡ true) × (e ≡ true)
five true true true true true h = (refl, refl, refl, refl, refl)
five true true true true false h = absurd (false≢true h)
five true true true false e h = absurd (false≢true h)
five true true false d e h = absurd (false≢true h)
five true false c d e h = absurd (false≢true h)
five false b c d e h = absurd (false≢true h)

publish_again : (p : Publish) → is_publish p ≡ true → publish_in (publish_data p) ≡ Ok p
unfolding is_publish
publish_again p h =
    let parts = five (is_id p.client) (is_journal_name p.journal) (nat_le 1 (length p.messages)) (list_all is_draft p.messages) (nat_le p.producer max_producer) h in
    parts_again p.client p.journal p.messages p.producer parts.0 parts.1 (some_again (codes "messages") p.messages parts.2 parts.3) parts.4

settle_again : settle_in settle_data ≡ Ok event.Settle
unfolding settle_in settle_data serde_json_on_literals
settle_again = refl

converge_again : converge_in converge_data ≡ Ok event.Converge
unfolding converge_in converge_data serde_json_on_literals
converge_again = refl

-- ---- an apply

only_again : (part : Specs) → has_only [] apply_members (apply_data part) ≡ Ok tt
unfolding apply_data serde_json_on_literals
only_again part = refl

journals_same : (part : Specs) → journals_in (apply_data part) ≡ journals_in (specs_data part)
unfolding journals_in apply_data serde_json_on_literals
journals_same part = refl

shards_same : (part : Specs) → shards_in (apply_data part) ≡ shards_in (specs_data part)
unfolding shards_in apply_data serde_json_on_literals
shards_same part = refl

none_there : {A : Type 0} (xs : List A) → (length xs == 0) ≡ true → xs ≡ []
none_there [] none = refl
none_there (x ∷ xs) none =
    let same : length (x ∷ xs) ≡ 0 = eqb-true (length (x ∷ xs)) 0 none in
    absurd (omega (arith, same))

-- specifications without members are their journals and shards
alone : (part : Specs) → part.brokers ≡ [] → part.consumers ≡ []
    → (let s : Specs = record { journals = part.journals; shards = part.shards; brokers = []; consumers = [] } in s ≡ part)
alone part bs cs =
    let P : List MemberSpec → Type 0 = λ x.
    (let s : Specs = record { journals = part.journals; shards = part.shards; brokers = x; consumers = [] } in s ≡ part) in
    let Q : List MemberSpec → Type 0 = λ x.
    (let s : Specs = record { journals = part.journals; shards = part.shards; brokers = part.brokers; consumers = x } in s ≡ part) in
    subst P bs (subst Q cs refl)

lists_again : (part : Specs) → journals_in (apply_data part) ≡ Ok part.journals → shards_in (apply_data part) ≡ Ok part.shards
    → part.brokers ≡ [] → part.consumers ≡ [] → apply_in (apply_data part) ≡ Ok part
unfolding apply_in
lists_again part js ss bs cs = rw (only_again part, js, ss) (ap Ok (alone part bs cs))

apply_again : (part : Specs) → is_apply part ≡ true → apply_in (apply_data part) ≡ Ok part
unfolding is_apply
apply_again part h =
    let a = and_parts (are_specs part && length part.brokers == 0) (length part.consumers == 0) h in
    let b = and_parts (are_specs part) (length part.brokers == 0) a.0 in
    let j = and_parts (are_journals part.journals) _ b.0 in
    let s = and_parts (are_shards part.shards) _ j.1 in
    lists_again part (journals_same part ∙ journals_back part j.0) (shards_same part ∙ shards_back part s.0)
    (none_there part.brokers b.1) (none_there part.consumers a.1)

-- ---- a join, an expire

joiner_again : (path : List ℕ) (m : MemberSpec) → is_joiner m ≡ true → member_at path (member_data m) ≡ Ok m
unfolding member_at member_with is_joiner
joiner_again path m h =
    let a = and_parts (is_id m.id) (is_id m.zone && is_between 0 max_limit m.limit) h in
    let b = and_parts (is_id m.zone) (is_between 0 max_limit m.limit) a.1 in
    rw (a.0, b.0, b.1) refl

kind_again : (kind : MemberKind) (m : MemberSpec) → is_joiner m ≡ true
    → join_in (join_data (record { kind = kind; member = m })) ≡ Ok (record { kind = kind; member = m })
unfolding join_in join_data serde_json_on_literals
kind_again Broker m h = rw (joiner_again (codes "broker") m h) refl
kind_again Consumer m h = rw (joiner_again (codes "consumer") m h) refl

join_again : (j : Join) → is_joiner j.member ≡ true → join_in (join_data j) ≡ Ok j
join_again j h = kind_again j.kind j.member h

expire_again : (id : List ℕ) → is_id id ≡ true → expire_in (expire_data id) ≡ Ok id
unfolding expire_in expire_data serde_json_on_literals
expire_again id h = rw h refl

-- ---- lines

publish_verb : (p : Publish) → option_and_then as_str (get (codes "do") (publish_data p)) ≡ Some (codes "publish")
unfolding publish_data serde_json_on_literals
publish_verb p = refl

settle_verb : option_and_then as_str (get (codes "do") settle_data) ≡ Some (codes "settle")
unfolding settle_data serde_json_on_literals
settle_verb = refl

converge_verb : option_and_then as_str (get (codes "do") converge_data) ≡ Some (codes "converge")
unfolding converge_data serde_json_on_literals
converge_verb = refl

apply_verb : (part : Specs) → option_and_then as_str (get (codes "do") (apply_data part)) ≡ Some (codes "apply")
unfolding apply_data serde_json_on_literals
apply_verb part = refl

kind_verb : (kind : MemberKind) (m : MemberSpec)
    → option_and_then as_str (get (codes "do") (join_data (record { kind = kind; member = m }))) ≡ Some (codes "join")
unfolding join_data serde_json_on_literals
kind_verb Broker m = refl
kind_verb Consumer m = refl

join_verb : (j : Join) → option_and_then as_str (get (codes "do") (join_data j)) ≡ Some (codes "join")
join_verb j = kind_verb j.kind j.member

expire_verb : (id : List ℕ) → option_and_then as_str (get (codes "do") (expire_data id)) ≡ Some (codes "expire")
unfolding expire_data serde_json_on_literals
expire_verb id = refl

at_most : (m n : ℕ) → m ≤ n → nat_le m n ≡ true
at_most m n h = grind (arith, common_steps)

not_first : (n : ℕ) → 2 ≤ n → (n == 1) ≡ false
not_first n h = grind (arith, common_steps)

within : (n : ℕ) (line : List ℕ) → n ≤ max_lines → length line ≤ max_line → event_of n line ≡ event_in n line (json_of line)
unfolding event_of
within n line few short = rw (at_most n max_lines few, at_most (length line) max_line short) refl

pub publish_line : (p : Publish) (line : List ℕ) → is_publish p ≡ true → (depth (publish_data p) ≤ max_depth → json_of line ≡ Some (publish_data p)) → IsLine (event.Publish p) line
publish_line p line lawful reads n later few short =
    rw (within n line few short, reads (publish_depth p), publish_verb p, not_first n later, publish_again p lawful) refl

pub settle_line : (line : List ℕ) → (depth settle_data ≤ max_depth → json_of line ≡ Some settle_data) → IsLine event.Settle line
settle_line line reads n later few short =
    rw (within n line few short, reads settle_depth, settle_verb, not_first n later, settle_again) refl

pub converge_line : (line : List ℕ) → (depth converge_data ≤ max_depth → json_of line ≡ Some converge_data) → IsLine event.Converge line
converge_line line reads n later few short =
    rw (within n line few short, reads converge_depth, converge_verb, not_first n later, converge_again) refl

pub apply_line : (part : Specs) (line : List ℕ) → is_apply part ≡ true → (depth (apply_data part) ≤ max_depth → json_of line ≡ Some (apply_data part)) → IsLine (event.Apply part) line
apply_line part line lawful reads n later few short =
    rw (within n line few short, reads (apply_depth part), apply_verb part, not_first n later, apply_again part lawful) refl

pub join_line : (j : Join) (line : List ℕ) → is_joiner j.member ≡ true → (depth (join_data j) ≤ max_depth → json_of line ≡ Some (join_data j)) → IsLine (event.Join j) line
join_line j line lawful reads n later few short =
    rw (within n line few short, reads (join_depth j), join_verb j, not_first n later, join_again j lawful) refl

pub expire_line : (id line : List ℕ) → is_id id ≡ true → (depth (expire_data id) ≤ max_depth → json_of line ≡ Some (expire_data id)) → IsLine (event.Expire id) line
expire_line id line lawful reads n later few short =
    rw (within n line few short, reads (expire_depth id), expire_verb id, not_first n later, expire_again id lawful) refl

-- ---- the first line

start_verb : (s : Specs) → option_and_then as_str (get (codes "do") (specs_data_as (codes "specs") s)) ≡ Some (codes "specs")
unfolding specs_data_as serde_json_on_literals
start_verb s = refl

whole_again : (s : Specs) (r : Result Specs SpecError) → whole s ≡ r → is_ok r ≡ true → whole s ≡ Ok s
whole_again s (Ok out) is ok = is ∙ ap Ok (sym (whole_good s out is).same)
whole_again s (Err e) is ok = absurd (false≢true ok)

first_again : (s : Specs) (line : List ℕ) → json_of line ≡ Some (specs_data_as (codes "specs") s) → specs_of line ≡ whole s
    → whole s ≡ Ok s → length line ≤ max_line → event_of 1 line ≡ Ok (event.Specs s)
first_again s line says judged good short =
    rw (within 1 line (omega arith) short, says, start_verb s, judged, good) refl

pub start_line : (s : Specs) (line : List ℕ) → is_start s ≡ true → json_of line ≡ Some (specs_data_as (codes "specs") s)
    → part_of line ≡ Ok s → IsLine (event.Specs s) line
unfolding is_start
start_line s line lawful says back n first few short =
    let good = whole_again s (whole s) refl (right (are_specs s) (is_ok (whole s)) lawful) in
    rw first (first_again s line says (part_judged line s back) good short)
