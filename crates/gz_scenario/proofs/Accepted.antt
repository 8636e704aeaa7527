-- What reading accepts is lawful.
use Rattle.std.proofs.Common.{◌≡◌, ℕ, ◌+◌, ◌&&◌, ◌==◌, List, [], ◌∷◌, length, refl, ap, subst, Bool, true, false, cond, nat_le, Option, Some, None, option_and_then, Result, Ok, Err, arith, codes}
use Rattle.std.specs.Prelude.{is_ok}
use Rattle.std.specs.List.{list_all}
use Rattle.std.specs.Str.{is_utf8, bytes_eq}
use Rattle.std.proofs.lemmas.Bool.{and_parts, and_from, le-leb}
use Rattle.std.proofs.lemmas.Str.{IsUtf8-nil, is_utf8-from_IsUtf8}
use Rattle.serde_json.specs.Data.{Data, Items, no_items, item}
use Rattle.serde_json.specs.Find.{get, as_str, as_array}
use Rattle.gz_json.specs.Json.{json_of}
use Rattle.gz_scenario.proofs.Texts.{utf8_data, utf8_items, json_is_utf8, get_good, text_good, list_good}
use Rattle.gz_fields.specs.Names.{is_id, is_journal_name}
use Rattle.gz_fields.specs.Paths.{below, at_place}
use Rattle.gz_fields.specs.Form.{found, has_only, name_at, number_from, number_at, number_or, items_at, is_between}
use Rattle.gz_spec.specs.Members.{member_names, member_with, member_at}
use Rattle.gz_spec.specs.Specs.{journals_in, shards_in, part_of}
use Rattle.gz_links.specs.Whole.{whole, specs_of}
use Rattle.gz_spec.specs.Valid.{are_specs}
use Rattle.gz_spec.specs.Limits.{max_limit}
use Rattle.gz_spec.specs.Records.{MemberSpec, Specs}
use Rattle.gz_fields.specs.declared.error.FieldError.{FieldError}
use Rattle.gz_fields.specs.declared.error.FieldError.TheVariants.{BadNumber}
use Rattle.gz_fields.proofs.Readable.{step, same_ok, chosen, name_good, number_good, number_or_good}
use Rattle.gz_spec.proofs.Sound.{limit_good, journals_good, shards_good, part_is_valid}
use Rattle.gz_links.specs.Outcomes.{of_fields}
use Rattle.gz_links.specs.declared.error.SpecError.{SpecError}
use Rattle.gz_links.proofs.Fields.{fields_went}
use Rattle.gz_links.proofs.Whole.{whole_good}
use Rattle.gz_scenario.specs.Refusals.{on_line, specs_on_line}
use Rattle.gz_frame.specs.Messages.{max_key, max_value}
use Rattle.gz_scenario.specs.Events.{max_clock, max_producer, max_lines, max_line, flag_at, short_text, short_if, short_or_none, draft_members, draft_in, drafts_from, some_drafts, publish_members, publish_in, settle_in, converge_in, apply_members, apply_in, joining, one_joining, join_members, join_in, expire_in, change_event, later_event, event_if, event_in, event_of}
use Rattle.gz_scenario.specs.Lawful.{is_short_text, is_draft, is_publish, is_start, is_apply, is_joiner, is_event}
use Rattle.gz_scenario.specs.declared.error.ScenarioError.{ScenarioError}
use Rattle.gz_scenario.specs.declared.error.ScenarioError.TheVariants as error
use Rattle.gz_scenario.specs.declared.event.Draft.{Draft}
use Rattle.gz_scenario.specs.declared.event.Publish.{Publish}
use Rattle.gz_scenario.specs.declared.event.MemberKind.{MemberKind}
use Rattle.gz_scenario.specs.declared.event.MemberKind.TheVariants.{Broker, Consumer}
use Rattle.gz_scenario.specs.declared.event.Join.{Join}
use Rattle.gz_scenario.specs.declared.event.Event.{Event}
use Rattle.gz_scenario.specs.declared.event.Event.TheVariants as event

-- ---- members

found_some : {A : Type 0} (path : List ℕ) (o : Option A) (a : A) → found path o ≡ Ok a → o ≡ Some a
found_some path None a is = absurd (cc)
found_some path (Some b) a is = ap Some (same_ok b a is)

empty_is_short : (most : ℕ) → is_short_text most [] ≡ true
empty_is_short most =
    and_from (is_utf8 []) (nat_le 0 most) (is_utf8-from_IsUtf8 [] IsUtf8-nil) (le-leb 0 most (omega arith))

short_good : (most : ℕ) (path text : List ℕ) (o : Option Data) → ((d : Data) → o ≡ Some d → utf8_data d ≡ true)
    → short_if most path o ≡ Ok text → is_short_text most text ≡ true
short_good most path text None good is =
    subst (λ t. is_short_text most t ≡ true) (same_ok [] text is) (empty_is_short most)
short_good most path text (Some d) good is =
    let s = step (found path (as_str d)) (λ t. short_text most path t) text is in
    let c = chosen (nat_le (length s.0) most) s.0 text (BadNumber path) s.2 in
    let utf8 = text_good d s.0 (good d refl) (found_some path (as_str d) s.0 s.1) in
    subst (λ t. is_short_text most t ≡ true) c.1 (and_from (is_utf8 s.0) (nat_le (length s.0) most) utf8 c.0)

member_good : (most : ℕ) (path name text : List ℕ) (d : Data) → utf8_data d ≡ true
    → short_or_none most path name d ≡ Ok text → is_short_text most text ≡ true
member_good most path name text d good is =
    short_good most (below path name) text (get name d) (λ v there. get_good name d v good there) is

clock_good : (path : List ℕ) (d : Data) (n : ℕ) → number_at 0 max_clock path (codes "clock") d ≡ Ok n → nat_le n max_clock ≡ true
clock_good path d n is =
    let p = below path (codes "clock") in
    let s = step (found p (get (codes "clock") d)) (λ v. number_from 0 max_clock p v) n is in
    (and_parts (nat_le 0 n) (nat_le n max_clock) (number_good 0 max_clock p s.0 n s.2)).1

producer_good : (d : Data) (n : ℕ) → number_or 1 0 max_producer [] (codes "producer") d ≡ Ok n → nat_le n max_producer ≡ true
producer_good d n is =
    let p = below [] (codes "producer") in
    (and_parts (nat_le 0 n) (nat_le n max_producer) (number_or_good 1 0 max_producer p (get (codes "producer") d) n refl is)).1

-- ---- messages

draft_good : (path : List ℕ) (d : Data) (m : Draft) → utf8_data d ≡ true → draft_in path d ≡ Ok m → is_draft m ≡ true
unfolding draft_in
draft_good path d m good is =
    let h = step (has_only path draft_members d) _ m is in
    let f = step (flag_at path d) _ m h.2 in
    let c = step (number_at 0 max_clock path (codes "clock") d) _ m f.2 in
    let k = step (short_or_none max_key path (codes "key") d) _ m c.2 in
    let v = step (short_or_none max_value path (codes "value") d) _ m k.2 in
    let clock = clock_good path d c.0 c.1 in
    let key = member_good max_key path (codes "key") k.0 d good k.1 in
    let value = member_good max_value path (codes "value") v.0 d good v.1 in
    subst (λ x. is_draft x ≡ true) (same_ok _ m v.2)
    (and_from (nat_le c.0 max_clock && is_short_text max_key k.0) (is_short_text max_value v.0)
    (and_from (nat_le c.0 max_clock) (is_short_text max_key k.0) clock key) value)

drafts_good : (path : List ℕ) (i : ℕ) (ds : Items) (ms : List Draft) → utf8_items ds ≡ true → drafts_from path i ds ≡ Ok ms
    → list_all is_draft ms ≡ true
drafts_good path i no_items ms good is = subst (λ l. list_all is_draft l ≡ true) (same_ok [] ms is) refl
drafts_good path i (item d ds) ms good is =
    let g = and_parts (utf8_data d) (utf8_items ds) good in
    let m = step (draft_in (at_place path i) d) _ ms is in
    let r = step (drafts_from path (i + 1) ds) _ ms m.2 in
    subst (λ l. list_all is_draft l ≡ true) (same_ok (m.0 ∷ r.0) ms r.2)
    (and_from (is_draft m.0) (list_all is_draft r.0) (draft_good (at_place path i) d m.0 g.0 m.1)
    (drafts_good path (i + 1) ds r.0 g.1 r.1))

some_there : (path : List ℕ) (ds : Items) (ms : List Draft) → some_drafts path ds ≡ Ok ms → nat_le 1 (length ms) ≡ true
some_there path no_items ms is = absurd (cc)
some_there path (item d ds) ms is =
    let m = step (draft_in (at_place path 0) d) _ ms is in
    let r = step (drafts_from path 1 ds) _ ms m.2 in
    subst (λ (l : List Draft). nat_le 1 (length l) ≡ true) (same_ok (m.0 ∷ r.0) ms r.2)
    (le-leb 1 (length (m.0 ∷ r.0)) (omega arith))

some_good : (path : List ℕ) (ds : Items) (ms : List Draft) → utf8_items ds ≡ true → some_drafts path ds ≡ Ok ms
    → list_all is_draft ms ≡ true
some_good path no_items ms good is = absurd (cc)
some_good path (item d ds) ms good is = drafts_good path 0 (item d ds) ms good is

-- ---- a publish

listed : (o : Option Data) (ds : Items) → ((d : Data) → o ≡ Some d → utf8_data d ≡ true)
    → option_and_then as_array o ≡ Some ds → utf8_items ds ≡ true
listed None ds good is = absurd (cc)
listed (Some d) ds good is = list_good d ds (good d refl) is

items_good : (path name : List ℕ) (d : Data) (ds : Items) → utf8_data d ≡ true → items_at path name d ≡ Ok ds
    → utf8_items ds ≡ true
items_good path name d ds good is =
    listed (get name d) ds (λ v there. get_good name d v good there)
    (found_some (below path name) (option_and_then as_array (get name d)) ds is)

publish_good : (d : Data) (p : Publish) → utf8_data d ≡ true → publish_in d ≡ Ok p → is_publish p ≡ true
unfolding publish_in is_publish
publish_good d p good is =
    let h = step (has_only [] publish_members d) _ p is in
    let c = step (name_at is_id [] (codes "client") d) _ p h.2 in
    let j = step (name_at is_journal_name [] (codes "journal") d) _ p c.2 in
    let i = step (items_at [] (codes "messages") d) _ p j.2 in
    let m = step (some_drafts (codes "messages") i.0) _ p i.2 in
    let n = step (number_or 1 0 max_producer [] (codes "producer") d) _ p m.2 in
    let client = name_good is_id [] (codes "client") c.0 d c.1 in
    let journal = name_good is_journal_name [] (codes "journal") j.0 d j.1 in
    let some = some_there (codes "messages") i.0 m.0 m.1 in
    let messages = some_good (codes "messages") i.0 m.0 (items_good [] (codes "messages") d i.0 good i.1) m.1 in
    let producer = producer_good d n.0 n.1 in
    let named = and_from (is_id c.0) (is_journal_name j.0) client journal in
    let full = and_from (is_id c.0 && is_journal_name j.0) (nat_le 1 (length m.0)) named some in
    let all = and_from (is_id c.0 && is_journal_name j.0 && nat_le 1 (length m.0)) (list_all is_draft m.0) full messages in
    subst (λ (x : Publish). (is_id x.client && is_journal_name x.journal && nat_le 1 (length x.messages)
    && list_all is_draft x.messages && nat_le x.producer max_producer) ≡ true) (same_ok _ p n.2)
    (and_from (is_id c.0 && is_journal_name j.0 && nat_le 1 (length m.0) && list_all is_draft m.0)
    (nat_le n.0 max_producer) all producer)

-- ---- specifications

start_good : (line : List ℕ) (specs : Specs) → specs_of line ≡ Ok specs → is_start specs ≡ true
unfolding specs_of is_start
start_good line specs is =
    let a = step (of_fields (part_of line)) whole specs is in
    subst (λ (s : Specs). (are_specs s && is_ok (whole s)) ≡ true) (whole_good a.0 specs a.2).same
    (and_from (are_specs a.0) (is_ok (whole a.0)) (part_is_valid line a.0 (fields_went (part_of line) a.0 a.1)) (ap is_ok a.2))

-- ---- an apply

apply_good : (d : Data) (part : Specs) → apply_in d ≡ Ok part → is_apply part ≡ true
unfolding apply_in is_apply
apply_good d part is =
    let h = step (has_only [] apply_members d) _ part is in
    let js = step (journals_in d) _ part h.2 in
    let ss = step (shards_in d) _ part js.2 in
    subst (λ (p : Specs). (are_specs p && length p.brokers == 0 && length p.consumers == 0) ≡ true) (same_ok _ part ss.2)
    (rw (journals_good d js.0 js.1, shards_good d ss.0 ss.1) refl)

-- ---- a join, an expire

joiner_good : (path : List ℕ) (d : Data) (m : MemberSpec) → member_at path d ≡ Ok m → is_joiner m ≡ true
unfolding member_at member_with is_joiner
joiner_good path d m is =
    let h = step (has_only path member_names d) _ m is in
    let id = step (name_at is_id path (codes "id") d) _ m h.2 in
    let zone = step (name_at is_id path (codes "zone") d) _ m id.2 in
    let limit = step (number_at 0 max_limit path (codes "limit") d) _ m zone.2 in
    subst (λ (t : MemberSpec). (is_id t.id && (is_id t.zone && is_between 0 max_limit t.limit)) ≡ true) (same_ok _ m limit.2)
    (and_from (is_id id.0) (is_id zone.0 && is_between 0 max_limit limit.0) (name_good is_id path (codes "id") id.0 d id.1)
    (and_from (is_id zone.0) (is_between 0 max_limit limit.0) (name_good is_id path (codes "zone") zone.0 d zone.1)
    (limit_good path d limit.0 limit.1)))

joining_good : (kind : MemberKind) (name : List ℕ) (d : Data) (j : Join) → joining kind name d ≡ Ok j → is_joiner j.member ≡ true
joining_good kind name d j is =
    let m = step (member_at name d) _ j is in
    subst (λ (t : Join). is_joiner t.member ≡ true) (same_ok _ j m.2) (joiner_good name d m.0 m.1)

no_join : (e : FieldError) (j : Join) → (let r : Result Join FieldError = Err e in r ≡ Ok j) → ⊥
no_join e j is = cc

one_good : (b c : Option Data) (j : Join) → one_joining b c ≡ Ok j → is_joiner j.member ≡ true
one_good None None j is = absurd (no_join _ j is)
one_good None (Some c) j is = joining_good Consumer (codes "consumer") c j is
one_good (Some b) None j is = joining_good Broker (codes "broker") b j is
one_good (Some b) (Some c) j is =
    let m = step (joining Broker (codes "broker") b) _ j is in
    absurd (no_join _ j m.2)

join_good : (d : Data) (j : Join) → join_in d ≡ Ok j → is_joiner j.member ≡ true
unfolding join_in
join_good d j is =
    let h = step (has_only [] join_members d) _ j is in
    one_good (get (codes "broker") d) (get (codes "consumer") d) j h.2

expire_good : (d : Data) (id : List ℕ) → expire_in d ≡ Ok id → is_id id ≡ true
unfolding expire_in
expire_good d id is =
    let h = step (has_only [] (codes "do" ∷ codes "member" ∷ []) d) _ id is in
    name_good is_id [] (codes "member") id d h.2

-- ---- lines

no_event : {A : Type 0} (e : ScenarioError) (a : A) → (let r : Result A ScenarioError = Err e in r ≡ Ok a) → ⊥
no_event e a is = cc

same_event : (a b : Event) → (let r : Result Event ScenarioError = Ok a in r ≡ Ok b) → a ≡ b
same_event a b is = cc

-- what a line says is good where what is in it is
said : {A : Type 0} (number : ℕ) (f : A → Event) (r : Result A FieldError) (e : Event)
    → ((a : A) → r ≡ Ok a → is_event (f a) ≡ true) → on_line number f r ≡ Ok e → is_event e ≡ true
said number f (Ok a) e good is = subst (λ x. is_event x ≡ true) (same_event (f a) e is) (good a refl)
said number f (Err cause) e good is = absurd (no_event _ e is)

specs_said : {A : Type 0} (number : ℕ) (f : A → Event) (r : Result A SpecError) (e : Event)
    → ((a : A) → r ≡ Ok a → is_event (f a) ≡ true) → specs_on_line number f r ≡ Ok e → is_event e ≡ true
specs_said number f (Ok a) e good is = subst (λ x. is_event x ≡ true) (same_event (f a) e is) (good a refl)
specs_said number f (Err cause) e good is = absurd (no_event _ e is)

settle_good : (d : Data) (e : Event) → settle_in d ≡ Ok e → is_event e ≡ true
unfolding settle_in
settle_good d e is =
    let h = step (has_only [] (codes "do" ∷ []) d) _ e is in
    subst (λ x. is_event x ≡ true) (same_ok event.Settle e h.2) refl

converge_good : (d : Data) (e : Event) → converge_in d ≡ Ok e → is_event e ≡ true
unfolding converge_in
converge_good d e is =
    let h = step (has_only [] (codes "do" ∷ []) d) _ e is in
    subst (λ x. is_event x ≡ true) (same_ok event.Converge e h.2) refl

change_turn : (number : ℕ) (d : Data) (e : Event) (a j x c : Bool)
    → cond a (on_line number event.Apply (apply_in d)) (cond j (on_line number event.Join (join_in d))
    (cond x (on_line number event.Expire (expire_in d)) (cond c (on_line number (λ x. x) (converge_in d)) (Err (error.Unknown number))))) ≡ Ok e
    → is_event e ≡ true
change_turn number d e true j x c is = said number event.Apply (apply_in d) e (λ part there. apply_good d part there) is
change_turn number d e false true x c is = said number event.Join (join_in d) e (λ m there. join_good d m there) is
change_turn number d e false false true c is = said number event.Expire (expire_in d) e (λ id there. expire_good d id there) is
change_turn number d e false false false true is = said number (λ x. x) (converge_in d) e (λ x there. converge_good d x there) is
change_turn number d e false false false false is = absurd (no_event _ e is)

later_turn : (number : ℕ) (verb : List ℕ) (d : Data) (e : Event) (s t : Bool) → utf8_data d ≡ true
    → cond s (on_line number event.Publish (publish_in d)) (cond t (on_line number (λ x. x) (settle_in d)) (change_event number verb d)) ≡ Ok e
    → is_event e ≡ true
later_turn number verb d e true t good is = said number event.Publish (publish_in d) e (λ p there. publish_good d p good there) is
later_turn number verb d e false true good is = said number (λ x. x) (settle_in d) e (λ x there. settle_good d x there) is
later_turn number verb d e false false good is =
    change_turn number d e (bytes_eq verb (codes "apply")) (bytes_eq verb (codes "join")) (bytes_eq verb (codes "expire")) (bytes_eq verb (codes "converge")) is

first_turn : (number : ℕ) (line : List ℕ) (e : Event) (s : Bool)
    → cond s (specs_on_line number event.Specs (specs_of line)) (Err (error.Unknown number)) ≡ Ok e → is_event e ≡ true
first_turn number line e true is = specs_said number event.Specs (specs_of line) e (λ specs there. start_good line specs there) is
first_turn number line e false is = absurd (no_event _ e is)

named_turn : (number : ℕ) (line verb : List ℕ) (d : Data) (e : Event) (first : Bool) → utf8_data d ≡ true
    → cond first (cond (bytes_eq verb (codes "specs")) (specs_on_line number event.Specs (specs_of line)) (Err (error.Unknown number)))
    (later_event number verb d) ≡ Ok e
    → is_event e ≡ true
named_turn number line verb d e true good is = first_turn number line e (bytes_eq verb (codes "specs")) is
named_turn number line verb d e false good is =
    later_turn number verb d e (bytes_eq verb (codes "publish")) (bytes_eq verb (codes "settle")) good is

verb_turn : (number : ℕ) (line : List ℕ) (d : Data) (e : Event) (o : Option (List ℕ)) → utf8_data d ≡ true
    → event_if number line d o ≡ Ok e → is_event e ≡ true
verb_turn number line d e None good is = absurd (no_event _ e is)
verb_turn number line d e (Some verb) good is = named_turn number line verb d e (number == 1) good is

data_turn : (number : ℕ) (line : List ℕ) (e : Event) (o : Option Data) → json_of line ≡ o
    → event_in number line o ≡ Ok e → is_event e ≡ true
data_turn number line e None from is = absurd (no_event _ e is)
data_turn number line e (Some d) from is =
    verb_turn number line d e (option_and_then as_str (get (codes "do") d)) (json_is_utf8 line d from) is

line_turn : (number : ℕ) (line : List ℕ) (e : Event) (fits : Bool)
    → cond fits (event_in number line (json_of line)) (Err (error.Limit number)) ≡ Ok e → is_event e ≡ true
line_turn number line e true is = data_turn number line e (json_of line) refl is
line_turn number line e false is = absurd (no_event _ e is)

-- an event that a line says is lawful
pub event_good : (number : ℕ) (line : List ℕ) (e : Event) → event_of number line ≡ Ok e → is_event e ≡ true
unfolding event_of
event_good number line e is = line_turn number line e (nat_le number max_lines && nat_le (length line) max_line) is
