-- What the events of a run do: its journals and shards stay tied to its specifications.
use Rattle.std.proofs.Common.{◌≡◌, ℕ, zero, suc, ◌+◌, ◌<◌, ◌≤◌, ◌^◌, ◌&&◌, List, [], ◌∷◌, length, nat_le, refl, subst, cond, All, Bool, true, false, Option, Some, None, Result, Ok, Err, arith}
use Rattle.std.specs.List.{list_all}
use Rattle.std.proofs.lemmas.Bool.{and_parts, and_from}
use Rattle.std.proofs.lemmas.Grind.{common_steps}
use Rattle.gz_model.specs.Steps.{◌>>=◌}
use Rattle.gz_uuid.specs.Producer.{AreProducer, client_octets}
use Rattle.gz_frame.specs.Messages.{max_key, max_value, is_text_within, ack_txn}
use Rattle.gz_frame.proofs.Lines.{lawful_line_reads_back}
use Rattle.gz_fields.specs.Names.{is_id, is_journal_name}
use Rattle.gz_links.specs.Joins.{join_of}
use Rattle.gz_spec.specs.Valid.{are_specs}
use Rattle.gz_spec.specs.Records.{Specs}
use Rattle.gz_links.specs.declared.error.SpecError.{SpecError}
use Rattle.gz_registry.specs.Registered.{Registered, put_answer}
use Rattle.gz_registry.specs.declared.error.RegistryError.{RegistryError}
use Rattle.gz_scenario.specs.Events.{event_of, max_clock, max_producer}
use Rattle.gz_scenario.specs.Lawful.{is_draft, is_publish, is_event}
use Rattle.gz_scenario.proofs.Accepted.{event_good}
use Rattle.gz_scenario.specs.declared.error.ScenarioError.{ScenarioError}
use Rattle.gz_scenario.specs.declared.error.ScenarioError.TheVariants.{Limit}
use Rattle.gz_scenario.specs.declared.event.Flag.{Flag}
use Rattle.gz_scenario.specs.declared.event.Flag.TheVariants.{Outside, Continue, Ack}
use Rattle.gz_scenario.specs.declared.event.Draft.{Draft}
use Rattle.gz_scenario.specs.declared.event.Publish.{Publish as Published}
use Rattle.gz_scenario.specs.declared.event.Event.{Event}
use Rattle.gz_scenario.specs.declared.event.Event.TheVariants.{Specs as Begins, Publish, Settle, Converge, Apply, Join as Joins, Expire}
use Rattle.gz_client.specs.Answers.{stands}
use Rattle.gz_client.specs.Contents.{flags_of, message_at, messages_at, messages_of, content_of}
use Rattle.gz_client.specs.Requests.{request_of}
use Rattle.gz_client.specs.declared.answer.Answer.{Answer}
use Rattle.gz_label.specs.declared.entry.Attempt.{Attempt}
use Rattle.gz_promise.specs.Journals.{appended}
use Rattle.gz_plain.specs.Runs as plain
use Rattle.gz_plain.specs.Shards as shards
use Rattle.gz_world.specs.declared.reply.Reason.{Reason}
use Rattle.gz_converge.specs.declared.answer.Converged.{Converged}
use Rattle.gz_world.specs.Worlds.{World, Step, answer_to, with_landed, reason_of, told_of, published, registered, judged_joined, with_specs, judged_join, judged_expire, with_registry, converged_if, settled, after}
use Rattle.gz_world.proofs.Ready.{apply_valid, landed_specified, settled_specified}
use Rattle.gz_world.proofs.Tied.{IsTied, happens, with_tied}

-- ---- messages of clients

octets_fit : (n : ℕ) → All (λ octet. octet < 2 ^ 8) (client_octets n)
octets_fit n zero d within = omega arith
octets_fit n (suc zero) d within = omega arith
octets_fit n (suc (suc zero)) d within = omega arith
octets_fit n (suc (suc (suc zero))) d within = omega arith
octets_fit n (suc (suc (suc (suc zero)))) d within = omega arith
octets_fit n (suc (suc (suc (suc (suc zero))))) d within = omega arith
octets_fit n (suc (suc (suc (suc (suc (suc i)))))) d within = absurd (omega arith)

are_producer : (n : ℕ) → AreProducer (client_octets n)
are_producer n = record { six = refl; multicast = refl }

at_most : (n m : ℕ) → nat_le n m ≡ true → n ≤ m
at_most n m is = grind (arith, common_steps)

flags_few : (f : Flag) → flags_of f < 2 ^ 10
flags_few Outside = omega arith
flags_few Continue = omega arith
flags_few Ack = omega arith

flags_known : (f : Flag) → nat_le (flags_of f) ack_txn ≡ true
flags_known Outside = refl
flags_known Continue = refl
flags_known Ack = refl

-- the line of a lawful draft is read back
is_line : (number : ℕ) (d : Draft) → is_draft d ≡ true → plain.IsLine (message_at (client_octets number) d)
is_line number d lawful =
    let clock = nat_le d.clock max_clock in
    let key = is_text_within max_key d.key in
    let value = is_text_within max_value d.value in
    let parts = and_parts (clock && key) value lawful in
    let prefix = and_parts clock key parts.0 in
    let least : d.clock ≤ max_clock = at_most d.clock max_clock prefix.0 in
    let texts = and_from key value prefix.1 parts.1 in
    lawful_line_reads_back (message_at (client_octets number) d)
    (and_from (key && value) (nat_le (flags_of d.flag) ack_txn) texts (flags_known d.flag))
    (record { octets = are_producer number; clock_fits = omega (arith, least); flags_fit = flags_few d.flag })
    (octets_fit number)

are_clients : (number : ℕ) (ds : List Draft) → list_all is_draft ds ≡ true → plain.AreClients (messages_at (client_octets number) ds)
are_clients number [] lawful = tt
are_clients number (d ∷ ds) lawful =
    let parts = and_parts (is_draft d) (list_all is_draft ds) lawful in
    (is_line number d parts.0, (number, refl), are_clients number ds parts.1)

drafts_of : (p : Published) → is_publish p ≡ true → list_all is_draft p.messages ≡ true
unfolding is_publish
drafts_of p lawful =
    let known = nat_le p.producer max_producer in
    let drafts = list_all is_draft p.messages in
    let prefix = is_id p.client && is_journal_name p.journal && nat_le 1 (length p.messages) in
    (and_parts prefix drafts (and_parts (prefix && drafts) known lawful).0).1

-- ---- one event

landed_tied : (attempt : Attempt) (specs : Specs) (w : shards.World) (p : Published) (b : Bool) → list_all is_draft p.messages ≡ true → IsTied specs w
    → IsTied specs (record w { journals = cond b (appended attempt p.journal (content_of p) w.journals) w.journals })
landed_tied attempt specs w p true drafts t =
    happens specs specs w (plain.lands attempt p.journal (messages_of p)) t (are_clients p.producer p.messages drafts)
    (landed_specified attempt specs w true p.journal (content_of p) t.specified) t.ranked
landed_tied attempt specs w p false drafts t = record { specified = t.specified; ranked = t.ranked; happened = t.happened; may = t.may; reached = t.reached }

told_tied : (o : Option Reason) (line : ℕ) (name : List ℕ) (answer : Answer) (w : World) → IsTied w.specs w.cluster
    → IsTied (told_of o line name answer w).specs (told_of o line name answer w).cluster
told_tied None line name answer w t = t
told_tied (Some reason) line name answer w t = t

publish_tied : (line : ℕ) (p : Published) (w : World) → list_all is_draft p.messages ≡ true → IsTied w.specs w.cluster
    → IsTied (published line p w).specs (published line p w).cluster
publish_tied line p w drafts t =
    let r = request_of line p in
    let answer = answer_to r p w in
    told_tied (reason_of answer) line p.client answer (with_landed answer r p w) (landed_tied r.attempt w.specs w.cluster p (stands answer) drafts t)

settle_tied : (specs : Specs) (w : shards.World) → IsTied specs w → IsTied specs (shards.settled w)
settle_tied specs w t = happens specs specs w plain.settles t tt (settled_specified specs w t.specified) t.ranked

put_tied : (line : ℕ) (more all : Specs) (w : World) (r : Result ℕ RegistryError) → are_specs more ≡ true → join_of w.specs more ≡ Ok all → IsTied w.specs w.cluster
    → IsTied (with_specs line more w (registered all r)).specs (with_specs line more w (registered all r)).cluster
put_tied line more all w (Ok revision) good is t = with_tied w.specs more all w.cluster t good is
put_tied line more all w (Err e) good is t = t

join_tied : (line : ℕ) (more : Specs) (w : World) (r : Result Specs SpecError) → are_specs more ≡ true → join_of w.specs more ≡ r → IsTied w.specs w.cluster
    → IsTied (with_specs line more w (judged_joined more w r)).specs (with_specs line more w (judged_joined more w r)).cluster
join_tied line more w (Ok all) good is t = put_tied line more all w (put_answer more w.registry) good is t
join_tied line more w (Err e) good is t = t

registry_tied : (line : ℕ) (w : World) (r : Result Registered Reason) → IsTied w.specs w.cluster → IsTied (with_registry line w r).specs (with_registry line w r).cluster
registry_tied line w (Ok registry) t = t
registry_tied line w (Err reason) t = t

-- the journals and shards are those of the specifications
abbrev pub IsRunning : World → Type 0
IsRunning w = IsTied w.specs w.cluster

-- a converge changes neither
pub converge_tied : (answer : Option Converged) (w : World) → IsRunning w → IsRunning (converged_if answer w)
converge_tied None w t = t
converge_tied (Some answer) w t = t

pub event_tied : (s : Step) (e : Event) (w : World) → is_event e ≡ true → IsRunning w → IsRunning (after s e w)
event_tied s (Begins specs) w lawful t = t
event_tied s (Publish p) w lawful t = publish_tied s.line p w (drafts_of p lawful) t
event_tied s Settle w lawful t = settle_tied (converged_if s.answer w).specs (converged_if s.answer w).cluster (converge_tied s.answer w t)
event_tied s Converge w lawful t = converge_tied s.answer w t
event_tied s (Apply more) w lawful t = join_tied s.line more w (join_of w.specs more) (apply_valid more lawful) refl t
event_tied s (Joins j) w lawful t = registry_tied s.line w (judged_join w j) t
event_tied s (Expire name) w lawful t = registry_tied s.line w (judged_expire w name) t

-- ---- all lines

-- both steps went well
pub step : {A B : Type 0} (r : Result A ScenarioError) (f : A → Result B ScenarioError) (b : B) → (r >>= f) ≡ Ok b → (a : A) × (r ≡ Ok a) × (f a ≡ Ok b)
step (Ok a) f b is = (a, refl, is)
step (Err e) f b is = absurd (cc)

pub same_ok : {A : Type 0} (a b : A) → (let r : Result A ScenarioError = Ok a in r ≡ Ok b) → a ≡ b
same_ok a b is = cc

pub passed : {A : Type 0} (t : Bool) (r : Result A ScenarioError) (e : ScenarioError) (a : A) → cond t r (Err e) ≡ Ok a → r ≡ Ok a
passed true r e a is = is
passed false r e a is = absurd (cc)
