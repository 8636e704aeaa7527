-- A world: what has happened, and what came of it: the specifications, the key space with those who joined, where the
-- journals are placed, the clients, what was told of the events, and the journals and shards. And what an event makes of it.
use Rattle.std.specs.Prelude.{◌≡◌, ℕ, ◌||◌, List, [], ◌∷◌, ◌++◌, length, Option, Some, None, Result, Ok, Err, Bool, true, false, if◌then◌else◌, ⊤}
use Rattle.std.specs.List.{list_all, list_any}
use Rattle.gz_spec.specs.Reserved.{is_reserved}
use Rattle.gz_links.specs.Links.{framing_at}
use Rattle.gz_links.specs.Joins.{join_of}
use Rattle.gz_spec.specs.Records.{Specs}
use Rattle.gz_links.specs.declared.error.SpecError.{SpecError}
use Rattle.gz_keyspace.specs.declared.formats.Joined.{Joined}
use Rattle.gz_keyspace.specs.Keys.{same_key, keys_after}
use Rattle.gz_registry.specs.Registered.{Registered, was_member, registry_start, put_answer, after_put, join_answer, after_join, expire_answer, after_expiry, after_try, IsOfNoMember}
use Rattle.gz_converge.specs.declared.answer.Converged.{Converged}
use Rattle.gz_converge.specs.declared.txn.Txn.{Txn}
use Rattle.gz_converge.specs.Views.{View, view_of}
use Rattle.gz_converge.specs.Converged.{Pairs, Converges}
use Rattle.gz_registry.specs.declared.error.RegistryError.{RegistryError}
use Rattle.gz_registry.specs.declared.error.RegistryError.TheVariants as registry
use Rattle.gz_scenario.specs.Lawful.{is_start, is_event}
use Rattle.gz_scenario.specs.declared.event.Publish.{Publish as Published}
use Rattle.gz_scenario.specs.declared.event.MemberKind.{MemberKind}
use Rattle.gz_scenario.specs.declared.event.MemberKind.TheVariants.{Broker, Consumer}
use Rattle.gz_scenario.specs.declared.event.Join.{Join}
use Rattle.gz_scenario.specs.declared.event.Event.{Event}
use Rattle.gz_scenario.specs.declared.event.Event.TheVariants.{Specs as Begins, Publish, Settle, Converge, Apply, Join as Joins, Expire}
use Rattle.gz_client.specs.Answers.{refusal_of, answer_of, stands}
use Rattle.gz_client.specs.Requests.{request_of}
use Rattle.gz_client.specs.declared.answer.Answer.{Answer}
use Rattle.gz_client.specs.declared.answer.Answer.TheVariants as client
use Rattle.gz_journal.specs.declared.request.Request.{Request}
use Rattle.gz_promise.specs.Journals.{Journal, answer_in, appended}
use Rattle.gz_plain.specs.Shards as plain
use Rattle.gz_world.specs.declared.reply.Reason.{Reason}
use Rattle.gz_world.specs.declared.reply.Reason.TheVariants.{NameUsed, NoRoute, BadSpecs, MembersFull, NoMember, KeysEnd}
use Rattle.gz_world.specs.declared.reply.Told.{Told}
use Rattle.gz_world.specs.declared.reply.Told.TheVariants.{Replied, Refused}
use Rattle.gz_world.specs.declared.reply.Applied.{Applied}
use Rattle.gz_world.specs.declared.reply.Applied.TheVariants as applied
use Rattle.gz_world.specs.Starts.{cluster_start, cluster_with}

-- A step of a run: the line of its event, and what the converge answered with which the event begins, where it begins with
-- one. Where things are placed is a choice of the allocator, so a step says what was chosen.
pub record Step : Type 0 where
  pub line : ℕ
  pub answer : Option Converged

-- It began with specifications, and these events happened then, each in its step. What came of that: the specifications
-- have the journals and shards of now, and the members of the start; the goal is where the last converge placed the
-- journals. The clients are those that were answered.
pub record World : Type 0 where
  pub begun : Specs
  pub events : List (Step × Event)
  pub specs : Specs
  pub registry : Registered
  pub goal : Pairs
  pub clients : List (List ℕ)
  pub told : List Told
  pub cluster : plain.World

-- what specifications start: nothing has happened yet, and nothing was told
abbrev pub world_start : Specs → World
world_start specs = record { begun = specs; events = []; specs = specs; registry = registry_start specs; goal = []; clients = []; told = []; cluster = cluster_start specs }

-- ---- clients

-- a client of this name was answered
abbrev pub has_asked : List ℕ → List (List ℕ) → Bool
has_asked name clients = list_any (same_key name) clients

abbrev pub with_client : List ℕ → List (List ℕ) → List (List ℕ)
with_client name clients = if has_asked name clients then clients else clients ++ name ∷ []

-- ---- refusals

-- the event of a line is refused, and nothing else happens
abbrev pub refused : ℕ → Reason → World → World
refused line reason w = record w { told = w.told ++ Refused line reason ∷ [] }

-- ---- a publish

-- the name isn't free: it is or was a member's, or is kept for the program's own
abbrev pub is_taken : List ℕ → Registered → Bool
is_taken name registry = was_member name registry.members || is_reserved name

-- why a journal isn't asked to append the request's content, where it isn't
abbrev pub refusal_to : Request → Published → World → Option Answer
refusal_to r p w = refusal_of (is_taken p.client w.registry) (framing_at w.specs.journals p.journal) (length r.content)

-- What a client is told of its request: why the journal isn't asked, where it isn't, and otherwise what the journal judges
-- of it, by its entries.
abbrev pub answer_to : Request → Published → World → Answer
answer_to r p w = answer_of (refusal_to r p w) (answer_in p.journal r w.cluster.journals)

-- where the answer says so, the content is one entry of the request's attempt behind the journal's, and nothing else changes
abbrev pub landed : Answer → List ℕ → Request → List Journal → List Journal
landed answer journal r js = if stands answer then appended r.attempt journal r.content js else js

abbrev pub with_landed : Answer → Request → Published → World → World
with_landed answer r p w = record w { cluster = record w.cluster { journals = landed answer p.journal r w.cluster.journals } }

-- A name that isn't free refuses the event, and so does a journal that isn't there.
abbrev pub reason_of : Answer → Option Reason
reason_of client.NameUsed = Some NameUsed
reason_of client.NoRoute = Some NoRoute
reason_of client.TooLarge = None
reason_of client.NotFramed = None
reason_of (client.Judged judged) = None

-- an answer is told, and its client has asked from then on
abbrev pub replied : ℕ → List ℕ → Answer → World → World
replied line name answer w = record w { clients = with_client name w.clients; told = w.told ++ Replied line name answer ∷ [] }

abbrev pub told_of : Option Reason → ℕ → List ℕ → Answer → World → World
told_of None line name answer w = replied line name answer w
told_of (Some reason) line name answer w = refused line reason w

abbrev pub answered : Answer → Request → ℕ → Published → World → World
answered answer r line p w = told_of (reason_of answer) line p.client answer (with_landed answer r p w)

-- What a publish makes of the world. Its request has the number of its line.
abbrev pub published : ℕ → Published → World → World
published line p w = answered (answer_to (request_of line p) p w) (request_of line p) line p w

-- ---- more specifications

-- Why the key space refuses. Running out of memory is no refusal, so what is said of it here is never told.
abbrev pub registry_reason : RegistryError → Reason
registry_reason registry.MembersFull = MembersFull
registry_reason registry.NoMember = NoMember
registry_reason registry.KeysEnd = KeysEnd
registry_reason registry.NoMemory = KeysEnd

-- the key space's answer, where there is nothing else to refuse
abbrev pub registered : {A : Type 0} → A → Result ℕ RegistryError → Result A Reason
registered a (Ok revision) = Ok a
registered a (Err e) = Err (registry_reason e)

abbrev pub judged_joined : Specs → World → Result Specs SpecError → Result Specs Reason
judged_joined more w (Err e) = Err BadSpecs
judged_joined more w (Ok all) = registered all (put_answer more w.registry)

-- all specifications together; refused where these can't be joined to those that are there, and then by the key space
abbrev pub judged_apply : World → Specs → Result Specs Reason
judged_apply w more = judged_joined more w (join_of w.specs more)

-- what is put into the key space, and new journals and shards with those that are there
abbrev pub with_specs : ℕ → Specs → World → Result Specs Reason → World
with_specs line more w (Ok all) = record w {
  specs = all;
  registry = after_put more w.registry;
  cluster = cluster_with w.specs more all w.cluster;
}
with_specs line more w (Err reason) = refused line reason w

-- ---- members that join and expire

abbrev pub is_consumer : MemberKind → Bool
is_consumer Broker = false
is_consumer Consumer = true

abbrev pub joined_of : Join → Joined
joined_of j = record { consumer = is_consumer j.kind; spec = j.member }

-- The member joins, unless its name is taken, or a client of this name has asked; and then by the key space.
abbrev pub judged_join : World → Join → Result Registered Reason
judged_join w j =
    if is_taken j.member.id w.registry || has_asked j.member.id w.clients then Err NameUsed
    else registered (after_join (joined_of j) w.registry) (join_answer w.registry)

-- the member's lease ends, where it is live
abbrev pub judged_expire : World → List ℕ → Result Registered Reason
judged_expire w name = registered (after_expiry name w.registry) (expire_answer name w.registry)

-- who is there changes, and nothing else
abbrev pub with_registry : ℕ → World → Result Registered Reason → World
with_registry line w (Ok registry) = record w { registry = registry }
with_registry line w (Err reason) = refused line reason w

-- ---- a converge

-- what the key space says
abbrev pub keys_say : World → View
keys_say w = view_of (keys_after w.registry.keys.changes)

-- the key space after these transactions, one after another, each where it can be made
abbrev pub after_tries : List Txn → Registered → Registered
after_tries [] r = r
after_tries (t ∷ ts) r = after_tries ts (after_try t.compare t.write r)

-- no transaction writes a member's key
abbrev pub AreOfNoMember : List Txn → Type 0
AreOfNoMember [] = ⊤
AreOfNoMember (t ∷ ts) = IsOfNoMember t.write × AreOfNoMember ts

-- the transactions of the answer are made, and its placement of the journals is the next goal
abbrev pub converged : Converged → World → World
converged answer w = record w { registry = after_tries answer.txns w.registry; goal = answer.goal }

-- so it is where there is an answer
abbrev pub converged_if : Option Converged → World → World
converged_if None w = w
converged_if (Some answer) w = converged answer w

-- there is an answer, and it is one of a converge of what the key space says
abbrev pub IsConverge : Option Converged → World → Type 0
IsConverge None w = ⊥
IsConverge (Some answer) w = Converges (keys_say w) w.goal answer

-- An event that begins with a converge has an answer, and no other has one.
abbrev pub IsAnswered : Option Converged → Event → World → Type 0
IsAnswered answer (Begins specs) w = answer ≡ None
IsAnswered answer (Publish p) w = answer ≡ None
IsAnswered answer Settle w = IsConverge answer w
IsAnswered answer Converge w = IsConverge answer w
IsAnswered answer (Apply more) w = answer ≡ None
IsAnswered answer (Joins j) w = answer ≡ None
IsAnswered answer (Expire name) w = answer ≡ None

-- ---- an event

-- Everything that is due happens.
abbrev pub settled : World → World
settled w = record w { cluster = plain.settled w.cluster }

-- What comes of the event of a line, with this answer of its converge. A settle begins with a converge. Specifications come
-- on the first line alone; on another one they would change nothing.
abbrev pub done : ℕ → Option Converged → Event → World → World
done line answer (Begins specs) w = w
done line answer (Publish p) w = published line p w
done line answer Settle w = settled (converged_if answer w)
done line answer Converge w = converged_if answer w
done line answer (Apply more) w = with_specs line more w (judged_apply w more)
done line answer (Joins j) w = with_registry line w (judged_join w j)
done line answer (Expire name) w = with_registry line w (judged_expire w name)

-- what the event of a step makes of the world: it has happened
abbrev pub after : Step → Event → World → World
after step e w = record (done step.line step.answer e w) { events = w.events ++ (step, e) ∷ [] }

-- what events make of it, each in its step, one after another
abbrev pub after_all : List (Step × Event) → World → World
after_all [] w = w
after_all (h ∷ hs) w = after_all hs (after h.0 h.1 w)

-- A world that the event of this line may make of another one: what it makes with some answer of a converge.
pub record MayFollow (line : ℕ) (e : Event) (w v : World) : Type 0 where
  pub answer : Option Converged
  pub answered : IsAnswered answer e w
  pub made : v ≡ after (record { line = line; answer = answer }) e w

-- ---- a run

-- each of these is an event that reading accepts
abbrev pub are_events : List (Step × Event) → Bool
are_events hs = list_all (λ h. is_event h.1) hs

-- each answer is one of a converge of what the key space said before its event
abbrev pub AreAnswered : List (Step × Event) → World → Type 0
AreAnswered [] w = ⊤
AreAnswered (h ∷ hs) w = IsAnswered h.0.answer h.1 w × AreAnswered hs (after h.0 h.1 w)

-- A world of a run is what its own events made of the specifications that it began with, each with an answer that a
-- converge may give, and all of these are such as reading accepts.
pub record IsRun (w : World) : Type 0 where
  pub start : is_start w.begun ≡ true
  pub lawful : are_events w.events ≡ true
  pub answered : AreAnswered w.events (world_start w.begun)
  pub reached : w ≡ after_all w.events (world_start w.begun)

-- ---- what became of an event

abbrev pub applied_if : {A : Type 0} → Result A Reason → Applied
applied_if (Ok a) = applied.Done
applied_if (Err reason) = applied.Refused reason

abbrev pub applied_unless : Option Reason → Applied
applied_unless None = applied.Done
applied_unless (Some reason) = applied.Refused reason

-- Whether the event of a line was done or refused. A converge is done, also where a transaction of it can't be made.
abbrev pub applied_of : ℕ → Event → World → Applied
applied_of line (Begins specs) w = applied.Done
applied_of line (Publish p) w = applied_unless (reason_of (answer_to (request_of line p) p w))
applied_of line Settle w = applied.Done
applied_of line Converge w = applied.Done
applied_of line (Apply more) w = applied_if (judged_apply w more)
applied_of line (Joins j) w = applied_if (judged_join w j)
applied_of line (Expire name) w = applied_if (judged_expire w name)
