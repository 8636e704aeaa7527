-- Where a journal isn't asked, nothing lands.
use Rattle.std.proofs.Common.{◌≡◌, ℕ, List, refl, ap, ◌∙◌, cond, Bool, true, false, Option, Some, None, nat_le, length}
use Rattle.gz_journal.specs.declared.request.Request.{Request}
use Rattle.gz_links.specs.Links.{framing_at}
use Rattle.gz_scenario.specs.declared.event.Publish.{Publish as Published}
use Rattle.gz_spec.specs.declared.framing.Framing.{Framing}
use Rattle.gz_client.specs.Answers.{takes_lines, refusal_in, refusal_of, answer_of, stands}
use Rattle.gz_client.specs.declared.answer.Answer.{Answer}
use Rattle.gz_client.specs.declared.answer.Answer.TheVariants.{NameUsed, NoRoute, TooLarge, NotFramed}
use Rattle.gz_client.specs.declared.answer.TheConstants.{MAX_APPEND}
use Rattle.gz_promise.specs.Journals.{answer_in, appended}
use Rattle.gz_world.specs.Worlds.{World, is_taken, refusal_to, answer_to, with_landed}

of_some : (x a : Answer) → stands x ≡ false → (let o : Option Answer = Some x in o ≡ Some a) → stands a ≡ false
of_some x a none is = cc

of_none : (a : Answer) → (let o : Option Answer = None in o ≡ Some a) → stands a ≡ false
of_none a is = absurd (cc)

at_framing : (fits takes : Bool) (a : Answer) → cond fits (cond takes None (Some NotFramed)) (Some TooLarge) ≡ Some a → stands a ≡ false
at_framing true true a is = of_none a is
at_framing true false a is = of_some NotFramed a refl is
at_framing false takes a is = of_some TooLarge a refl is

in_framing : (o : Option Framing) (len : ℕ) (a : Answer) → refusal_in o len ≡ Some a → stands a ≡ false
in_framing None len a is = of_some NoRoute a refl is
in_framing (Some framing) len a is = at_framing (nat_le len MAX_APPEND) (takes_lines framing) a is

-- what is refused doesn't stand
pub refused_stands : (taken : Bool) (o : Option Framing) (len : ℕ) (a : Answer) → refusal_of taken o len ≡ Some a → stands a ≡ false
refused_stands true o len a is = of_some NameUsed a refl is
refused_stands false o len a is = in_framing o len a is

-- so the journals stay
pub refused_lands : (r : Request) (p : Published) (w : World) (a : Answer) → refusal_to r p w ≡ Some a → with_landed (answer_to r p w) r p w ≡ w
refused_lands r p w a is =
    let none : stands a ≡ false = refused_stands (is_taken p.client w.registry) (framing_at w.specs.journals p.journal) (length r.content) a is in
    let answer : answer_to r p w ≡ a = ap (λ (o : Option Answer). answer_of o (answer_in p.journal r w.cluster.journals)) is in
    ap (λ (b : Answer). with_landed b r p w) answer
    ∙ ap (λ (b : Bool). record w { cluster = record w.cluster { journals = cond b (appended r.attempt p.journal r.content w.cluster.journals) w.cluster.journals } }) none
