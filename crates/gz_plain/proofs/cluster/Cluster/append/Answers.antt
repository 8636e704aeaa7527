use Rattle.std.proofs.Common.{◌≡◌, ◌∙◌, sym, subst, ap, List, ℕ}
use Rattle.gz_journal.specs.JournalList.{plain}
use Rattle.gz_journal.specs.declared.request.Request.{Request}
use Rattle.gz_promise.specs.Journals.{Journal, answer_at, answer_in, landing, landing_at}
use Rattle.gz_plain.specs.Places.{names_of}
use Rattle.gz_promise.specs.Names.{Distinct}
use Rattle.gz_plain.specs.Shards.{World}
use Rattle.gz_plain.proofs.Landing.{answer_is, landing_is, distinct_landing, kept_landing}
use Rattle.gz_plain.proofs.cluster.Cluster.append.Goals as goal

pub invariant_of-self-2 : goal.invariant_of-self-2
invariant_of-self-2 c =
    let js : List Journal = c.self.inside.journals in
    let new : List Journal = c.append_at.new.self in
    let is : new ≡ landing c.args.attempt c.args.name.now c.args.bytes js =
    c.in_ok-landed.ensures.ok ∙ ap (λ (i : ℕ). landing_at c.args.attempt i c.args.bytes js) c.place_of-place.ensures
    ∙ sym (landing_is c.args.attempt c.args.name.now c.args.bytes js c.self.invariant.0) in (
      subst (λ (x : List Journal). Distinct (names_of x)) (sym is) (distinct_landing c.args.attempt c.args.name.now c.args.bytes js c.self.invariant.0),
      kept_landing c.args.attempt c.args.name.now c.args.bytes js new c.self.inside.shards.items is c.self.invariant.1,
    )

pub returns-clause-answer : goal.returns-clause-answer
returns-clause-answer c =
    let r : Request = plain c.args.attempt c.args.bytes in
    let js : List Journal = c.self.inside.journals in
    c.in_ok-landed.ensures.answer
    ∙ ap (λ (i : ℕ). answer_at i r js) c.place_of-place.ensures
    ∙ sym (answer_is c.args.name.now r js)
    ∙ ap (λ (w : World). answer_in c.args.name.now r w.journals) c.self.view_is
