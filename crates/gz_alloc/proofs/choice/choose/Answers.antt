use Rattle.std.proofs.Common.{◌≡◌, true, sym, ap, subst, ◌∙◌}
use Rattle.gz_alloc.specs.Flow.{Keeps, total, cells_of}
use Rattle.gz_alloc.specs.Ascending.{ascending}
use Rattle.gz_alloc.specs.Names.{net_of, greedy, pairs_of, IsFeasibleOf}
use Rattle.gz_alloc.proofs.Certificate.{greedy_of_size, greedy_not_size}
use Rattle.gz_alloc.proofs.PickLemmas.{pairs_feasible}
use Rattle.gz_alloc.proofs.RiseLemmas.{table_rises}
use Rattle.gz_alloc.proofs.choice.choose.Goals as goal

pub returns-then-count-greatest-clause-feasible : goal.returns-then-count-greatest-clause-feasible
returns-then-count-greatest-clause-feasible c =
    let n = total c.args.network.now (cells_of c.args.flags.now) in
    let e : total (net_of c.args.problem.now) (cells_of (greedy c.args.problem.now c.args.now.now)) ≡ n =
    ap (λ net. total net (cells_of (greedy c.args.problem.now c.args.now.now))) (sym c.requires.numbers) ∙ ap (λ f. total c.args.network.now (cells_of f)) (sym c.requires.first)
    ∙ sym c.total-count.ensures ∙ c.if-count-greatest.true ∙ c.total-greatest.ensures in
    subst (λ p. IsFeasibleOf c.args.problem.now p n) (sym (c.in_ok-kept.ensures ∙ ap (λ f. pairs_of c.args.problem.now (cells_of f)) c.requires.first))
    (greedy_of_size c.args.problem.now c.requires.problem c.args.now.now n e)

pub returns-then-count-greatest-clause-choice : goal.returns-then-count-greatest-clause-choice
returns-then-count-greatest-clause-choice c =
    let n = total c.args.network.now (cells_of c.args.flags.now) in
    let e : total (net_of c.args.problem.now) (cells_of (greedy c.args.problem.now c.args.now.now)) ≡ n =
    ap (λ net. total net (cells_of (greedy c.args.problem.now c.args.now.now))) (sym c.requires.numbers) ∙ ap (λ f. total c.args.network.now (cells_of f)) (sym c.requires.first)
    ∙ sym c.total-count.ensures ∙ c.if-count-greatest.true ∙ c.total-greatest.ensures in
    record {
      stays = λ h. absurd (c.in_ok-stays.ensures.no c.if-stays.false (subst (λ k. IsFeasibleOf c.args.problem.now c.args.now.now k) (sym c.total-greatest.ensures) h));
      greedy = λ _ _. c.in_ok-kept.ensures ∙ ap (λ f. pairs_of c.args.problem.now (cells_of f)) c.requires.first;
      aims = λ _ other _. absurd (other ((greedy_of_size c.args.problem.now c.requires.problem c.args.now.now n e).1));
    }

pub returns-then-aims-clause-choice : goal.returns-then-aims-clause-choice
returns-then-aims-clause-choice c =
    let n = total c.args.network.now (cells_of c.args.flags.now) in
    record {
      stays = λ h. absurd (c.in_ok-stays.ensures.no c.if-stays.false (subst (λ k. IsFeasibleOf c.args.problem.now c.args.now.now k) (sym c.total-greatest.ensures) h));
      greedy = λ _ s. absurd (greedy_not_size c.args.problem.now c.requires.problem c.args.now.now n
          (λ e. c.if-count-greatest.false (c.total-count.ensures ∙ ap (λ f. total c.args.network.now (cells_of f)) c.requires.first ∙ ap (λ net. total net (cells_of (greedy c.args.problem.now c.args.now.now))) c.requires.numbers ∙ e ∙ sym c.total-greatest.ensures)) s);
      aims = λ _ _ _. c.in_ok-aim.ensures.value;
    }

pub returns-clause-feasible : goal.returns-clause-feasible
returns-clause-feasible c =
    let keeps = subst (λ net. Keeps net (cells_of c.args.flags.now)) c.requires.numbers c.requires.keeps in
    let h = pairs_feasible c.args.problem.now c.requires.problem (cells_of c.args.flags.now) keeps in
    subst (λ p. IsFeasibleOf c.args.problem.now p (total c.args.network.now (cells_of c.args.flags.now))) (sym c.in_ok-found.ensures)
    (h.0, h.1 ∙ ap (λ net. total net (cells_of c.args.flags.now)) (sym c.requires.numbers))

pub returns-clause-choice : goal.returns-clause-choice
returns-clause-choice c =
    let n = total c.args.network.now (cells_of c.args.flags.now) in
    record {
      stays = λ h. absurd (c.in_ok-stays.ensures.no c.if-stays.false (subst (λ k. IsFeasibleOf c.args.problem.now c.args.now.now k) (sym c.total-greatest.ensures) h));
      greedy = λ _ s. absurd (greedy_not_size c.args.problem.now c.requires.problem c.args.now.now n
          (λ e. c.if-count-greatest.false (c.total-count.ensures ∙ ap (λ f. total c.args.network.now (cells_of f)) c.requires.first ∙ ap (λ net. total net (cells_of (greedy c.args.problem.now c.args.now.now))) c.requires.numbers ∙ e ∙ sym c.total-greatest.ensures)) s);
      aims = λ _ _ h. absurd (c.in_ok-aims.ensures.no c.if-aims.false (subst (λ k. IsFeasibleOf c.args.problem.now c.args.goal.now k) (sym c.total-greatest.ensures) h));
    }

pub returns-then-count-greatest-clause-ordered : goal.returns-then-count-greatest-clause-ordered
returns-then-count-greatest-clause-ordered c = subst (λ l. ascending l ≡ true) (sym c.in_ok-kept.ensures) (table_rises c.args.problem.now c.requires.problem (cells_of c.args.first.now))

pub returns-clause-ordered : goal.returns-clause-ordered
returns-clause-ordered c = subst (λ l. ascending l ≡ true) (sym c.in_ok-found.ensures) (table_rises c.args.problem.now c.requires.problem (cells_of c.args.flags.now))
