use Rattle.diag_known.proofs.Vocabulary.{◌≡◌, cross_numbers, Adds}
use Rattle.diag_known.proofs.Adding.{InFirst}
use Rattle.diag_known.proofs.offers.put_steps.Given as goal

abbrev pub invariant-steps : goal.invariant-steps
invariant-steps l = Adds (InFirst l.route.crosses l.k (λ c x. c ≡ x)) (cross_numbers l.fn.ties.items) (cross_numbers l.ties.items)
