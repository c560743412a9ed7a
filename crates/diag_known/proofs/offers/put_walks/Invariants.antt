use Rattle.diag_known.proofs.Vocabulary.{cross_numbers, Adds, IsOn}
use Rattle.diag_known.proofs.Adding.{InFirst}
use Rattle.diag_known.proofs.offers.put_walks.Given as goal

abbrev pub invariant-routes : goal.invariant-routes
invariant-routes l = Adds (InFirst l.routes l.k IsOn) (cross_numbers l.fn.ties.items) (cross_numbers l.ties.items)
