use Rattle.diag_known.proofs.Vocabulary.{cross_numbers, Adds, IsHung}
use Rattle.diag_known.proofs.Adding.{InFirst}
use Rattle.diag_known.proofs.offers.put_links.Given as goal

abbrev pub invariant-links : goal.invariant-links
invariant-links l = Adds (InFirst l.links l.k (IsHung l.reaches.items)) (cross_numbers l.fn.ties.items) (cross_numbers l.ties.items)
