use Rattle.diag_growth.proofs.Vocabulary.{◌≡◌, among, cross_numbers, halves, bit_of, AreSeatTies}
use Rattle.diag_growth.proofs.ties.set_ties.Given as goal

abbrev pub invariant-inputs : goal.invariant-inputs
invariant-inputs l = record {
  ties : AreSeatTies l.seat (bit_of l.address) l.input (among (cross_numbers l.ties.items));
  rest : l.rest ≡ halves l.address l.input;
}
