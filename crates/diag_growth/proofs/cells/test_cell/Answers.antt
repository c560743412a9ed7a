use Rattle.diag_growth.proofs.Vocabulary.{ℕ, List, sym, subst, Cross, among, holds_untried, bit_of, AreSeatTies}
use Rattle.diag_tests.specs.Vocabulary.{cross_numbers, IsCellConfig}
use Rattle.diag_growth.proofs.{Seating.cell_by, Seating.number_is, Tested.ties_below, Tested.gained_cell}
use Rattle.diag_growth.proofs.cells.test_cell.Goals as goal

pub config_of-requires-clause-ties : goal.config_of-requires-clause-ties
config_of-requires-clause-ties g c = ties_below c.deref.result.now c.requires.seat
    (subst (λ (xs : List Cross). AreSeatTies c.args.seat.now (bit_of c.from.result) 6 (among (cross_numbers xs))) (sym c.deref.ensures.value) c.in-Ok.ensures)

pub returns-in-Ok-answer-clause-cell_each : goal.returns-in-Ok-answer-clause-cell_each
returns-in-Ok-answer-clause-cell_each g c =
    let k = c.args.facts.now in
    let s = c.args.seat.now in
    let t = s.table.0 in
    let a = c.args.address in
    let config = c.in_ok-config.config.config in
    let ties = cross_numbers c.deref.result.now in
    let tied_from : AreSeatTies s (bit_of c.from.result) 6 (among ties) = subst (λ (xs : List Cross). AreSeatTies s (bit_of c.from.result) 6 (among (cross_numbers xs))) (sym c.deref.ensures.value) c.in-Ok.ensures in
    let tied : AreSeatTies s (bit_of a) 6 (among ties) = subst (λ (b : ℕ). AreSeatTies s (bit_of b) 6 (among ties)) c.from.ensures tied_from in
    let seat = c.requires.seat in
    let laid : IsCellConfig k.shape s.near s.far ties t 0 config = c.in_ok-config.ensures.laid in
    λ f e.
    let passes = c.table_tests_by_lists_pass.ensures.cell _ k config s.near s.far ties t 0 a c.in_ok-drive.drive _ laid seat.near.route seat.far.route seat.near.crosses seat.far.crosses
    c.in_ok-drive.ensures.alone (rw c.pin.ensures at (c.in-Ok-answer.ensures.passes_each f e)) in
    record {
      at = λ h told holds right.
          rw (c.give_back_drive.ensures, c.give_back.ensures) (gained_cell _ _ t a (c.in-Ok-answer.ensures.gains
          (passes.at h _ _ (bit_of a) told (holds_untried holds) (cell_by k h (holds_untried holds) s seat (bit_of a) ties tied a (number_is a c.requires.address) right))));
    }
