use Rattle.std.proofs.Common.{true, false, List, refl, sym, ap, subst}
use Rattle.diag_growth.proofs.Vocabulary.{Cross, among, cross_numbers, IsCellConfig, holds_untried, AreSeatTies}
use Rattle.machine_config.specs.declared.Setting.{Setting}
use Rattle.diag_growth.proofs.{Seating.table_by, Tested.ties_below, Tested.gained_register}
use Rattle.diag_growth.proofs.cells.test_register.Goals as goal

pub config_of-requires-clause-ties : goal.config_of-requires-clause-ties
config_of-requires-clause-ties g c = ties_below c.deref.result.now c.requires.seat
    (subst (λ (xs : List Cross). AreSeatTies c.args.seat.now (λ _. true) 6 (among (cross_numbers xs))) (sym c.deref.ensures.value) c.in-Ok.ensures)

pub returns-in-Ok-answer-clause-register_each : goal.returns-in-Ok-answer-clause-register_each
returns-in-Ok-answer-clause-register_each g c =
    let k = c.args.facts.now in
    let s = c.args.seat.now in
    let t = s.table.0 in
    let config = c.in_ok-config.config.config in
    let setting : Setting = record { cells = 0; latched = true; init = false } in
    let ties = cross_numbers c.deref.result.now in
    let tied : AreSeatTies s (λ _. true) 6 (among ties) = subst (λ (xs : List Cross). AreSeatTies s (λ _. true) 6 (among (cross_numbers xs))) (sym c.deref.ensures.value) c.in-Ok.ensures in
    let seat = c.requires.seat in
    let laid : IsCellConfig k.shape s.near s.far ties t 0 config = c.in_ok-config.ensures.laid in
    λ f e.
    let passes = c.table_tests_by_lists_pass.ensures.register _ k config s.near s.far ties t 0 setting c.in_ok-drive.drive _ laid seat.near.route seat.far.route seat.near.crosses seat.far.crosses
    c.in_ok-drive.ensures.alone refl (rw (c.pin.ensures, ap (λ v. v.config) c.switch_on.ensures) at (c.in-Ok-answer.ensures.passes_each f e)) in
    record {
      at = λ h told holds right.
          rw (c.give_back_drive.ensures, c.give_back.ensures) (gained_register _ _ t (c.in-Ok-answer.ensures.gains
          (passes.at h _ _ told (holds_untried holds) (table_by k h (holds_untried holds) s seat (λ _. true) ties tied) right)));
    }
