use Rattle.diag_sweep.proofs.Vocabulary.{refl, all_still}
use Rattle.diag_sweep.proofs.{Going.goes_itself, Going.goes_whole, Going.set_of, HungOn.hang_goes, HungOn.is_step, HungOn.step_has, Holding.held_tested}
use Rattle.diag_sweep.proofs.Viewing.{told_unclear, told_unfit}
use Rattle.diag_sweep.proofs.telling.tell_turn.Goals as goal

pub returns-clause-goes : goal.returns-clause-goes
returns-clause-goes g c =
    let can = c.in-Ok-may_tell.ensures c.if-not-fit.false in
    let test = c.screen_wires.ensures in
    let of = rw (← c.as_slice-feet.ensures.value) at can.field in
    goes_whole (all_still c.args.facts.now c.screen_wires.new.self (set_of test.same) c.requires.hand.all)
    (hang_goes 1 c.requires.hand (c.if-not-can_pay.ensures refl) test.loads test.advances.more test.advances.explained
    (told_unfit c.args.field.now _ _ _ _ _ _ _ c.screen_wires.result of test.marks test.stay test.marked test.unmarked)
    (told_unclear c.args.field.now _ _ _ _ _ _ _ c.screen_wires.result of test.marks_too test.stay_too test.marked test.unmarked_too)
    (λ f e. test.unfit_each f e (is_step c.args.known.now.steps) (λ w on. step_has c.args.known.now.steps w (can.known w on)))
    test.unclear_each)

pub returns-in_err-screen_wires-clause-goes : goal.returns-in_err-screen_wires-clause-goes
returns-in_err-screen_wires-clause-goes g c =
    let can = c.in-Ok-may_tell.ensures c.if-not-fit.false in
    let test = c.screen_wires.ensures in
    let of = rw (← c.as_slice-feet.ensures.value) at can.field in
    goes_whole (all_still c.args.facts.now c.screen_wires.new.self (set_of test.same) c.requires.hand.all)
    (hang_goes 1 c.requires.hand (c.if-not-can_pay.ensures refl) test.loads test.advances.more test.advances.explained
    (told_unfit c.args.field.now _ _ _ _ _ _ _ c.screen_wires.result of test.marks test.stay test.marked test.unmarked)
    (told_unclear c.args.field.now _ _ _ _ _ _ _ c.screen_wires.result of test.marks_too test.stay_too test.marked test.unmarked_too)
    (λ f e. test.unfit_each f e (is_step c.args.known.now.steps) (λ w on. step_has c.args.known.now.steps w (can.known w on)))
    test.unclear_each)

pub returns-clause-forest : goal.returns-clause-forest
returns-clause-forest g c = held_tested c.was_heard.result c.screen_wires.ensures.advances.more c.in-Ok.ensures
