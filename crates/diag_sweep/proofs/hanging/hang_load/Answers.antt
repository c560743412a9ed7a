use Rattle.std.proofs.Common.{refl}
use Rattle.diag_sweep.proofs.{Going.yet_itself, HungOn.hang_goes, HungOn.is_step, HungOn.step_has, HungOn.unfit_marks, HungOn.unclear_marks, Holding.held_tested}
use Rattle.diag_sweep.proofs.hanging.hang_load.Goals as goal

pub returns-clause-goes : goal.returns-clause-goes
returns-clause-goes g c =
    let test = c.test_wires.ensures in
    let of = c.if-not-are_of_field.ensures refl in
    hang_goes 3 c.requires.hand (c.if-not-can_pay.ensures refl) test.loads test.advances.more test.advances.explained
    (unfit_marks c.args.field.now _ _ _ _ _ _ _ _ _ _ c.test_wires.result of test.marks test.stay test.logged test.unmarked)
    (unclear_marks c.args.field.now _ _ _ _ _ _ _ _ _ _ c.test_wires.result of test.marks_too test.stay_too test.logged test.unmarked_too)
    (λ f e. test.unfit_each f e (is_step c.args.known.now.steps) (λ w on. step_has c.args.known.now.steps w (c.if-not-is_known.ensures.all refl w on)))
    test.unclear_each

pub returns-clause-forest : goal.returns-clause-forest
returns-clause-forest g c = held_tested c.test_wires.result c.test_wires.ensures.advances.more c.in-Ok.ensures
