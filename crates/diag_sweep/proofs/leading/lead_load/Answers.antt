use Rattle.diag_sweep.proofs.Vocabulary.{List, refl, sym, subst, Lead, all_still, CanLead}
use Rattle.diag_sweep.proofs.{Going.goes_whole, Going.set_by, Led.lead_goes, Led.led_set, Led.where_done}
use Rattle.diag_sweep.proofs.leading.lead_load.Goals as goal

pub test_paths-requires-clause-knows : goal.test_paths-requires-clause-knows
test_paths-requires-clause-knows g c = let course = rw c.in-Some.is at c.in-Ok.ensures in rw c.deref.ensures.value course.knows

pub test_paths-requires-clause-branch : goal.test_paths-requires-clause-branch
test_paths-requires-clause-branch g c = let course = rw c.in-Some.is at c.in-Ok.ensures in rw c.deref.ensures.value course.branch

pub returns-clause-goes : goal.returns-clause-goes
returns-clause-goes g c =
    let test = c.test_paths.ensures in
    let course = subst (λ (ls : List Lead). CanLead c.args.facts.now c.args.field.now c.args.state.now.held.forest ls) (sym c.deref.ensures.value) (rw c.in-Some.is at c.in-Ok.ensures) in
    goes_whole (all_still c.args.facts.now c.test_paths.new.self (set_by _ _ c.test_paths.result (where_done c.test_paths.result test.logged led_set) test.refused) c.requires.hand.all)
    (lead_goes c.test_paths.result c.requires.hand course (c.if-not-can_pay.ensures refl) test.loads test.advances.more test.advances.explained test.marks
    (where_done c.test_paths.result test.logged (λ led. record { rows = led.rows; marks = led.marks })) test.unmarked test.stuck_each)
