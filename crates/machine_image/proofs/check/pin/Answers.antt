use Rattle.machine_image.proofs.Vocabulary.{arith, sym, ◌∙◌, IsRefusedField}
use Rattle.machine_image.specs.declared.kind.ImageKind.TheVariants as kind
use Rattle.machine_image.proofs.Wrong.{no_pin, pin_again}
use Rattle.machine_image.proofs.check.pin.Goals as goal

pub returns-then-n-marks-clause-refused : goal.returns-then-n-marks-clause-refused
returns-then-n-marks-clause-refused c = IsRefusedField.is_wrong c.in-Ok.n kind.Range c.in-Ok.ensures.found (no_pin _ c.args.before.now c.in-Ok.n (omega (arith, c.if-n-marks.true))) c.fault_at.ensures

pub returns-then-marks-n-clause-refused : goal.returns-then-marks-n-clause-refused
returns-then-marks-n-clause-refused c = IsRefusedField.is_wrong c.in-Ok.n kind.Order c.in-Ok.ensures.found (pin_again _ c.args.before.now c.in-Ok.n (omega (arith, c.if-n-marks.false)) (sym (c.requires.marks.told c.in-Ok.n (omega (arith, c.if-n-marks.false))) ∙ c.if-marks-n.true)) c.fault_at-then-marks-n.ensures
