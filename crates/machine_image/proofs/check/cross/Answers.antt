use Rattle.machine_image.proofs.Vocabulary.{arith, IsRefusedField}
use Rattle.machine_image.specs.declared.kind.ImageKind.TheVariants as kind
use Rattle.machine_image.proofs.Wrong.{not_below, not_above}
use Rattle.machine_image.proofs.check.cross.Goals as goal

pub returns-in-Ok-clause-refused : goal.returns-in-Ok-clause-refused
returns-in-Ok-clause-refused c = IsRefusedField.is_wrong c.in-Ok.n kind.Range c.in-Ok.ensures.found (not_below c.args.crosses c.args.least c.in-Ok.n (omega (arith, c.if-n-crosses.true))) c.fault_at.ensures

pub returns-in-Ok-2-clause-refused : goal.returns-in-Ok-2-clause-refused
returns-in-Ok-2-clause-refused c = IsRefusedField.is_wrong c.in-Ok-2.n kind.Order c.in-Ok-2.ensures.found (not_above c.args.crosses c.args.least c.in-Ok-2.n (omega (arith, c.if-n-crosses.false)) (omega (arith, c.if-n-least.true))) c.fault_at-in-Ok-2.ensures
