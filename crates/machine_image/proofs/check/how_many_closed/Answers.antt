use Rattle.machine_image.proofs.Vocabulary.{arith, IsRefusedField}
use Rattle.machine_image.specs.declared.kind.ImageKind.TheVariants as kind
use Rattle.machine_image.proofs.Wrong.{many_closed, too_many_closed}
use Rattle.machine_image.proofs.check.how_many_closed.Goals as goal

pub returns-in-Ok-clause-refused : goal.returns-in-Ok-clause-refused
returns-in-Ok-clause-refused c = IsRefusedField.is_wrong c.in-Ok.n kind.Range c.in-Ok.ensures.found (many_closed c.args.most c.args.crosses c.in-Ok.n (omega (arith, c.if-n-crosses.true))) c.fault_at.ensures

pub returns-in-Ok-2-clause-refused : goal.returns-in-Ok-2-clause-refused
returns-in-Ok-2-clause-refused c = IsRefusedField.is_wrong c.in-Ok-2.n kind.Range c.in-Ok-2.ensures.found (too_many_closed c.args.most c.args.crosses c.in-Ok-2.n (omega (arith, c.if-n-most.true))) c.fault_at-in-Ok-2.ensures
