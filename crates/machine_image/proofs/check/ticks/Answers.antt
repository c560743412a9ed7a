use Rattle.machine_image.proofs.Vocabulary.{arith, IsRefusedField}
use Rattle.machine_image.specs.declared.kind.ImageKind.TheVariants as kind
use Rattle.machine_image.proofs.Wrong.{no_ticks, many_ticks}
use Rattle.machine_image.proofs.check.ticks.Goals as goal

pub returns-in-Ok-eq0-clause-refused : goal.returns-in-Ok-eq0-clause-refused
returns-in-Ok-eq0-clause-refused c = IsRefusedField.is_wrong c.in-Ok-eq0.field-0 kind.Range c.in-Ok-eq0.ensures.found (no_ticks c.args.most c.in-Ok-eq0.field-0 c.in-Ok-eq0.field-0-test) c.fault_at.ensures

pub returns-in-Ok-clause-refused : goal.returns-in-Ok-clause-refused
returns-in-Ok-clause-refused c = IsRefusedField.is_wrong c.in-Ok.n kind.Range c.in-Ok.ensures.found (many_ticks c.args.most c.in-Ok.n (omega (arith, c.if-n-most.true))) c.fault_at-in-Ok.ensures
