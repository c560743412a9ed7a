use Rattle.machine_image.specs.declared.kind.ImageKind.TheVariants as kind
use Rattle.machine_image.specs.Fields.{IsRefusedField}
use Rattle.machine_image.proofs.Wrong.{count_wrong}
use Rattle.machine_image.proofs.check.count.Goals as goal

pub returns-in-Ok-2-clause-refused : goal.returns-in-Ok-2-clause-refused
returns-in-Ok-2-clause-refused c = IsRefusedField.is_wrong c.in-Ok.n kind.Shape c.in-Ok.ensures.found (count_wrong c.args.due c.in-Ok.n c.if-n-due.false) c.fault_at.ensures
