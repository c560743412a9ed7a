use Rattle.machine_image.specs.declared.kind.ImageKind.TheVariants as kind
use Rattle.machine_image.specs.Fields.{IsRefusedField}
use Rattle.machine_image.proofs.Wrong.{magic_wrong}
use Rattle.machine_image.proofs.check.magic.Goals as goal

pub returns-in-Ok-2-clause-refused : goal.returns-in-Ok-2-clause-refused
returns-in-Ok-2-clause-refused c = IsRefusedField.is_wrong c.in-Ok.n kind.Magic c.in-Ok.ensures.found (magic_wrong c.in-Ok.n c.if-n-eq-MAGIC.false) c.fault_at.ensures
