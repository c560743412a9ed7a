use Rattle.machine_image.proofs.Vocabulary.{arith, IsRefusedField}
use Rattle.machine_image.specs.declared.kind.ImageKind.TheVariants as kind
use Rattle.machine_image.proofs.Wrong.{most_wrong}
use Rattle.machine_image.proofs.check.how_many_tables.Goals as goal

pub returns-in-Ok-clause-refused : goal.returns-in-Ok-clause-refused
returns-in-Ok-clause-refused c = IsRefusedField.is_wrong c.in-Ok.n kind.Range c.in-Ok.ensures.found (most_wrong c.args.tables c.in-Ok.n (omega (arith, c.if-n-tables.true))) c.fault_at.ensures
