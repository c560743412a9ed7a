use Rattle.std.proofs.Common.{ap, None, Some, if◌then◌else◌}
use Rattle.machine_text.specs.declared.kind.MachineKind.TheVariants.{Limit}
use Rattle.machine_text.proofs.CountLemmas.{large_made, large_fault, is_shape-made}
use Rattle.machine_text.proofs.reader.any_shape.Goals as goal

pub returns-in-Ok-clause-shape : goal.returns-in-Ok-clause-shape
returns-in-Ok-clause-shape c = (c.in-Ok.ensures.made.0, large_made c.args.said c.requires c.in-Ok.ensures.made.1)

pub returns-in-Ok-clause-steps : goal.returns-in-Ok-clause-steps
returns-in-Ok-clause-steps c = (ap (λ t. if t then None else Some Limit) (is_shape-made c.args.said (large_made c.args.said c.requires c.in-Ok.ensures.made.1)), tt)

pub returns-in-Err-clause-steps : goal.returns-in-Err-clause-steps
returns-in-Err-clause-steps c = ap (λ t. if t then None else Some Limit) (large_fault c.args.said c.in-Err.field-0 c.in-Err.ensures.refused)
