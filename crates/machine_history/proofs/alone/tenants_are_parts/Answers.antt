use Rattle.machine_history.proofs.Sharing.{tenant_of_itself, uses_there}
use Rattle.machine_history.proofs.alone.tenants_are_parts.Goals as goal

pub returns : goal.returns
returns c = record { itself = tenant_of_itself; uses = λ whole tenant w is used. uses_there whole tenant is w used }
