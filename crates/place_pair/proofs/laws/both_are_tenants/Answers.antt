use Rattle.place_pair.proofs.Sharing.{first_is_tenant, second_is_tenant}
use Rattle.place_pair.proofs.laws.both_are_tenants.Goals as goal

pub returns : goal.returns
returns c = record { first = first_is_tenant; second = second_is_tenant }
