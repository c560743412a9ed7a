use Rattle.map_eval.specs.Starting.{HaveAddressesTo}
use Rattle.map_eval.proofs.refreshing.refresh_addresses.Given as goal

abbrev pub invariant-tables : goal.invariant-tables
invariant-tables l = HaveAddressesTo l.network l.inputs l.values l.j l.addresses
