use Rattle.design_netlist.proofs.Vocabulary.{◌≡◌, length, AreDriversBelow}
use Rattle.design_netlist.proofs.drives.drivers_of.Given as goal

abbrev pub invariant-covers : goal.invariant-covers
invariant-covers l = record { len : length l.drivers.items ≡ l.count; drivers : AreDriversBelow l.covers l.i l.count l.drivers.items }
