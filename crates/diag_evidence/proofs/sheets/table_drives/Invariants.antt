use Rattle.diag_evidence.proofs.Vocabulary.{pins_of, AreAddressesOf, HaveWidth}
use Rattle.diag_evidence.proofs.sheets.table_drives.Given as goal

abbrev pub invariant-addresses : goal.invariant-addresses
invariant-addresses l = record {
  drives : AreAddressesOf l.forest l.t.0 l.address l.drives.items;
  width : HaveWidth (pins_of l.forest.shape) l.drives.items;
}
