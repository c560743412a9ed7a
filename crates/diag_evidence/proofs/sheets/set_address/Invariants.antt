use Rattle.diag_evidence.proofs.Vocabulary.{◌≡◌, length, HasAddress}
use Rattle.diag_evidence.proofs.sheets.set_address.Given as goal

abbrev pub invariant-inputs : goal.invariant-inputs
invariant-inputs l = record {
  address : HasAddress l.forest l.t.0 l.address l.j l.drive;
  len : length l.drive ≡ length l.fn.drive;
}
