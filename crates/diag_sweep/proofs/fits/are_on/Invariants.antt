use Rattle.diag_sweep.proofs.Vocabulary.{◌≡◌, ◌<◌, ◌++◌, length, take, All, map, Table, pins_of, tables_of, InputsOn, OutputOn, Seen}
use Rattle.diag_evidence.specs.TableRows.{output_pin}
use Rattle.diag_sweep.proofs.fits.are_on.Given as goal

abbrev pub invariant-tables : goal.invariant-tables
invariant-tables l = record {
  len : length l.seen ≡ pins_of l.forest.shape;
  within : All (λ (t : Table). t.0 < tables_of l.forest.shape) (take l.k l.tables);
  inputs : All (InputsOn l.forest l.ins) (take l.k l.tables);
  outputs : All (OutputOn l.forest) (take l.k l.tables);
  seen : Seen l.seen (l.ins ++ map (λ (t : Table). output_pin l.forest t.0) (take l.k l.tables));
}
