use Rattle.std.proofs.Common.{◌<◌, All}
use Rattle.machine_shape.specs.declared.Table.{Table}
use Rattle.example_diagnoses.proofs.fields.draw_tables.Given as goal

abbrev pub invariant-tables : goal.invariant-tables
invariant-tables l = All (λ (t : Table). t.0 < l.len) l.tables.items
