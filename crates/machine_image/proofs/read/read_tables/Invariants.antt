use Rattle.machine_image.proofs.Vocabulary.{◌≡◌, ◌-◌, length, tables_of, AreTables}
use Rattle.machine_image.proofs.read.read_tables.Given as goal

abbrev pub invariant-tables : goal.invariant-tables
invariant-tables l = AreTables l.fn.config.config.shape l.bytes l.fn.at l.at l.count (l.count - l.counter) l.least l.config.config × (length l.config.config.tables ≡ tables_of l.fn.config.config.shape) × (l.config.config ≡ record l.fn.config.config { tables = l.config.config.tables }) × (l.shape ≡ l.fn.config.config.shape)
