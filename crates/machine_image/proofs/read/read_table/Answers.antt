use Rattle.machine_image.proofs.Vocabulary.{subst, above_fault, IsField, IsRefusedField}
use Rattle.machine_image.proofs.Heads.{any_field, table_number_refused, flags_refused, cells_refused, table_read}
use Rattle.machine_image.proofs.read.read_table.Goals as goal

pub returns-in-Err-clause-refused : goal.returns-in-Err-clause-refused
returns-in-Err-clause-refused c =
    table_number_refused c.args.shape.now c.args.bytes.now c.args.at c.args.least c.in-Err.fault
    (subst (λ z. IsRefusedField 2 (above_fault z c.args.least) c.args.bytes.now c.args.at c.in-Err.fault) c.tables.ensures.tables c.in-Err.ensures.refused)

pub returns-in-Err-flags-clause-refused : goal.returns-in-Err-flags-clause-refused
returns-in-Err-flags-clause-refused c =
    flags_refused c.args.shape.now c.args.bytes.now c.args.at c.args.least c.in-Ok.t
    (subst (λ z. IsField 2 (above_fault z c.args.least) c.args.bytes.now c.args.at c.in-Ok.t) c.tables.ensures.tables c.in-Ok.ensures.found)
    c.in-Err-flags.fault c.in-Err-flags.ensures.refused

pub returns-in-Err-take8-clause-refused : goal.returns-in-Err-take8-clause-refused
returns-in-Err-take8-clause-refused c =
    cells_refused c.args.shape.now c.args.bytes.now c.args.at c.args.least c.in-Ok.t
    (subst (λ z. IsField 2 (above_fault z c.args.least) c.args.bytes.now c.args.at c.in-Ok.t) c.tables.ensures.tables c.in-Ok.ensures.found)
    c.in-Ok-flags.flags c.in-Ok-flags.ensures.found c.in-Err-take8.fault c.in-Err-take8.ensures.refused

pub returns-clause-found : goal.returns-clause-found
returns-clause-found c =
    table_read c.args.shape.now c.args.bytes.now c.args.at c.args.least c.in-Ok.t
    (subst (λ z. IsField 2 (above_fault z c.args.least) c.args.bytes.now c.args.at c.in-Ok.t) c.tables.ensures.tables c.in-Ok.ensures.found)
    c.in-Ok-flags.flags c.in-Ok-flags.ensures.found c.in-Ok-take8.cells (any_field c.in-Ok-take8.cells c.in-Ok-take8.ensures.found c.in-Ok-take8.ensures.within)
