use Rattle.machine_faults.proofs.Vocabulary.{◌∙◌, sym, pairs_total}
use Rattle.machine_faults.proofs.Keeping.{get_is}
use Rattle.machine_faults.proofs.entries.cell_in.Goals as goal

pub returns : goal.returns
returns c = c.copied.ensures ∙ c.get.ensures.value ∙ sym (get_is pairs_total c.args.cells.now.entries (c.args.table, c.args.address))
