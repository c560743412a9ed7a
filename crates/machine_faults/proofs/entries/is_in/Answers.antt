use Rattle.machine_faults.proofs.Vocabulary.{◌∙◌, sym, pairs_total}
use Rattle.machine_faults.proofs.Keeping.{contains_is}
use Rattle.machine_faults.proofs.entries.is_in.Goals as goal

pub returns : goal.returns
returns c = c.contains.ensures ∙ sym (contains_is pairs_total c.args.pairs.now.keys (c.args.low, c.args.high))
