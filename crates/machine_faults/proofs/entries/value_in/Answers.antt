use Rattle.machine_faults.proofs.Vocabulary.{◌∙◌, sym, nat_cmp_total}
use Rattle.machine_faults.proofs.Keeping.{get_is}
use Rattle.machine_faults.proofs.entries.value_in.Goals as goal

pub returns : goal.returns
returns c = c.copied.ensures ∙ c.get.ensures.value ∙ sym (get_is nat_cmp_total c.args.values.now.entries c.args.key)
