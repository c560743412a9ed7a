use Rattle.machine_faults.proofs.Vocabulary.{nat_cmp_total, exact_unsigned}
use Rattle.machine_faults.proofs.Keeping.{one_put}
use Rattle.machine_faults.proofs.entries.put_value.Goals as goal

pub returns-clause-ok : goal.returns-clause-ok
returns-clause-ok c = one_put nat_cmp_total exact_unsigned c.args.values.now.entries c.insert.new.self.entries c.args.key c.args.value c.in_ok-insert.ensures.updates.0
