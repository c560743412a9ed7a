use Rattle.machine_defects.proofs.Numerals.{shape_found}
use Rattle.machine_defects.proofs.form.counts_in.Goals as goal

pub returns-in-Some : goal.returns-in-Some
returns-in-Some c = shape_found c.args.line.now c.in-Some.numbers.now c.numbers_of.result c.in-Some.ensures c.numbers_of.ensures
