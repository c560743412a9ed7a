use Rattle.design_netlist.proofs.Vocabulary.{sym, arith, bit_at}
use Rattle.design_netlist.proofs.EvalLemmas.{all_fit, one_misses}
use Rattle.design_netlist.proofs.eval.row_matches.Goals as goal

pub returns-then-not-fits : goal.returns-then-not-fits
returns-then-not-fits c = let h = c.if-not-fits.ensures in sym (one_misses (bit_at c.args.values.now) c.args.row.now c.args.ins.now c.places.k c.requires.len c.places-test.true (sym h))

pub returns : goal.returns
returns c = sym (all_fit (bit_at c.args.values.now) c.args.row.now c.args.ins.now c.places.k c.requires.len (omega arith) c.places.invariant)
