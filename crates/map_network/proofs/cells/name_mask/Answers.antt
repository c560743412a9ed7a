use Rattle.map_network.proofs.Vocabulary.{◌∙◌, arith, six_bits}
use Rattle.map_network.proofs.CellLemmas.{name_skip, name_here, name_ends, cell_ones, length_six}
use Rattle.map_network.proofs.cells.name_mask.Goals as goal

pub returns-then-names-k : goal.returns-then-names-k
returns-then-names-k c = λ a la. c.pin_mask.ensures a la ∙ name_here c.args.names.now c.args.name (six_bits a) (omega (arith, c.requires, length_six a)) c.names.k c.names-test.true c.if-names-k.true (c.names.invariant a la)

pub names-preserved : goal.names-preserved
names-preserved c = λ a la. name_skip c.args.names.now c.args.name (six_bits a) (omega (arith, c.requires, length_six a)) c.names.k c.names-test.true c.if-names-k.false (c.names.invariant a la)

pub returns : goal.returns
returns c = λ a la. cell_ones a la ∙ name_ends c.args.names.now c.args.name (six_bits a) (omega (arith, c.requires, length_six a)) c.names.k c.names-test.false (c.names.invariant a la)
