use Rattle.map_network.proofs.Vocabulary.{ap, ◌∙◌, sym, arith, flip, together, met, six_bits}
use Rattle.map_network.proofs.CellLemmas.{cells_are}
use Rattle.map_network.proofs.cells.gate_cells.Goals as goal

pub returns-in-All : goal.returns-in-All
returns-in-All c = cells_are c.flipped.result (λ pins. flip c.args.off (together c.args.gate (met c.args.wants.now pins))) (omega arith) (λ a la. c.flipped.ensures a la ∙ ap (λ b. flip c.args.off b) (c.all_met.ensures a la) ∙ sym (ap (λ g. flip c.args.off (together g (met c.args.wants.now (six_bits a)))) c.in-All.is))

pub returns-in-Some : goal.returns-in-Some
returns-in-Some c = cells_are c.flipped-in-Some.result (λ pins. flip c.args.off (together c.args.gate (met c.args.wants.now pins))) (omega arith) (λ a la. c.flipped-in-Some.ensures a la ∙ ap (λ b. flip c.args.off b) (c.some_met.ensures a la) ∙ sym (ap (λ g. flip c.args.off (together g (met c.args.wants.now (six_bits a)))) c.in-Some.is))
