use Rattle.map_network.proofs.Vocabulary.{ℕ, ◌-◌, ◌&&◌, ◌||◌, Bool, ap, ◌∙◌, bit_and, not, cell_at}
use Rattle.map_network.proofs.{CellLemmas.cell_and, CellLemmas.cell_or, CellLemmas.cell_not, ComposeLemmas.choice_is}
use Rattle.map_network.proofs.composing.choose.Goals as goal

pub returns : goal.returns
returns c = λ a la.
    let other : ℕ = 18446744073709551615 - c.args.mask in
    cell_or (bit_and c.args.zero other) (bit_and c.args.one c.args.mask) a
    ∙ ap (λ (x : Bool). x || cell_at (bit_and c.args.one c.args.mask) a) (cell_and c.args.zero other a ∙ ap (λ (x : Bool). cell_at c.args.zero a && x) (cell_not c.args.mask a c.ranges.mask.fits la))
    ∙ ap (λ (x : Bool). (cell_at c.args.zero a && not (cell_at c.args.mask a)) || x) (cell_and c.args.one c.args.mask a)
    ∙ choice_is (cell_at c.args.mask a) (cell_at c.args.zero a) (cell_at c.args.one a)
