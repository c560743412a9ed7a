use Rattle.map_network.proofs.Vocabulary.{◌∷◌, [], ◌∙◌, ap, get_or, true, Input, latch_table}
use Rattle.map_network.proofs.build.latch_table.Goals as goal

pub returns : goal.returns
unfolding latch_table
returns c =
    ap (λ ins. record { ins = ins; cells = c.first_pin.result; latched = true; init = c.args.latch.init }) c.one_source.ensures
    ∙ ap (λ cells. record { ins = get_or c.args.sources.now c.args.latch.from (Input 0) ∷ []; cells = cells; latched = true; init = c.args.latch.init }) c.first_pin.ensures
