use Rattle.machine_shape.proofs.Vocabulary.{sym, ◌∙◌, subst, levels_of, IsBarAt, IsSpot}
use Rattle.machine_shape.proofs.{Numbering.way_is, Barred.bar_is}
use Rattle.machine_shape.proofs.numbers.node_bar.Goals as goal

pub bar_of-requires : goal.bar_of-requires
bar_of-requires c = subst (IsSpot (levels_of c.args.shape)) (sym (c.steps_of.ensures ∙ c.node_way-way.ensures)) (way_is c.args.shape c.args.node c.requires).0

pub returns : goal.returns
returns c = bar_is c.args.shape c.args.node _ c.requires
    (subst (λ p. IsBarAt (levels_of c.args.shape) p c.bar_of.result) (c.steps_of.ensures ∙ c.node_way-way.ensures) c.bar_of.ensures.bar) c.bar_of.ensures.fits
