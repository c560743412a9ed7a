use Rattle.machine_shape.proofs.Vocabulary.{◌∙◌, sym, subst, IsBarAt, levels_of, IsSpot}
use Rattle.machine_shape.proofs.{Crossings.cross_placed, Meeting.cross_bar}
use Rattle.machine_shape.proofs.ends.crossing_of.Goals as goal

pub bar_of-requires : goal.bar_of-requires
bar_of-requires c = subst (IsSpot (levels_of c.args.shape)) (sym (c.steps_of.ensures ∙ c.cross_place-place.ensures.path)) (cross_placed c.args.shape c.args.cross c.requires).spot

pub returns-clause-bar : goal.returns-clause-bar
returns-clause-bar c = cross_bar c.args.shape c.args.cross _ c.requires
    (subst (λ p. IsBarAt (levels_of c.args.shape) p c.bar_of.result) (c.steps_of.ensures ∙ c.cross_place-place.ensures.path) c.bar_of.ensures.bar) c.bar_of.ensures.fits
