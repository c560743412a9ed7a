use Rattle.run_image.proofs.Vocabulary.{◌∙◌, ap, driven}
use Rattle.run_image.proofs.Vectors.{driven_is}
use Rattle.run_image.proofs.run.put_vector.Goals as goal

pub returns-clause-driven : goal.returns-clause-driven
returns-clause-driven c = c.set_pins.ensures.driven ∙ ap (driven c.args.pins.now c.args.vector.now) c.release_all.ensures.ones ∙ driven_is _ c.args.pins.now c.args.vector.now c.requires.apart
