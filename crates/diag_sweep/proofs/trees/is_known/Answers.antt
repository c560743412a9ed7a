use Rattle.diag_sweep.proofs.Vocabulary.{◌∙◌, sym, ap, wires_of}
use Rattle.diag_sweep.proofs.Forested.{knows}
use Rattle.diag_sweep.proofs.trees.is_known.Goals as goal

pub is_within-requires : goal.is_within-requires
is_within-requires c = c.wires.ensures.len ∙ ap wires_of (c.requires.known.shape ∙ sym c.requires.forest.shape) ∙ sym c.hung.ensures.len

pub returns-clause-all : goal.returns-clause-all
returns-clause-all c = λ yes w on. c.wires.ensures.known w (c.is_within.ensures.yes yes w (c.hung.ensures.hung w ∙ on))

pub returns-clause-knows : goal.returns-clause-knows
returns-clause-knows c = λ yes. knows c.requires.known c.requires.forest (λ w on. c.wires.ensures.known w (c.is_within.ensures.yes yes w (c.hung.ensures.hung w ∙ on)))
