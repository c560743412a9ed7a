use Rattle.diag_sweep.proofs.Vocabulary.{◌∙◌, ap, refl, pins_of}
use Rattle.diag_sweep.proofs.telling.may_tell.Goals as goal

pub returns : goal.returns
returns c = λ _. record {
  knows = c.if-not-is_known.ensures.knows refl;
  known = c.if-not-is_known.ensures.all refl;
  feet = c.in_ok-are_feet.ensures c.if-not-branch.false;
  field = c.if-not-are_of_field.ensures refl;
  reads = c.if-not-has_room.ensures refl ∙ ap pins_of c.shape.ensures;
}
