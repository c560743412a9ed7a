use Rattle.design_flatten.proofs.Vocabulary.{◌∙◌, ap, map, line_in, lean_line}
use Rattle.design_flatten.proofs.bodies.body_of.Goals as goal

pub returns : goal.returns
returns c = record {
  names = c.as_slice-names.ensures;
  lines = c.in_ok-lines.ensures ∙ ap (map (lean_line c.args.catalog.now.models.now)) (ap (map line_in) c.deref.ensures.value ∙ c.in_ok-ordered.ensures);
}
