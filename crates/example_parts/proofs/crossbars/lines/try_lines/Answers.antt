use Rattle.std.proofs.Common.{refl, ◌∙◌}
use Rattle.example_parts.proofs.Finding.{none_found}
use Rattle.example_parts.proofs.crossbars.lines.try_lines.Goals as goal

pub lines-init : goal.lines-init
lines-init g c = record {
  machine = refl;
  shape = refl;
  found = none_found _ c.args.facts.now c.in_ok-walk.walk.known c.in_ok-walk.walk.found.items (c.in_ok-walk.ensures.shape ∙ c.shape.ensures) c.in_ok-walk.ensures.known c.in_ok-walk.ensures.found c.requires.nothing.apart (λ f. c.kept_facts_are_sound.ensures.nothing _ f c.requires.nothing);
}
