use Rattle.design_flatten.proofs.Vocabulary.{◌≡◌, map, take, line_in, lean_line, lean_in}
use Rattle.design_flatten.proofs.bodies.lean_lines.Given as goal

abbrev pub invariant-lines : goal.invariant-lines
invariant-lines l = map lean_in l.leans.items ≡ map (lean_line l.catalog.models.now) (map line_in (take l.line-index l.lines))
