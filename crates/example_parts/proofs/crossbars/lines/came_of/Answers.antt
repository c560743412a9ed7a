use Rattle.example_parts.proofs.Vocabulary.{◌∙◌, sym, known_later}
use Rattle.example_parts.proofs.Finding.{found_later, all_held}
use Rattle.example_parts.proofs.crossbars.lines.came_of.Goals as goal

pub returns-in-toggle-clause-found : goal.returns-in-toggle-clause-found
returns-in-toggle-clause-found g c = found_later c.asked.ensures.advances.narrows c.asked.ensures.advances.explained (record { kept = c.asked.ensures.advances.more; known = λ w h. h }) (known_later c.asked.ensures.advances.more c.requires.found.known) (λ w on. c.requires.found.all w (sym (c.asked.ensures.set w) ∙ on)) c.requires.found

pub are_separated-requires-clause-held : goal.are_separated-requires-clause-held
are_separated-requires-clause-held g c = all_held c.requires.found
