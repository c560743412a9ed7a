use Rattle.diag_check.proofs.look.has_wires.Goals as goal

pub has_each-requires-clause-known : goal.has_each-requires-clause-known
has_each-requires-clause-known c = rw c.requires.known.shape c.requires.used

pub returns-clause-wires : goal.returns-clause-wires
returns-clause-wires c = λ yes w h. (c.has_each.ensures.0 yes w h).0

pub returns-clause-apart : goal.returns-clause-apart
returns-clause-apart c = λ yes w h. c.requires.known.of_set w (c.has_each.ensures.0 yes w h).1
