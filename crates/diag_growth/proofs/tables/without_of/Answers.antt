use Rattle.diag_growth.proofs.Vocabulary.{◌∙◌, ap, wires_of, known_apart}
use Rattle.diag_growth.proofs.Testing.{all_without}
use Rattle.diag_growth.proofs.tables.without_of.Goals as goal

pub standing-requires : goal.standing-requires
standing-requires c = record { apart = known_apart c.in_ok-outside.outside c.requires.known (c.in_ok-outside.ensures.len ∙ ap wires_of c.requires.known.shape) c.in_ok-outside.ensures.known }

pub returns-clause-stands : goal.returns-clause-stands
returns-clause-stands c =
    let out = c.in_ok-outside.ensures in
    let on = c.in_ok-stands.ensures in
    all_without c.requires.known c.args.hextant.0 c.in_ok-outside.outside c.in_ok-stands.stands out.known out.outside out.whole on.known on.within on.whole
