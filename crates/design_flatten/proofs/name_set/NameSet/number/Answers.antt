use Rattle.std.proofs.Common.{◌∙◌}
use Rattle.design_flatten.proofs.NameLemmas.{known_number, absent_number}
use Rattle.design_flatten.proofs.name_set.NameSet.number.Goals as goal

pub returns-in-Some : goal.returns-in-Some
returns-in-Some c = known_number c.args.name.now c.self.inside.set.keys c.args.self.now c.self.view_is c.in-Some.number c.in-Some.ensures.index

pub returns-in-None : goal.returns-in-None
returns-in-None c = c.len.ensures.len ∙ absent_number c.args.name.now c.self.inside.set.keys c.args.self.now c.self.view_is c.in-None.ensures.index
