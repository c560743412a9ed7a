use Rattle.std.proofs.Common.{◌∙◌}
use Rattle.design_flatten.proofs.NameLemmas.{any_view}
use Rattle.design_flatten.proofs.name_set.NameSet.contains.Goals as goal

pub returns : goal.returns
returns c = c.contains.ensures ∙ any_view c.args.name.now c.self.inside.set.keys c.args.self.now c.self.view_is
