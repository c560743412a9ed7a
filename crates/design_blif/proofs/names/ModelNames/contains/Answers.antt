use Rattle.design_blif.proofs.Vocabulary.{◌∙◌, any_view}
use Rattle.design_blif.proofs.names.ModelNames.contains.Goals as goal

pub returns-in-Some : goal.returns-in-Some
returns-in-Some c = c.in-Some.ensures.found ∙ any_view c.args.word.now c.self.inside.set.keys c.args.self.now c.self.view_is

pub returns-in-None : goal.returns-in-None
returns-in-None c = c.in-None.ensures.found ∙ any_view c.args.word.now c.self.inside.set.keys c.args.self.now c.self.view_is
