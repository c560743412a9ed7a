use Rattle.design_blif.proofs.NamesLemmas.{pushed_key}
use Rattle.design_blif.proofs.names.ModelNames.push.Goals as goal

pub returns : goal.returns
returns c = pushed_key c.args.word c.self.inside.set.keys c.insert_full.new.self.keys c.args.self.now c.self.view_is c.in_ok-insert_full.ensures.keys c.requires
