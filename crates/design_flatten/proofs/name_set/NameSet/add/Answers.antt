use Rattle.design_flatten.proofs.NameLemmas.{inserted_key}
use Rattle.design_flatten.proofs.name_set.NameSet.add.Goals as goal

pub returns : goal.returns
returns c = inserted_key c.args.name c.self.inside.set.keys c.insert_full.new.self.keys c.args.self.now c.self.view_is c.in_ok-insert_full.ensures.keys
