use Rattle.design_blif.proofs.Vocabulary.{arith, inserted_key}
use Rattle.design_blif.proofs.NamesLemmas.{known_number, known_name, new_number, full_name}
use Rattle.design_blif.proofs.names.Names.number.Goals as goal

pub returns-in-Some-clause-number : goal.returns-in-Some-clause-number
returns-in-Some-clause-number c = known_number c.args.word.now c.self.inside.set.keys c.args.self.now c.self.view_is c.in-Some.index c.in-Some.ensures.index

pub returns-in-Some-clause-ok : goal.returns-in-Some-clause-ok
returns-in-Some-clause-ok c = known_name c.args.word.now c.self.inside.set.keys c.args.self.now c.self.view_is c.in-Some.ensures.found

pub returns-then-len-ge-MOST_SIGNALS-clause-refused : goal.returns-then-len-ge-MOST_SIGNALS-clause-refused
returns-then-len-ge-MOST_SIGNALS-clause-refused c = full_name c.args.word.now c.self.inside.set.keys c.args.self.now c.self.view_is c.in_default.ensures.found (omega arith)

pub returns-clause-number : goal.returns-clause-number
returns-clause-number c = new_number c.args.word.now c.self.inside.set.keys c.args.self.now c.self.view_is c.in_ok-index.index c.in_ok-index.ensures.index

pub returns-clause-ok : goal.returns-clause-ok
returns-clause-ok c = inserted_key c.args.word c.self.inside.set.keys c.insert_full.new.self.keys c.args.self.now c.self.view_is c.in_ok-index.ensures.keys
