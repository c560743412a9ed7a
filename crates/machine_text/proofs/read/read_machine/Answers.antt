use Rattle.std.proofs.Common.{arith}
use Rattle.machine_text.proofs.{GrammarLemmas.found_is, GrammarLemmas.only_is, GrammarLemmas.none_is, FaultLemmas.refused_is}
use Rattle.machine_text.proofs.read.read_machine.Goals as goal

pub returns-in-Ok-clause-found : goal.returns-in-Ok-clause-found
returns-in-Ok-clause-found c = found_is c.args.bytes.now _ c.in-Ok.shape (omega arith) c.in-Ok.ensures.found

pub returns-in-Ok-clause-only : goal.returns-in-Ok-clause-only
returns-in-Ok-clause-only c = λ d m _. only_is c.args.bytes.now _ c.in-Ok.shape c.in-Ok.ensures.found d m

pub returns-in-Err-clause-only : goal.returns-in-Err-clause-only
returns-in-Err-clause-only c = λ d m _. none_is c.args.bytes.now _ c.in-Err.ensures.refused d m

pub returns-in-Err-clause-refused : goal.returns-in-Err-clause-refused
returns-in-Err-clause-refused c = refused_is c.args.bytes.now _ (omega arith) c.in-Err.ensures.refused
