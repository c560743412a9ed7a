use Rattle.std.proofs.Common.{arith}
use Rattle.rig_simulated.proofs.Naming.{some_number, no_number}
use Rattle.rig_simulated.proofs.named.number_of_word.Goals as goal

pub returns-in-Some : goal.returns-in-Some
returns-in-Some c = some_number c.args.word.now c.in-Some.n c.in-Some.ensures.some.0 (let le = c.in-Some.ensures.some.1 in let m = c.from.ensures in omega (arith, le, m))

pub returns-in-None : goal.returns-in-None
returns-in-None c = no_number c.args.word.now (λ n le e. c.in-None.ensures.none n (let m = c.from.ensures in omega (arith, le, m)) e)
