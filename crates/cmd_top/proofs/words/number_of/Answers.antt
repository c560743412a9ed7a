use Rattle.std.proofs.Common.{◌∙◌, sym, arith}
use Rattle.cmd_top.proofs.WordLemmas.{some_number, no_number}
use Rattle.cmd_top.proofs.words.number_of.Goals as goal

pub returns-in-Some : goal.returns-in-Some
returns-in-Some c = some_number c.args.word.now c.in-Some.n (sym c.as_bytes.ensures.value ∙ c.in-Some.ensures.some.0) (let le = c.in-Some.ensures.some.1 in let m = c.from.ensures in omega (arith, le, m))

pub returns-in-None : goal.returns-in-None
returns-in-None c = no_number c.args.word.now (λ n le e. c.in-None.ensures.none n (let m = c.from.ensures in omega (arith, le, m)) (c.as_bytes.ensures.value ∙ e))
