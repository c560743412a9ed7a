use Rattle.cmd_steps.proofs.AskedLemmas.{does-none, does-job}
use Rattle.cmd_top.proofs.program.bench_word.Goals as goal

pub returns-in-Some : goal.returns-in-Some
returns-in-Some g c =
    let is = rw c.in-Some.is at c.number_of.ensures in
    λ store. rw (← is) (does-job _ _ _ _ c.bench.ensures.lawful (c.bench.ensures.does store))

pub returns-in-None : goal.returns-in-None
returns-in-None g c =
    let is = rw c.in-None.is at c.number_of.ensures in
    λ store. rw (← is) (does-none _)
