use Rattle.diag_machine.proofs.{Stepping.diagnosed_each}
use Rattle.diag_machine.proofs.whole.diagnose_with.Goals as goal

pub returns-in-Ok-clause-right_each : goal.returns-in-Ok-clause-right_each
returns-in-Ok-clause-right_each g c =
    let known = c.know_from_first.ensures.progress in
    let tested = c.in_ok-test_all.ensures in
    diagnosed_each c.the_numbering_is_sound.ensures.numbered c.tight_lists_are_fair.ensures.fair (λ f. c.kept_facts_are_sound.ensures.nothing _ f c.requires.nothing) known.advances tested.advances known.coherent.known c.in_ok-know_from_first.ensures.reached_each tested.tables_each tested.only c.in-Ok.ensures.list

pub know_from_first-requires-clause-right_each : goal.know_from_first-requires-clause-right_each
know_from_first-requires-clause-right_each g c = λ f e. c.requires.right _
