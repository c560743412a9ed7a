use Rattle.place_plan.proofs.Vocabulary.{◌≡◌, map, take, number_of}
use Rattle.place_plan.proofs.order.as_tables.Given as goal

abbrev pub invariant-loop-number : goal.invariant-loop-number
invariant-loop-number l = map number_of l.tables ≡ take l.number-index l.numbers
