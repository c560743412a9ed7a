use Rattle.design_eval.specs.Turns.{turn_at}
use Rattle.design_eval.proofs.TurnLemmas.{place-within}
use Rattle.design_eval.proofs.smalls.quick_turns.Goals as goal

pub quick_of-requires-clause-within : goal.quick_of-requires-clause-within
quick_of-requires-clause-within c = place-within c.args.covers.now c.args.turns.now c.requires.turns c.turns.k c.turns-test.true

pub quick_of-requires-clause-made : goal.quick_of-requires-clause-made
quick_of-requires-clause-made c = c.requires.made (turn_at c.args.turns.now c.turns.k).place (place-within c.args.covers.now c.args.turns.now c.requires.turns c.turns.k c.turns-test.true)
