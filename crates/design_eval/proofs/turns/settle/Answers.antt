use Rattle.design_eval.proofs.Vocabulary.{length, arith, subst, sym, cover_at, IsCoverOver, turn_at}
use Rattle.design_eval.proofs.TurnLemmas.{place-within, out-below, turn-settles, turns-settle}
use Rattle.design_eval.proofs.turns.settle.Goals as goal

pub value_of-requires-clause-within : goal.value_of-requires-clause-within
value_of-requires-clause-within c = place-within c.args.covers.now c.args.turns.now c.requires.turns c.turns.k c.turns-test.true

pub value_of-requires-clause-made : goal.value_of-requires-clause-made
value_of-requires-clause-made c =
    let place = (turn_at c.args.turns.now c.turns.k).place in
    subst (IsCoverOver (cover_at c.args.covers.now place)) (sym c.turns.invariant.len) (c.requires.made place (place-within c.args.covers.now c.args.turns.now c.requires.turns c.turns.k c.turns-test.true))

pub bounds-values-turn : goal.bounds-values-turn
bounds-values-turn c = omega (arith, c.turns.invariant.len, out-below c.args.covers.now c.args.turns.now c.requires.turns c.turns.k (length c.args.values.now) c.turns-test.true c.requires.made)

pub turns-preserved : goal.turns-preserved
turns-preserved c = turn-settles c.args.covers.now c.args.turns.now c.requires.turns c.turns.k c.args.values.now c.turns.values c.value_of.result c.turns-test.true c.requires.made c.turns.invariant c.value_of.ensures

pub returns : goal.returns
returns c = turns-settle c.args.covers.now c.args.turns.now c.requires.turns c.turns.k c.args.values.now c.turns.values (omega arith) (omega arith) c.turns.invariant
