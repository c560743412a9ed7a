use Rattle.design_eval.proofs.Vocabulary.{length, arith, turn_at}
use Rattle.design_eval.proofs.{TurnLemmas.place-within, TurnLemmas.out-below, SmallLemmas.quick-out, SmallLemmas.given-out}
use Rattle.design_eval.proofs.MarkLemmas.{marked-keeps, marked-others, marked-taken}
use Rattle.design_eval.proofs.marks.settle_turn.Goals as goal

pub quick_value-bit-requires-clause-within : goal.quick_value-bit-requires-clause-within
quick_value-bit-requires-clause-within c = place-within c.args.plan.now.covers.now c.args.plan.now.turns.now c.requires.turns c.args.k c.requires.within

pub quick_value-bit-requires-clause-made : goal.quick_value-bit-requires-clause-made
quick_value-bit-requires-clause-made c = c.requires.made (turn_at c.args.plan.now.turns.now c.args.k).place (place-within c.args.plan.now.covers.now c.args.plan.now.turns.now c.requires.turns c.args.k c.requires.within)

pub give-requires-clause-within : goal.give-requires-clause-within
give-requires-clause-within c = omega (arith, quick-out c.args.plan.now.covers.now c.args.plan.now.turns.now c.args.plan.now.quicks.now c.requires.turns c.requires.quicks c.args.k c.requires.within, out-below c.args.plan.now.covers.now c.args.plan.now.turns.now c.requires.turns c.args.k (length c.args.values.now) c.requires.within c.requires.made)

pub give-requires-clause-signal : goal.give-requires-clause-signal
give-requires-clause-signal c = omega (arith, c.requires.readers.len, quick-out c.args.plan.now.covers.now c.args.plan.now.turns.now c.args.plan.now.quicks.now c.requires.turns c.requires.quicks c.args.k c.requires.within, out-below c.args.plan.now.covers.now c.args.plan.now.turns.now c.requires.turns c.args.k (length c.args.values.now) c.requires.within c.requires.made)

pub returns-clause-kept : goal.returns-clause-kept
returns-clause-kept c =
    marked-keeps c.args.plan.now.covers.now c.args.plan.now.turns.now c.requires.turns c.args.plan.now.readers.now (length c.args.values.now) c.args.k c.quick_value-bit.result c.args.marks.now c.args.values.now
    c.give.new.marks c.give.new.values c.requires.readers c.requires.within
    (out-below c.args.plan.now.covers.now c.args.plan.now.turns.now c.requires.turns c.args.k (length c.args.values.now) c.requires.within c.requires.made) c.quick_value-bit.ensures
    (given-out c.args.plan.now.readers.now c.quick_value-bit.result _ c.args.values.now c.give.new.marks c.give.new.values _ _ (quick-out c.args.plan.now.covers.now c.args.plan.now.turns.now c.args.plan.now.quicks.now c.requires.turns c.requires.quicks c.args.k c.requires.within) c.give.ensures) c.requires.kept

pub returns-clause-others : goal.returns-clause-others
returns-clause-others c =
    marked-others c.args.plan.now.covers.now c.args.plan.now.turns.now c.requires.turns c.args.plan.now.readers.now c.args.k c.quick_value-bit.result _ c.args.values.now c.give.new.marks c.give.new.values c.requires.within
    (given-out c.args.plan.now.readers.now c.quick_value-bit.result _ c.args.values.now c.give.new.marks c.give.new.values _ _ (quick-out c.args.plan.now.covers.now c.args.plan.now.turns.now c.args.plan.now.quicks.now c.requires.turns c.requires.quicks c.args.k c.requires.within) c.give.ensures)

pub returns-clause-taken : goal.returns-clause-taken
returns-clause-taken c =
    marked-taken c.args.plan.now.covers.now c.args.plan.now.turns.now c.requires.turns c.args.plan.now.readers.now c.args.k c.quick_value-bit.result c.args.marks.now c.args.values.now c.give.new.marks c.give.new.values
    c.requires.within (out-below c.args.plan.now.covers.now c.args.plan.now.turns.now c.requires.turns c.args.k (length c.args.values.now) c.requires.within c.requires.made)
    (given-out c.args.plan.now.readers.now c.quick_value-bit.result _ c.args.values.now c.give.new.marks c.give.new.values _ _ (quick-out c.args.plan.now.covers.now c.args.plan.now.turns.now c.args.plan.now.quicks.now c.requires.turns c.requires.quicks c.args.k c.requires.within) c.give.ensures)
