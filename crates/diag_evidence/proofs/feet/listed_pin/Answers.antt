use Rattle.diag_evidence.proofs.Vocabulary.{◌<◌, subst, sym, pins_of}
use Rattle.diag_evidence.proofs.Footing.{listed_below, listed_at, listed_pin_below}
use Rattle.diag_evidence.proofs.feet.listed_pin.Goals as goal

pub bounds-pins-k : goal.bounds-pins-k
bounds-pins-k c = listed_below c.args.forest.now c.args.feet.now c.args.k c.args.foot c.requires.place c.args.pins.now c.requires.pins

pub returns-clause-pin : goal.returns-clause-pin
returns-clause-pin c = listed_at c.args.forest.now c.args.feet.now c.args.k c.args.foot c.requires.place c.args.pins.now c.requires.pins

pub returns-clause-within : goal.returns-clause-within
returns-clause-within c =
    subst (λ p. p < pins_of c.args.forest.now.shape) (sym (listed_at c.args.forest.now c.args.feet.now c.args.k c.args.foot c.requires.place c.args.pins.now c.requires.pins))
    (listed_pin_below c.args.forest.now c.args.feet.now c.args.k c.args.foot c.requires.place c.crosses-crosses.ensures.forest c.requires.feet)
