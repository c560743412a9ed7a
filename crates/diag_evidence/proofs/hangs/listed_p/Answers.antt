use Rattle.diag_evidence.proofs.Vocabulary.{◌<◌, subst, sym, pins_of, over_of, overs}
use Rattle.diag_evidence.proofs.{Footing.listed_below, Footing.listed_at, Footing.listed_pin_below, Footing.over_at, Hanging.overs_feet}
use Rattle.diag_evidence.proofs.hangs.listed_p.Goals as goal

pub bounds-pins-k : goal.bounds-pins-k
bounds-pins-k c = listed_below c.args.forest.now (overs c.args.hangs.now) c.args.k (over_of c.args.hang) (over_at c.args.hangs.now c.args.k c.args.hang c.requires.place) c.args.pins.now c.requires.pins

pub returns-clause-pin : goal.returns-clause-pin
returns-clause-pin c = listed_at c.args.forest.now (overs c.args.hangs.now) c.args.k (over_of c.args.hang) (over_at c.args.hangs.now c.args.k c.args.hang c.requires.place) c.args.pins.now c.requires.pins

pub returns-clause-within : goal.returns-clause-within
returns-clause-within c =
    let at = over_at c.args.hangs.now c.args.k c.args.hang c.requires.place in
    subst (λ p. p < pins_of c.args.forest.now.shape) (sym (listed_at c.args.forest.now (overs c.args.hangs.now) c.args.k (over_of c.args.hang) at c.args.pins.now c.requires.pins))
    (listed_pin_below c.args.forest.now (overs c.args.hangs.now) c.args.k (over_of c.args.hang) at c.crosses-crosses.ensures.forest (overs_feet c.args.hangs.now c.requires.over))
