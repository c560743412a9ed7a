use Rattle.place_repair.proofs.Vocabulary.{◌<◌, sym, ◌∙◌, subst, refl, false≢true}
use Rattle.place_repair.proofs.Hanging.{is_lowest, lowest_is}
use Rattle.place_repair.proofs.nets.is_lowest.Goals as goal

pub bounds-touched-wire : goal.bounds-touched-wire
bounds-touched-wire c = subst (λ n. c.args.wire < n) (sym c.requires.touched.sized) c.requires.within

pub bounds-lows-wire : goal.bounds-lows-wire
bounds-lows-wire c = subst (λ n. c.args.wire < n) (sym c.requires.lows.sized) c.requires.within

pub returns-then-not-is_end : goal.returns-then-not-is_end
returns-then-not-is_end c = (λ t. absurd (false≢true t), λ is. sym c.if-not-is_end.true ∙ c.requires.touched.each c.args.wire is.touched)

pub returns-then-low-wire : goal.returns-then-low-wire
returns-then-low-wire c = (λ t. is_lowest c.args.config.now.config (c.the_numbering_is_sound.ensures.numbered c.args.config.now.config.shape) c.shape-shape.ensures.right c.args.lows.now c.requires.lows c.args.wire (c.requires.touched.only c.args.wire c.if-not-is_end.false) c.if-low-wire.true, λ is. refl)

pub returns : goal.returns
returns c = (λ t. absurd (false≢true t), λ is. absurd (c.if-low-wire.false (lowest_is c.args.config.now.config (c.the_numbering_is_sound.ensures.numbered c.args.config.now.config.shape) c.shape-shape.ensures.right c.args.lows.now c.requires.lows c.args.wire is)))
