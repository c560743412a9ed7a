use Rattle.place_repair.proofs.Vocabulary.{◌≡◌, ◌<◌, sym, ◌∙◌, subst, arith, pin_wire, IsMarked, IsOfFirst}
use Rattle.place_repair.proofs.{Marking.marked_none, Marking.marked_more, Marking.first_none, Using.pins_first}
use Rattle.place_repair.proofs.uses.mark_pins.Goals as goal

pub mark-requires : goal.mark-requires
mark-requires c = subst (λ n. c.pin.result.0 < n) (sym (c.loop-i.invariant.sized ∙ c.requires.sized)) c.pin.ensures.within

pub loop-i-init : goal.loop-i-init
loop-i-init c = marked_none (IsOfFirst (λ p w. pin_wire c.args.shape p ≡ w) 0 c.args.pins.now 0) c.args.marks.now (first_none (λ p w. pin_wire c.args.shape p ≡ w) 0 c.args.pins.now)

pub loop-i-preserved : goal.loop-i-preserved
loop-i-preserved c = marked_more (λ p w. pin_wire c.args.shape p ≡ w) 0 c.args.pins.now c.loop-i.i c.args.marks.now c.loop-i.marks c.mark.new.marks c.loop-i.invariant
    (subst (λ z. IsMarked (λ w. z ≡ w) c.loop-i.marks c.mark.new.marks) c.pin.ensures.wire c.mark.ensures)

pub returns : goal.returns
returns c = pins_first c.args.shape c.args.pins.now c.loop-i.i (omega arith) (omega arith) c.args.marks.now c.loop-i.marks c.loop-i.invariant
