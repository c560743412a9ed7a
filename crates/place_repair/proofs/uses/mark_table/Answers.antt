use Rattle.place_repair.proofs.Vocabulary.{◌≡◌, ◌<◌, sym, ◌∙◌, subst, arith, IsTablePin, IsMarked}
use Rattle.place_repair.proofs.{Marking.marked_none, Marking.none_below, Using.table_more}
use Rattle.place_repair.proofs.uses.mark_table.Goals as goal

pub mark-requires : goal.mark-requires
mark-requires c = subst (λ n. c.pin_of.result.0 < n) (sym (c.loop-j.invariant.sized ∙ c.requires.sized)) c.pin_of.ensures.within

pub loop-j-init : goal.loop-j-init
loop-j-init c = marked_none (IsTablePin c.args.shape c.args.table.0 0) c.args.marks.now (λ w p. none_below p.0 p.1)

pub loop-j-preserved : goal.loop-j-preserved
loop-j-preserved c = table_more c.args.shape c.args.table.0 c.loop-j.j c.args.marks.now c.loop-j.marks c.mark.new.marks c.loop-j.invariant
    (subst (λ z. IsMarked (λ w. z ≡ w) c.loop-j.marks c.mark.new.marks) c.pin_of.ensures.wire c.mark.ensures)

pub returns : goal.returns
returns c = subst (λ n. IsMarked (IsTablePin c.args.shape c.args.table.0 n) c.args.marks.now c.loop-j.marks) (let e : c.loop-j.j ≡ 7 = omega arith in e) c.loop-j.invariant
