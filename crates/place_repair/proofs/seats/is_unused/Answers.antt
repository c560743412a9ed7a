use Rattle.place_repair.proofs.Vocabulary.{◌≡◌, false, get_or, sym, ap, ◌∙◌, subst, arith, refl, false≢true, IsUnusedTo}
use Rattle.place_repair.proofs.Sparing.{unused_none, unused_more}
use Rattle.place_repair.proofs.seats.is_unused.Goals as goal

pub loop-j-init : goal.loop-j-init
loop-j-init c = unused_none c.args.used.now c.args.shape c.args.table.0

pub returns-then-is_used : goal.returns-then-is_used
returns-then-is_used c = (
  λ t. absurd (false≢true t),
  λ unused. absurd (false≢true (sym (unused c.loop-j.j c.loop-j-test.true) ∙ ap (λ w. get_or c.args.used.now w false) (sym c.pin_of.ensures.wire) ∙ c.if-is_used.true)),
)

pub loop-j-preserved : goal.loop-j-preserved
loop-j-preserved c = unused_more c.args.used.now c.args.shape c.args.table.0 c.loop-j.j c.loop-j.invariant (ap (λ w. get_or c.args.used.now w false) (sym c.pin_of.ensures.wire) ∙ c.if-is_used.false)

pub returns : goal.returns
returns c = (λ t. subst (IsUnusedTo c.args.used.now c.args.shape c.args.table.0) (let e : c.loop-j.j ≡ 7 = omega arith in e) c.loop-j.invariant, λ unused. refl)
