use Rattle.place_repair.proofs.Vocabulary.{◌++◌, sym, ap, ◌∙◌, filter, append-nil, take_all, is_gone_pin}
use Rattle.place_repair.proofs.Placing.{filter_more}
use Rattle.place_repair.proofs.seats.push_gone.Goals as goal

pub loop-i-init : goal.loop-i-init
loop-i-init c = sym (append-nil c.args.gone.now)

pub loop-i-preserved : goal.loop-i-preserved
loop-i-preserved c = c.in_ok-push_if.ensures ∙ filter_more (is_gone_pin c.args.defects.now.shape c.args.defects.now.list) c.args.pins.now c.args.gone.now c.loop-i.gone c.loop-i.i c.is_gone_pin-goes.result c.loop-i-test.true c.is_gone_pin-goes.ensures c.loop-i.invariant

pub returns : goal.returns
returns c = c.loop-i.invariant ∙ ap (λ xs. c.args.gone.now ++ filter (is_gone_pin c.args.defects.now.shape c.args.defects.now.list) xs) (take_all c.loop-i.i c.args.pins.now c.loop-i-test.false)
