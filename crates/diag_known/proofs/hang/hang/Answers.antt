use Rattle.std.proofs.Common.{◌∙◌, sym, inr}
use Rattle.diag_known.proofs.{Settling.kept_each, Settling.marks_offered, Settling.on_ok_so, Hung.none_hung}
use Rattle.diag_known.proofs.hang.hang.Goals as goal

pub returns-in_default-found-clause-lost_each : goal.returns-in_default-found-clause-lost_each
returns-in_default-found-clause-lost_each g c = λ f e is_no. none_hung (rw c.in_default-found.is at c.in-Ok.ensures.none)

pub returns-clause-marks_each : goal.returns-clause-marks_each
returns-clause-marks_each g c =
    let more = c.toggle_hung.ensures.advances.more in
    on_ok_so c.toggle_hung.result (kept_each _ _ _ _ c.toggle_hung.result more c.toggle_hung.ensures.kept c.toggle_hung.ensures.faulty_each)
    (λ kept f e marks. marks_offered c.args.offer.now.foot.cross.0 marks more (kept f e) c.requires.offer.foot.within c.offer.ensures)

pub returns-clause-offers : goal.returns-clause-offers
returns-clause-offers g c = inr (record { fresh = sym c.keeps_cross.ensures ∙ c.if-keeps_cross.false; marks = c.offer.ensures; loads = c.toggle_hung.ensures.loads })
