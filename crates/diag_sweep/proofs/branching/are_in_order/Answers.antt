use Rattle.std.proofs.Common.{◌<◌, length, refl, arith}
use Rattle.diag_sweep.proofs.Coursing.{order_first, order_more}
use Rattle.diag_sweep.proofs.branching.are_in_order.Goals as goal

pub leads-init : goal.leads-init
leads-init c = record { order = order_first _ c.args.leads.now }

pub leads-preserved : goal.leads-preserved
leads-preserved c =
    let test = c.if-not-ends_anew.ensures in
    let below : c.leads.k < length c.args.leads.now = omega arith in
    record { order = order_more below c.index-leads-k.is c.leads.invariant.order (test.own refl) (test.anew refl) (test.stays refl) (test.both refl) }

pub returns-clause-own : goal.returns-clause-own
returns-clause-own c = λ _ j d less. c.leads.invariant.order.own j d (omega (arith, less))

pub returns-clause-later : goal.returns-clause-later
returns-clause-later c = λ _ i j d lower less. c.leads.invariant.order.later i j d lower (omega (arith, less))
