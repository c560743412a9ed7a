use Rattle.std.proofs.lemmas.Result.{IfOk-weaker}
use Rattle.place_route.proofs.Making.{layout_of, some_layout}
use Rattle.place_route.proofs.routing.route.Goals as goal

pub unwrap-layout-requires : goal.unwrap-layout-requires
unwrap-layout-requires c = some_layout _ _ c.requires.fits c.in_ok-lay_out.ensures.none

pub route_laid-requires-clause-layout : goal.route_laid-requires-clause-layout
route_laid-requires-clause-layout c = layout_of _ _ _ _ _ _ c.unwrap-layout.ensures c.in_ok-lay_out.ensures.some

pub returns-clause-routed : goal.returns-clause-routed
returns-clause-routed c = IfOk-weaker c.route_laid.result _ _ (λ i routed. routed c.requires.fits) c.route_laid.ensures.routed
