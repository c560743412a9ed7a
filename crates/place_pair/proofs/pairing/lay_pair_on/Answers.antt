use Rattle.place_pair.proofs.Vocabulary.{sym, subst, Network, Fits, IsPlan, IsRoutedFor, layout_of, some_layout, right_image}
use Rattle.place_pair.proofs.pairing.lay_pair_on.Goals as goal

pub lay_out-requires-clause-plan : goal.lay_out-requires-clause-plan
lay_out-requires-clause-plan c = subst (λ (x : Network). IsPlan c.args.defects.now.shape c.args.defects.now.list x c.args.plan.now) (sym c.in_ok-network.ensures.joint) c.requires.plan

pub unwrap-layout-requires : goal.unwrap-layout-requires
unwrap-layout-requires c = some_layout _ _ (subst (λ (x : Network). Fits c.args.defects.now.shape c.args.defects.now.list x c.args.plan.now) (sym c.in_ok-network.ensures.joint) c.requires.fits) c.in_ok-lay_out.ensures.none

pub split-requires-clause-pair : goal.split-requires-clause-pair
split-requires-clause-pair c = record { first = c.requires.first; second = c.requires.second; inputs = c.requires.inputs; tables = c.requires.tables }

pub split-requires-clause-plan : goal.split-requires-clause-plan
split-requires-clause-plan c = subst (λ (x : Network). IsPlan c.args.defects.now.shape c.args.defects.now.list x c.args.plan.now) (sym c.in_ok-network.ensures.joint) c.requires.plan

pub split-requires-clause-fits : goal.split-requires-clause-fits
split-requires-clause-fits c = subst (λ (x : Network). Fits c.args.defects.now.shape c.args.defects.now.list x c.args.plan.now) (sym c.in_ok-network.ensures.joint) c.requires.fits

pub split-requires-clause-layout : goal.split-requires-clause-layout
split-requires-clause-layout c = layout_of _ _ _ _ _ _ c.unwrap-layout.ensures c.in_ok-lay_out.ensures.some

pub returns-clause-first_right : goal.returns-clause-first_right
returns-clause-first_right c = λ netlist f has covers. right_image c.args.first.now netlist f c.in_ok-pair.pair.first has (c.in_ok-pair.ensures.parts.first_right f covers)

pub returns-clause-second_right : goal.returns-clause-second_right
returns-clause-second_right c = λ netlist f has covers. right_image c.args.second.now netlist f c.in_ok-pair.pair.second has (c.in_ok-pair.ensures.parts.second_right f covers)

pub returns-clause-routed : goal.returns-clause-routed
returns-clause-routed c = subst (λ (x : Network). IsRoutedFor c.args.defects.now.shape c.args.defects.now.list x c.args.plan.now c.in_ok-pair.pair.whole) c.in_ok-network.ensures.joint c.in_ok-pair.ensures.routed
