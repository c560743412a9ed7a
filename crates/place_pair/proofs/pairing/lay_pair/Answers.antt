use Rattle.place_pair.proofs.Vocabulary.{subst, Network, FitsInOrder, IsRoutedFor, right_image}
use Rattle.place_pair.proofs.pairing.lay_pair.Goals as goal

pub split-requires-clause-pair : goal.split-requires-clause-pair
split-requires-clause-pair c = record { first = c.requires.first; second = c.requires.second; inputs = c.requires.inputs; tables = c.requires.tables }

pub returns-in-Ok-split-clause-first_right : goal.returns-in-Ok-split-clause-first_right
returns-in-Ok-split-clause-first_right c = λ netlist f has covers. right_image c.args.first.now netlist f c.in-Ok-split.pair.first has (c.in-Ok-split.ensures.parts.first_right f covers)

pub returns-in-Ok-split-clause-second_right : goal.returns-in-Ok-split-clause-second_right
returns-in-Ok-split-clause-second_right c = λ netlist f has covers. right_image c.args.second.now netlist f c.in-Ok-split.pair.second has (c.in-Ok-split.ensures.parts.second_right f covers)

pub returns-in-Ok-split-clause-routed : goal.returns-in-Ok-split-clause-routed
returns-in-Ok-split-clause-routed c =
    let m = c.args.defects.now.shape in
    let d = c.args.defects.now.list in
    let plan = c.in-Ok-in_order_laid.placed.plan in
    record {
      plan = plan;
      fits = subst (λ (x : Network). FitsInOrder m d x plan) c.in-Ok.ensures.joint c.in-Ok-in_order_laid.ensures.plan;
      routed = subst (λ (x : Network). IsRoutedFor m d x plan c.in-Ok-split.pair.whole) c.in-Ok.ensures.joint c.in-Ok-split.ensures.routed;
    }
