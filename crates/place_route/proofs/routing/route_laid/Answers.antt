use Rattle.std.proofs.lemmas.Result.{IfOk-weaker}
use Rattle.place_route.proofs.{Making.laid_by, Needed.nothing_idle, Reading.route_is_free, Reading.route_reads, Reading.right_image}
use Rattle.place_route.proofs.routing.route_laid.Goals as goal

pub draw-requires-clause-laid : goal.draw-requires-clause-laid
draw-requires-clause-laid c = laid_by c.args.defects.now.shape c.args.defects.now.list c.args.network.now c.args.plan.now c.args.layout.now c.requires.layout

pub returns-clause-free : goal.returns-clause-free
returns-clause-free c = IfOk-weaker c.draw.result _ _ (λ i r. route_is_free c.the_numbering_is_sound.ensures.numbered c.the_numbering_is_sound.ensures.tree c.args.defects.now.shape c.args.defects.now.list c.args.network.now c.args.plan.now i c.requires.plan r) c.draw.ensures

pub returns-clause-rows : goal.returns-clause-rows
returns-clause-rows c = IfOk-weaker c.draw.result _ _ (λ i r f covers. route_reads c.the_numbering_is_sound.ensures.numbered c.the_numbering_is_sound.ensures.tree c.args.defects.now.shape c.args.defects.now.list c.args.network.now c.args.plan.now i c.requires.plan r c.requires.network f covers) c.draw.ensures

pub returns-clause-right : goal.returns-clause-right
returns-clause-right c = IfOk-weaker c.draw.result _ _ (λ i r netlist f has covers. right_image c.args.network.now netlist f i has (route_reads c.the_numbering_is_sound.ensures.numbered c.the_numbering_is_sound.ensures.tree c.args.defects.now.shape c.args.defects.now.list c.args.network.now c.args.plan.now i c.requires.plan r c.requires.network f covers)) c.draw.ensures

pub returns-clause-routed : goal.returns-clause-routed
returns-clause-routed c = IfOk-weaker c.draw.result _ _ (λ i r. nothing_idle c.the_numbering_is_sound.ensures.numbered c.the_numbering_is_sound.ensures.parents c.args.defects.now.shape c.args.defects.now.list c.args.network.now c.args.plan.now i c.requires.network c.requires.plan r) c.draw.ensures
