use Rattle.rig_simulated.proofs.Vocabulary.{◌∙◌, false, sym, refl, arith, get_or_default}
use Rattle.rig_simulated.proofs.Queueing.{has_room, queue_more}
use Rattle.rig_simulated.proofs.queue.add.Goals as goal

pub index_mut-requires : goal.index_mut-requires
index_mut-requires c = let r = has_room c.args.queue.now c.requires.queue c.args.place c.requires.place (sym (get_or_default c.args.queue.now.marks.items c.args.place _ false c.requires.place) ∙ sym c.index.ensures ∙ c.if-index.false) in omega (arith, r)

pub returns-clause-queue : goal.returns-clause-queue
returns-clause-queue c = queue_more c.args.queue.now c.requires.queue c.args.place c.requires.place (sym (get_or_default c.args.queue.now.marks.items c.args.place _ false c.requires.place) ∙ sym c.index.ensures ∙ c.if-index.false) _ refl refl refl
