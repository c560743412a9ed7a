use Rattle.rig_simulated.proofs.Vocabulary.{◌∙◌, get_or, ap, refl, arith, length-set}
use Rattle.rig_simulated.proofs.Queueing.{due_place, left_less, none_left, emptied}
use Rattle.rig_simulated.proofs.queue.empty.Goals as goal

pub index_mut-requires : goal.index_mut-requires
index_mut-requires c =
    let at = due_place c.args.queue.now c.requires c.due.i c.index-place.result.now c.due-test.true (c.index-place.ensures ∙ ap (λ ds. get_or ds c.due.i c.index-place.result.now) c.due.invariant.due) in
    let w = at.1 in
    omega (arith, w, c.due.invariant.len)

pub due-preserved : goal.due-preserved
due-preserved c =
    let at = due_place c.args.queue.now c.requires c.due.i c.index-place.result.now c.due-test.true (c.index-place.ensures ∙ ap (λ ds. get_or ds c.due.i c.index-place.result.now) c.due.invariant.due) in
    record {
      due = c.due.invariant.due;
      len = length-set c.due.queue.marks.items _ _ ∙ c.due.invariant.len;
      left = left_less c.args.queue.now.due.items c.due.i c.args.queue.now.count c.due.queue.marks.items c.index-place.result.now c.due.invariant.left at.0 (let w = at.1 in omega (arith, w, c.due.invariant.len));
    }

pub returns-clause-queue : goal.returns-clause-queue
returns-clause-queue c = emptied c.args.queue.now _ c.requires c.due.invariant.due c.due.invariant.len refl (none_left c.args.queue.now.due.items c.due.i c.args.queue.now.count c.due.queue.marks.items c.due-test.false c.due.invariant.left)
