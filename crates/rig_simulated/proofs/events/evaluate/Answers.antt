use Rattle.std.proofs.Common.{◌≡◌, ◌<◌, ◌∙◌, length, get_or, refl, sym, ap, subst, arith}
use Rattle.rig_simulated.proofs.Vocabulary.{get_or_default, length-set, Gate, level_at, ticked, IsStill, same_bits}
use Rattle.rig_simulated.proofs.Pulling.{plain}
use Rattle.rig_simulated.proofs.{Queueing.count_within, Eventing.due_still, Eventing.due_flips, Eventing.flips_more, Eventing.still_if}
use Rattle.rig_simulated.proofs.events.evaluate.Goals as goal

pub due-preserved-then-gate-gates : goal.due-preserved-then-gate-gates
due-preserved-then-gate-gates c =
    let f = c.args.frame.now.faults.now.faults in
    let level = level_at c.args.frame.now.knots.now c.args.frame.now.low_pins.now c.args.low_tables.now in
    let gates = c.args.gates.now in
    let place = c.place_at-place.result in
    let x : Gate = get_or gates place plain in
    let within : place < length gates = (let w = c.place_at-place.ensures.within in omega (arith, w, c.requires.marks)) in
    let same : (ticked f level x).output ≡ x.output = sym (ap (λ (y : Gate). y.output) c.ticked-gate.ensures) ∙ same_bits _ _ c.if-gate-gates.true in
    record {
      len = c.due.invariant.len;
      few = (let h = c.due.invariant.few in omega (arith, h));
      flips = c.due.invariant.flips;
      due = due_still f level gates c.args.queue.now.due.items c.due.i c.due.count c.due.flips.items c.due.invariant.due place c.place_at-place.ensures.place
          (λ d. subst (λ (y : Gate). IsStill f level y) (get_or_default gates place plain d within) (still_if f level x same));
    }

pub due-preserved : goal.due-preserved
due-preserved c =
    let f = c.args.frame.now.faults.now.faults in
    let level = level_at c.args.frame.now.knots.now c.args.frame.now.low_pins.now c.args.low_tables.now in
    let gates = c.args.gates.now in
    let place = c.place_at-place.result in
    let within : place < length gates = (let w = c.place_at-place.ensures.within in omega (arith, w, c.requires.marks)) in
    let room : c.due.count < length c.due.flips.items = (let l = count_within c.args.queue.now c.requires.queue in omega (arith, l, c.due-test.true, c.due.invariant.few, c.due.invariant.len, c.requires.room, c.requires.marks, c.requires.queue.room)) in
    record {
      len = length-set c.due.flips.items c.due.count _ ∙ c.due.invariant.len;
      few = (let h = c.due.invariant.few in omega (arith, h));
      flips = flips_more f level gates c.due.flips.items c.due.count _ c.due.invariant.flips room within
          (λ e. ap (λ (y : Gate). y.output) (c.ticked-gate.ensures ∙ ap (ticked f level) (get_or_default gates place plain e within)));
      due = due_flips f level gates c.args.queue.now.due.items c.due.i c.due.count c.due.flips.items c.due.invariant.due place c.place_at-place.ensures.place _ refl room;
    }
