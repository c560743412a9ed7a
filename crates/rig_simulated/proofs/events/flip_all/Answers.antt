use Rattle.rig_simulated.proofs.Vocabulary.{◌<◌, ◌∙◌, length, sym, subst, arith, Flip, level_at}
use Rattle.rig_simulated.proofs.Eventing.{alike_on, alike_given, inputs_on, put_next}
use Rattle.rig_simulated.proofs.events.flip_all.Goals as goal

pub flips-preserved : goal.flips-preserved
flips-preserved c =
    let inv = c.flips.invariant in
    let room : c.flips.j < length c.args.events.now.flips.items = omega (arith, c.flips-test.true, c.requires.room) in
    let listed = rw inv.flips at c.index.ensures in
    let within : c.index.result.now.place < length c.flips.gates = (let w = subst (λ (x : Flip). x.place < length c.args.gates.now) (sym listed) (c.requires.within c.flips.j c.index.result.now c.flips-test.true) in omega (arith, w, inv.alike.len)) in
    record {
      len = c.flip_one.ensures.len ∙ inv.len;
      readers = c.flip_one.ensures.readers ∙ inv.readers;
      flips = c.flip_one.ensures.flips ∙ inv.flips;
      listed = c.flip_one.ensures.listed ∙ inv.listed;
      sound = c.flip_one.ensures.sound;
      alike = alike_on c.args.gates.now c.flips.gates c.flip_one.new.gates inv.alike (alike_given c.index.result.now.place c.index.result.now.output c.flips.gates c.flip_one.new.gates within c.flip_one.ensures.gates);
      put = λ f level are.
          put_next f level c.args.gates.now c.args.events.now.flips.items c.args.count c.flips.j c.flips.gates c.flip_one.new.gates c.index.result.now listed c.flips-test.true room inv.alike.len are (inv.put f level are) c.flip_one.ensures.gates;
      inputs = inputs_on c.args.gates.now c.flips.gates c.flips.events.queue.marks.items c.flip_one.new.events.queue.marks.items (level_at c.args.frame.now.knots.now c.args.frame.now.low_pins.now c.args.low_tables.now) (level_at c.args.frame.now.knots.now c.args.frame.now.low_pins.now c.flips.low_tables) (level_at c.args.frame.now.knots.now c.args.frame.now.low_pins.now c.flip_one.new.low_tables) inv.alike c.flip_one.ensures.kept inv.inputs c.flip_one.ensures.inputs;
    }
