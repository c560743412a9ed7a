use Rattle.std.proofs.Common.{◌≡◌, ◌∙◌, ◌<◌, ◌≤◌, ◌*◌, ℕ, Bool, List, Some, map, length, sym, ap, subst, arith}
use Rattle.run_image.proofs.Vocabulary.{All-right, Pins, AreRows, width_of, HaveRows, Rows}
use Rattle.run_image.proofs.Together.{have-still, pairs-left, pins-within, ran-rows, rows-of-rig, whole-again}
use Rattle.run_image.proofs.run.Run.rows.Goals.{in-Ok, in-Err}
use Rattle.run_image.proofs.run.Run.rows.Goals as goal

pub put_vectors-requires-clause-rows : goal.put_vectors-requires-clause-rows
put_vectors-requires-clause-rows g c = rw (c.deref_mut.ensures.value, c.release_all.ensures.len) c.self.invariant.2

pub cycle_first-requires-clause-few : goal.cycle_first-requires-clause-few
cycle_first-requires-clause-few g c =
    let many : length c.put_vectors.new.drives ≡ length c.self.inside.drives.items = c.put_vectors.auto.drives ∙ ap length c.deref_mut.ensures.value in
    let drives : c.deref-2.result.now ≡ c.put_vectors.new.drives = c.deref-2.ensures.value ∙ whole-again c.self.inside.drives.len c.put_vectors.new.drives c.self.inside.drives.items many c.self.inside.drives.ok.0 in
    let all : length c.deref-2.result.now ≡ length c.put_vectors.new.drives = ap length drives in
    let size = c.put_vectors.ensures.rows.count in
    let few = c.requires.few in
    omega (arith, all, size, few)

pub cycle_first-requires-clause-room : goal.cycle_first-requires-clause-room
cycle_first-requires-clause-room g c =
    let all : length c.deref_mut-2.result.now ≡ length c.self.inside.reads.items = ap length c.deref_mut-2.ensures.value in
    let size = c.self.invariant.3.count in
    let few = c.requires.few in
    omega (arith, all, size, few)

pub cycle_first-requires-clause-drives : goal.cycle_first-requires-clause-drives
cycle_first-requires-clause-drives g c =
    let rig = (goal.Rig-dyn g (c.args.rig.now.vtable, c.args.rig.now.value)).rig_state c.args.rig.now.value in
    let many : length c.put_vectors.new.drives ≡ length c.self.inside.drives.items = c.put_vectors.auto.drives ∙ ap length c.deref_mut.ensures.value in
    let drives : c.deref-2.result.now ≡ c.put_vectors.new.drives = c.deref-2.ensures.value ∙ whole-again c.self.inside.drives.len c.put_vectors.new.drives c.self.inside.drives.items many c.self.inside.drives.ok.0 in
    let width : width_of rig ≡ Some (length c.release_all.new.self) = c.requires.pins ∙ (ap (λ (r : Rows). Some r.pins) (sym c.self.view_is) ∙ ap (λ (n : ℕ). Some n) (sym c.release_all.ensures.len)) in
    subst (λ (rows : List Pins). AreRows rig rows) (sym drives) (rows-of-rig (width_of rig) (length c.release_all.new.self) c.put_vectors.new.drives width c.put_vectors.ensures.rows.wide)

pub cycle_first-requires-clause-reads : goal.cycle_first-requires-clause-reads
cycle_first-requires-clause-reads g c =
    let rig = (goal.Rig-dyn g (c.args.rig.now.vtable, c.args.rig.now.value)).rig_state c.args.rig.now.value in
    let width : width_of rig ≡ Some (length c.self.inside.drive) = c.requires.pins ∙ ap (λ (r : Rows). Some r.pins) (sym c.self.view_is) in
    subst (λ (rows : List Pins). AreRows rig rows) (sym c.deref_mut-2.ensures.value) (rows-of-rig (width_of rig) (length c.self.inside.drive) c.self.inside.reads.items width c.self.invariant.3.wide)

pub read_rows-requires-clause-few : goal.read_rows-requires-clause-few
read_rows-requires-clause-few g c =
    let many : length c.cycle_first.new.reads ≡ length c.self.inside.reads.items = c.cycle_first.auto.reads ∙ ap length c.deref_mut-2.ensures.value in
    let reads : c.deref-in-Ok.result.now ≡ c.cycle_first.new.reads = c.deref-in-Ok.ensures.value ∙ whole-again c.self.inside.reads.len c.cycle_first.new.reads c.self.inside.reads.items many c.self.inside.reads.ok.0 in
    let all : length c.deref-in-Ok.result.now ≡ length c.cycle_first.new.reads = ap length reads in
    let size = c.self.invariant.3.count in
    let few = c.requires.few in
    omega (arith, all, many, size, few)

pub put_vectors-requires-clause-many : goal.put_vectors-requires-clause-many
put_vectors-requires-clause-many g c =
    let pins : length c.deref.result.now ≡ length c.args.self.now.inputs = ap length c.deref.ensures.value ∙ ap (λ (r : Rows). length r.inputs) c.self.view_is in
    subst (λ (n : ℕ). c.args.count * n ≤ length c.args.vectors.now) (sym pins) c.requires.vectors

pub read_rows-requires-clause-room : goal.read_rows-requires-clause-room
read_rows-requires-clause-room g c =
    let pins : length c.deref-in-Ok-2.result.now ≡ length c.args.self.now.outputs = ap length c.deref-in-Ok-2.ensures.value ∙ ap (λ (r : Rows). length r.outputs) c.self.view_is in
    subst (λ (n : ℕ). c.args.count * n ≤ length c.args.outs.now) (sym pins) c.requires.outs

pub read_rows-requires-clause-below : goal.read_rows-requires-clause-below
read_rows-requires-clause-below g c =
    let many : length c.cycle_first.new.reads ≡ length c.self.inside.reads.items = c.cycle_first.auto.reads ∙ ap length c.deref_mut-2.ensures.value in
    let reads : c.deref-in-Ok.result.now ≡ c.cycle_first.new.reads = c.deref-in-Ok.ensures.value ∙ whole-again c.self.inside.reads.len c.cycle_first.new.reads c.self.inside.reads.items many c.self.inside.reads.ok.0 in
    let have : HaveRows (length c.self.inside.drive) c.cycle_first.new.reads = have-still (length c.self.inside.drive) c.self.inside.reads.items c.cycle_first.new.reads c.self.invariant.3 (c.cycle_first.ensures.lengths ∙ ap (map length) c.deref_mut-2.ensures.value) in
    let below = All-right (λ k. k < length c.self.inside.drive) c.self.inside.inputs.items c.self.inside.outputs.items c.self.invariant.0.within in
    rw (reads, c.deref-in-Ok-2.ensures.value) (pins-within (length c.self.inside.drive) c.self.inside.outputs.items c.cycle_first.new.reads have.wide below)

pub invariant_of-self : goal.invariant_of-self
invariant_of-self g c =
    let many : length c.put_vectors.new.drives ≡ length c.self.inside.drives.items = c.put_vectors.auto.drives ∙ ap length c.deref_mut.ensures.value in
    let drives = whole-again c.self.inside.drives.len c.put_vectors.new.drives c.self.inside.drives.items many c.self.inside.drives.ok.0 in
    let more : length c.cycle_first.new.reads ≡ length c.self.inside.reads.items = c.cycle_first.auto.reads ∙ ap length c.deref_mut-2.ensures.value in
    let reads = whole-again c.self.inside.reads.len c.cycle_first.new.reads c.self.inside.reads.items more c.self.inside.reads.ok.0 in
    let have : HaveRows (length c.self.inside.drive) c.cycle_first.new.reads = have-still (length c.self.inside.drive) c.self.inside.reads.items c.cycle_first.new.reads c.self.invariant.3 (c.cycle_first.ensures.lengths ∙ ap (map length) c.deref_mut-2.ensures.value) in
    let put = rw c.release_all.ensures.len at c.put_vectors.ensures.rows in
    rw c.release_all.ensures.len (c.self.invariant.0, c.self.invariant.1, subst (λ (rows : List Pins). HaveRows (length c.self.inside.drive) rows) (sym drives) put, subst (λ (rows : List Pins). HaveRows (length c.self.inside.drive) rows) (sym reads) have)

pub returns-clause-rows : goal.returns-clause-rows
returns-clause-rows g c =
    let many : length c.put_vectors.new.drives ≡ length c.self.inside.drives.items = c.put_vectors.auto.drives ∙ ap length c.deref_mut.ensures.value in
    let drives : c.deref-2.result.now ≡ c.put_vectors.new.drives = c.deref-2.ensures.value ∙ whole-again c.self.inside.drives.len c.put_vectors.new.drives c.self.inside.drives.items many c.self.inside.drives.ok.0 in
    let more : length c.cycle_first.new.reads ≡ length c.self.inside.reads.items = c.cycle_first.auto.reads ∙ ap length c.deref_mut-2.ensures.value in
    let reads = whole-again c.self.inside.reads.len c.cycle_first.new.reads c.self.inside.reads.items more c.self.inside.reads.ok.0 in
    let size = c.self.invariant.3.count in
    let few = c.requires.few in
    let room : c.args.count ≤ length c.cycle_first.new.reads = omega (arith, more, size, few) in
    let put = rw c.deref.ensures.value at c.put_vectors.ensures.driven in
    let run = ran-rows (record { pins = length c.self.inside.drive; inputs = c.self.inside.inputs.items; outputs = c.self.inside.outputs.items }) in
    let wide-outs : (outs : List Bool) → length outs ≡ length c.args.outs.now → c.args.count * length c.self.inside.outputs.items ≤ length outs = λ outs same.
    subst (λ (n : ℕ). c.args.count * length c.self.inside.outputs.items ≤ n) (sym same) (subst (λ (r : Rows). c.args.count * length r.outputs ≤ length c.args.outs.now) (sym c.self.view_is) c.requires.outs) in
    let apart = pairs-left c.self.inside.inputs.items c.self.inside.outputs.items c.self.invariant.0.apart in
    elim c.match-cycle_first.branch [
      | in-Ok w ↦ rw (w.result-is, w.outs-is, ← c.self.view_is) (run _ _ c.args.count c.args.vectors.now w.read_rows.new.outs c.release_all.new.self c.put_vectors.new.drives c.cycle_first.new.reads apart c.release_all.ensures.ones room put
          (rw drives at w.in-Ok.ensures.cycles) (wide-outs w.read_rows.new.outs w.read_rows.ensures.length) (rw (w.deref-in-Ok-2.ensures.value, w.deref-in-Ok.ensures.value, reads) at w.read_rows.ensures.rows))
      | in-Err w ↦ rw w.result-is tt
    ]
