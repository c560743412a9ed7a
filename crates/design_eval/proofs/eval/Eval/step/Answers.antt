use Rattle.design_eval.proofs.Vocabulary.{length, drop, arith, places}
use Rattle.design_eval.proofs.{MarkLemmas.settled-kept, LatchLemmas.take-map, RunLemmas.taken}
use Rattle.design_eval.proofs.eval.Eval.step.Goals as goal

pub invariant_of-self : goal.invariant_of-self
invariant_of-self c =
    let plan = c.self.invariant.0 in
    let v = taken c.self.inside.values.len c.run.new.values (drop (length c.run.new.values) c.self.inside.values.items) (omega (arith, c.run.auto.values, c.deref_mut.ensures.len)) in
    let l = taken c.self.inside.last.len c.run.new.last (drop (length c.run.new.last) c.self.inside.last.items) (omega (arith, c.run.auto.last, c.deref_mut-then-self-gt0.ensures.len)) in
    let s = taken c.self.inside.state.len c.run.new.state (drop (length c.run.new.state) c.self.inside.state.items) (omega (arith, c.run.auto.state, c.deref_mut-then-self-gt0-2.ensures.len)) in
    rw (v, l, s) (
      plan,
      c.run.ensures.ready,
      record {
        size = c.self.invariant.2.size;
        kept = settled-kept c.self.inside.netlist.now.covers (places c.self.inside.plan.turns.items) c.self.inside.marks.items c.run.new.values plan.turns.order c.run.ensures.hold;
      },
      record {
        hints_len = c.self.invariant.3.hints_len;
        last_len = omega (arith, c.run.auto.last, c.run.auto.state, c.deref_mut-then-self-gt0.ensures.len, c.deref_mut-then-self-gt0-2.ensures.len, c.self.invariant.3.last_len);
        given = c.run.ensures.given;
        taken = take-map (length c.self.inside.plan.turns.items) c.self.inside.plan.wiring.reads.items c.run.new.state c.self.inside.marks.items c.run.new.values c.run.ensures.next;
      },
      c.self.invariant.4,
    )

pub invariant_of-self-2 : goal.invariant_of-self-2
invariant_of-self-2 c =
    let m = taken c.self.inside.marks.len c.run_marked-busy.new.marks (drop (length c.run_marked-busy.new.marks) c.self.inside.marks.items) (omega (arith, c.run_marked-busy.auto.marks, c.deref_mut-2.ensures.len)) in
    let h = taken c.self.inside.hints.len c.run_marked-busy.new.hints (drop (length c.run_marked-busy.new.hints) c.self.inside.hints.items) (omega (arith, c.run_marked-busy.auto.hints, c.deref_mut-3.ensures.len)) in
    let v = taken c.self.inside.values.len c.run_marked-busy.new.values (drop (length c.run_marked-busy.new.values) c.self.inside.values.items) (omega (arith, c.run_marked-busy.auto.values, c.deref_mut-4.ensures.len)) in
    let l = taken c.self.inside.last.len c.run_marked-busy.new.last (drop (length c.run_marked-busy.new.last) c.self.inside.last.items) (omega (arith, c.run_marked-busy.auto.last, c.deref_mut-5.ensures.len)) in
    let s = taken c.self.inside.state.len c.run_marked-busy.new.state (drop (length c.run_marked-busy.new.state) c.self.inside.state.items) (omega (arith, c.run_marked-busy.auto.state, c.deref_mut-6.ensures.len)) in
    rw (m, h, v, l, s) (
      c.self.invariant.0,
      c.run_marked-busy.ensures.ready,
      c.run_marked-busy.ensures.marked,
      record {
        hints_len = omega (arith, c.run_marked-busy.auto.hints, c.deref_mut-3.ensures.len, c.self.invariant.3.hints_len);
        last_len = omega (arith, c.run_marked-busy.auto.last, c.run_marked-busy.auto.state, c.deref_mut-5.ensures.len, c.deref_mut-6.ensures.len, c.self.invariant.3.last_len);
        given = c.run_marked-busy.ensures.given;
        taken = take-map (length c.self.inside.plan.turns.items) c.self.inside.plan.wiring.reads.items c.run_marked-busy.new.state c.run_marked-busy.new.marks c.run_marked-busy.new.values c.run_marked-busy.ensures.next;
      },
      c.self.invariant.4,
    )
