use Rattle.place_plan.proofs.Vocabulary.{◌≡◌, ◌+◌, ℕ, map, sym, ap, ◌∙◌, tables_of, table_wire, number_of, nth_of, give_by, terminal_for}
use Rattle.place_plan.proofs.Pushes.{map_next, place_at, place_below}
use Rattle.place_plan.proofs.terminals.push_gives.Goals as goal

pub pin_of-requires-clause-table : goal.pin_of-requires-clause-table
pin_of-requires-clause-table c = place_below c.args.places.now c.loop-j.j (tables_of c.args.shape.now) c.loop-j-test.true c.requires.within

pub loop-j-preserved : goal.loop-j-preserved
loop-j-preserved c =
    let m = c.args.shape.now in
    let j : ℕ = c.loop-j.j in
    let w : c.pin_of.result.0 ≡ table_wire m (nth_of (map number_of c.args.places.now) j) 6 = c.pin_of.ensures.wire ∙ ap (λ (t : ℕ). table_wire m t 6) (sym (place_at c.args.places.now j c.loop-j-test.true)) in
    map_next (give_by m c.args.inputs (map number_of c.args.places.now)) c.args.terminals.now.items c.loop-j.terminals.items c.push.new.self.items j (terminal_for (c.args.inputs + j) c.pin_of.result.0) c.loop-j.invariant c.in_ok-push.ensures.items (λ i. terminal_for (c.args.inputs + j) (w i))
