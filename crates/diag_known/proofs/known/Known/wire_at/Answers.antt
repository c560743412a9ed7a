use Rattle.std.proofs.Common.{◌≡◌, ◌<◌, Some, length, refl, sym, subst, arith, slice_get}
use Rattle.diag_known.proofs.Vocabulary.{slice_get_read, wires_of, KnownWires, HasWire}
use Rattle.diag_known.proofs.Ranking.{has_rank}
use Rattle.diag_known.proofs.known.Known.wire_at.Goals as goal

pub returns-clause-within : goal.returns-clause-within
returns-clause-within c =
    let step = c.index.result.now in
    let place : c.args.place < length c.self.inside.steps.items = (let h = subst (λ (k : KnownWires). c.args.place < length k.steps) (sym c.self.view_is) c.requires in h) in
    let here : slice_get c.self.inside.steps.items c.args.place ≡ Some step = slice_get_read c.self.inside.steps.items (length c.self.inside.steps.items) c.args.place step refl place c.index.ensures in
    let has : HasWire c.self.inside.steps.items step.wire.0 = record { place = c.args.place; at = record { step = step; here = here; wire = refl } } in
    let h = has_rank c.self.inside c.self.invariant step.wire.0 has in
    let below : step.wire.0 < wires_of c.self.inside.shape = omega (arith, h, c.self.invariant.wide) in
    subst (λ (k : KnownWires). step.wire.0 < wires_of k.shape) c.self.view_is below
