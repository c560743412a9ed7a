use Rattle.diag_known.proofs.Vocabulary.{◌<◌, length, refl, sym, subst, arith, wires_of, KnownWires, HasWire}
use Rattle.diag_known.proofs.Ranking.{ranks_same, ranks_then}
use Rattle.diag_known.proofs.known.Known.learn.Goals as goal

pub invariant_of-self : goal.invariant_of-self
invariant_of-self c = ranks_same c.self.inside _ c.self.invariant refl refl c.in_err-push.ensures.items refl

pub invariant_of-self-2 : goal.invariant_of-self-2
invariant_of-self-2 c =
    let within : c.args.step.wire.0 < length c.self.inside.ranks.items =
    let h = subst (λ (k : KnownWires). c.args.step.wire.0 < wires_of k.shape) (sym c.self.view_is) c.requires.wire in omega (arith, h, c.self.invariant.wide) in
    ranks_then c.self.inside _ c.self.invariant c.args.step within
    (subst (λ (k : KnownWires). ¬ HasWire k.steps c.args.step.wire.0) (sym c.self.view_is) c.requires.new) refl c.in_ok-push.ensures.items c.len-place.result (omega (arith, c.len-place.ensures)) refl c.insert.ensures

pub insert-requires : goal.insert-requires
insert-requires c =
    let h = subst (λ (k : KnownWires). c.args.step.wire.0 < wires_of k.shape) (sym c.self.view_is) c.requires.wire in omega (arith, h, c.self.invariant.marks)
