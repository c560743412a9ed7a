use Rattle.std.proofs.Common.{◌≡◌, ◌<◌, ◌∙◌, None, Option, ℕ, List, true, is_some, subst, sym, ap, set, get_or, arith}
use Rattle.diag_evidence.proofs.Vocabulary.{get_or_default, Cross, wires_of, crosses_of, Trees, IsForest, CanLay, pin_of, with_laid}
use Rattle.diag_evidence.proofs.{Growing.laid_forest, Growing.laid_kept, Hung.marks_more}
use Rattle.diag_evidence.proofs.forest.Forest.lay.Goals as goal

pub invariant_of-self-2 : goal.invariant_of-self-2
invariant_of-self-2 c =
    let old : Trees = record { shape = c.self.inside.shape; pins = c.self.inside.pins.items; crosses = c.self.inside.crosses.items } in
    let can : CanLay c.args.facts.now old c.args.cross.0 c.args.from.0 c.args.to.0 = subst (λ (t : Trees). CanLay c.args.facts.now t c.args.cross.0 c.args.from.0 c.args.to.0) (sym c.self.view_is) (c.can_lay.ensures.yes c.if-not-can_lay.false) in
    let same : c.index.result.now ≡ pin_of old c.args.from.0 = c.index.ensures ∙ get_or_default c.self.inside.pins.items c.args.from.0 _ None (let w = subst (λ (t : Trees). c.args.from.0 < wires_of t.shape) (sym c.self.view_is) c.requires.from in let e = c.self.invariant.0.wires in omega (arith, w, e)) in
    let to_within : c.args.to.0 < wires_of old.shape = subst (λ (t : Trees). c.args.to.0 < wires_of t.shape) (sym c.self.view_is) c.requires.to in
    let hangs : is_some (pin_of old c.args.from.0) ≡ true = can.hangs in (
      subst (λ (o : Option ℕ). IsForest (record { shape = c.self.inside.shape; pins = set c.self.inside.pins.items c.args.to.0 o; crosses = c.push.new.self.items })) (sym same)
          (subst (λ (xs : List Cross). IsForest (record { shape = c.self.inside.shape; pins = set c.self.inside.pins.items c.args.to.0 (pin_of old c.args.from.0); crosses = xs })) (sym c.in_ok-push.ensures.items)
          (laid_forest c.args.facts.now old c.args.cross c.args.from.0 c.args.to.0 c.self.invariant.0 to_within
          (subst (λ (t : Trees). c.args.cross.0 < crosses_of t.shape) (sym c.self.view_is) c.requires.cross) can)),
      c.self.invariant.1,
      rw c.insert.ensures (marks_more c.self.inside.shape c.self.inside.pins.items c.self.inside.crosses.items c.push.new.self.items c.self.inside.hung c.args.to.0 c.index.result.now c.self.invariant.0.wires to_within (ap is_some same ∙ hangs) c.self.invariant.2),
    )
