use Rattle.machine_image.proofs.Vocabulary.{◌≡◌, ◌+◌, ◌-◌, refl, subst, sym, ap, ◌∙◌, arith, crosses_of, with_closed}
use Rattle.machine_image.specs.Vocabulary.{above_fault, IsField, IsRefusedField, AreCrosses}
use Rattle.machine_image.proofs.Steps.{crosses_start, cross_refused, cross_step, crosses_done}
use Rattle.machine_image.proofs.read.read_crosses.Goals as goal

pub crosses-init : goal.crosses-init
crosses-init c =
    let g = c.args.config.now.config in
    (crosses_start g.shape c.args.bytes.now c.args.at.now c.args.count (c.args.count - 0) g (omega arith) c.requires.within c.requires.open_all c.requires.none, refl, c.shape-shape.ensures.shape)

pub returns-in-Err-clause-refused : goal.returns-in-Err-clause-refused
returns-in-Err-clause-refused c =
    let m = c.args.config.now.config.shape in
    cross_refused m c.args.bytes.now c.args.at.now c.args.count c.crosses.at (c.args.count - c.crosses.counter) (c.args.count - (c.crosses.counter + 1)) c.crosses.least c.crosses.config.config c.crosses.invariant.0 (omega (arith, c.crosses-test.true))
    c.in-Err.fault (subst (λ z. IsRefusedField 4 (above_fault z c.crosses.least) c.args.bytes.now c.crosses.at c.in-Err.fault) (c.crosses-in-crosses.ensures.crosses ∙ ap crosses_of c.shape-shape.ensures.shape) c.in-Err.ensures.refused)

pub crosses-preserved : goal.crosses-preserved
crosses-preserved c =
    let m = c.args.config.now.config.shape in
    let g = c.crosses.config.config in
    let x = c.in-Ok.x in
    let new : c.close_cross.new.self.config ≡ with_closed g x = c.in_default.ensures.closed in
    let shape : g.shape ≡ m = ap (λ r. r.shape) c.crosses.invariant.1 in
    let field : IsField 4 (above_fault (crosses_of m) c.crosses.least) c.args.bytes.now c.crosses.at x =
    subst (λ z. IsField 4 (above_fault z c.crosses.least) c.args.bytes.now c.crosses.at x) (c.crosses-in-crosses.ensures.crosses ∙ ap crosses_of c.shape-shape.ensures.shape) c.in-Ok.ensures.found in
    let more = cross_step m c.args.bytes.now c.args.at.now c.args.count c.crosses.at (c.args.count - c.crosses.counter) (c.args.count - (c.crosses.counter + 1)) c.crosses.least g c.crosses.invariant.0 (omega (arith, c.crosses-test.true))
    (c.crosses.at + 4) (x + 1) x refl (omega arith) field shape in (
      subst (λ z. AreCrosses m c.args.bytes.now c.args.at.now (c.crosses.at + 4) c.args.count (c.args.count - (c.crosses.counter + 1)) (x + 1) z) (sym new) more,
      new ∙ ap (λ z. with_closed z x) c.crosses.invariant.1 ∙ ap (λ z. record c.args.config.now.config { closed = z.closed }) (sym new),
      c.shape-shape.ensures.shape,
    )

pub returns-clause-found : goal.returns-clause-found
returns-clause-found c =
    crosses_done c.args.config.now.config.shape c.args.bytes.now c.args.at.now c.args.count c.crosses.at (c.args.count - c.crosses.counter) c.crosses.least c.crosses.config.config c.crosses.invariant.0 (omega (arith, c.crosses-test.false))
