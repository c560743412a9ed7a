use Rattle.std.proofs.Common.{◌≡◌, ℕ, refl, sym, ap, ◌∙◌, subst}
use Rattle.place_repair.proofs.Vocabulary.{false≢true, on_ok_weaker, Shape, ends_of, closes_none, closes_one, HasStayingWire, IsKeptCrossOf}
use Rattle.place_repair.proofs.drawing.keep_cross.Goals as goal

pub returns-then-not-stays : goal.returns-then-not-stays
returns-then-not-stays c =
    let g = c.args.old.now.config in
    let tap : c.ends.result.0.0 ≡ (ends_of g.shape c.args.cross.0).0 = ap (λ (e : ℕ × ℕ). e.0) c.ends.ensures.ends ∙ ap (λ (m : Shape). (ends_of m c.args.cross.0).0) c.shape.ensures.shape in
    closes_none (IsKeptCrossOf g c.args.plan.now c.args.cross.0) 1 c.args.config.now.config
    (λ y kept. false≢true (sym c.if-not-stays.true ∙ c.stays.ensures.1 (subst (HasStayingWire g c.args.plan.now) (sym tap) kept.1)))

pub returns : goal.returns
returns c =
    let g = c.args.old.now.config in
    let tap : c.ends.result.0.0 ≡ (ends_of g.shape c.args.cross.0).0 = ap (λ (e : ℕ × ℕ). e.0) c.ends.ensures.ends ∙ ap (λ (m : Shape). (ends_of m c.args.cross.0).0) c.shape.ensures.shape in
    let has : HasStayingWire g c.args.plan.now (ends_of g.shape c.args.cross.0).0 = subst (HasStayingWire g c.args.plan.now) tap (c.stays.ensures.0 c.if-not-stays.false) in
    on_ok_weaker c.close_cross.result
    (λ made. closes_one (IsKeptCrossOf g c.args.plan.now c.args.cross.0) c.args.cross.0 c.args.config.now.config c.close_cross.new.self.config made (refl, has) (λ y kept. sym kept.0))
    c.close_cross.ensures.closed
