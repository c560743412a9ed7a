use Rattle.design_equal.proofs.Vocabulary.{◌≡◌, ℕ, ◌-◌, ◌^◌, List, length, ap, subst, sym, ◌∙◌, refl, inl, inr, arith, cases_eq, IsMetIn}
use Rattle.design_equal.proofs.PinLemmas.{some_lane}
use Rattle.design_equal.proofs.cover.is_met_by.Goals as goal

pub passes-preserved : goal.passes-preserved
passes-preserved c = (
  c.is_met_in.ensures.words,
  c.is_met_in.ensures.signals ∙ c.passes.invariant.1,
  λ g labels is q lq. elim (cases_eq q c.passes.pass) [
    | inl e ↦ subst (IsMetIn g c.args.plan.now.pins.items labels c.args.cover.now) (sym e) (c.if-not-is_met_in.ensures.met refl g labels is)
    | inr ne ↦ c.passes.invariant.2 g labels is q (omega arith)
  ],
)

pub returns-clause-met : goal.returns-clause-met
returns-clause-met c = λ yes g labels is bits valued.
    let (pass, below, lane, at) = some_lane g c.args.plan.now.pins.items bits valued in
    let size : c.pass_count-count.result ≡ 2 ^ (length c.args.plan.now.pins.items - 6) =
    c.pass_count-count.ensures ∙ ap (λ (ps : List ℕ). 2 ^ (length ps - 6)) c.as_slice.ensures.value in
    c.passes.invariant.2 g labels is pass (omega (arith, size, below, c.passes-test.false)) bits lane at
