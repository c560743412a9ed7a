use Rattle.example_parts.proofs.Vocabulary.{◌≡◌, ◌<◌, ◌∙◌, true, length, sym, arith, keeps_cross, among_at}
use Rattle.example_parts.proofs.Keeping.{kept_next}
use Rattle.example_parts.proofs.crossbars.answers.keeps_route.Goals as goal

pub keeps_cross-requires : goal.keeps_cross-requires
keeps_cross-requires c =
    let below : c.steps.k < length c.args.route.now.crosses = omega arith in
    c.requires.crosses _ (among_at c.args.route.now.crosses c.steps.k _ below c.cross_at.ensures)

pub steps-preserved : goal.steps-preserved
steps-preserved c =
    let below : c.steps.k < length c.args.route.now.crosses = omega arith in
    let kept : keeps_cross c.args.facts.now c.cross_at.result.0 ≡ true = sym c.keeps_cross.ensures ∙ c.if-not-keeps_cross.false in
    kept_next c.args.facts.now c.args.route.now.crosses c.steps.k _ below c.cross_at.ensures c.steps.invariant kept
