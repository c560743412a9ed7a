use Rattle.diag_check.proofs.Vocabulary.{◌≡◌, true, sym, ◌∙◌, Cross, is_closed, keeps_cross, of_set, to_set}
use Rattle.diag_check.proofs.{Looking.wire_kept, Using.closed_counts, Using.closed_within}
use Rattle.diag_check.proofs.look.keeps_routes.Goals as goal

pub returns-then-not-has_wires-clause-all : goal.returns-then-not-has_wires-clause-all
returns-then-not-has_wires-clause-all c = λ are. sym c.if-not-has_wires.true ∙ c.has_wires.ensures.all (λ w h. let known = are.wires w (c.requires.used.only w h) in (wire_kept _ _ c.requires.known w known, known))

pub keeps_crosses-requires : goal.keeps_crosses-requires
keeps_crosses-requires c = closed_within c.args.image.now c.config-config.result.now.config c.config-config.ensures.config c.closed.result.now c.closed.ensures c.config-config.ensures.right c.args.facts.now.shape (sym c.requires.shape)

pub returns-clause-keeps : goal.returns-clause-keeps
returns-clause-keeps c =
    let counts = closed_counts c.args.image.now c.config-config.result.now.config c.config-config.ensures.config c.closed.result.now c.closed.ensures in
    let has = c.if-not-has_wires.false in
    let all = c.requires.used.all in
    λ e. record {
      crosses = to_set (λ (y : Cross). y.0) c.closed.result.now (is_closed c.args.image.now.config) counts (λ q. keeps_cross c.args.facts.now q ≡ true) (c.keeps_crosses.ensures.0 e);
      wires = λ w uses. c.has_wires.ensures.wires has w (all w uses);
      apart = λ w uses. c.has_wires.ensures.apart has w (all w uses);
    }

pub returns-clause-all : goal.returns-clause-all
returns-clause-all c =
    let counts = closed_counts c.args.image.now c.config-config.result.now.config c.config-config.ensures.config c.closed.result.now c.closed.ensures in
    λ are. c.keeps_crosses.ensures.1 (of_set (λ (y : Cross). y.0) c.closed.result.now (is_closed c.args.image.now.config) counts (λ q. keeps_cross c.args.facts.now q ≡ true) are.crosses)
