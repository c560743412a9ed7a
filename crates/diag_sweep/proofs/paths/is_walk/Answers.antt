use Rattle.diag_sweep.proofs.Vocabulary.{◌≡◌, ◌<◌, ◌+◌, ℕ, length, refl, arith, nat_tests, crosses_along, wires_along}
use Rattle.diag_sweep.proofs.Coursing.{walk_first, walk_more, walk_whole}
use Rattle.diag_sweep.proofs.paths.is_walk.Goals as goal

pub wire_at-from-requires : goal.wire_at-from-requires
wire_at-from-requires c =
    let many : length (wires_along c.args.lead.now) ≡ length (crosses_along c.args.lead.now) + 1 = grind (arith, nat_tests, c.if-wires-crosses.false, c.count_wires-wires.ensures, c.len-crosses.ensures) in
    let all = c.len-crosses.ensures in
    omega (arith, many, all)

pub wire_at-to-requires : goal.wire_at-to-requires
wire_at-to-requires c =
    let many : length (wires_along c.args.lead.now) ≡ length (crosses_along c.args.lead.now) + 1 = grind (arith, nat_tests, c.if-wires-crosses.false, c.count_wires-wires.ensures, c.len-crosses.ensures) in
    let all = c.len-crosses.ensures in
    omega (arith, many, all)

pub steps-init : goal.steps-init
steps-init c =
    let many : length (wires_along c.args.lead.now) ≡ length (crosses_along c.args.lead.now) + 1 = grind (arith, nat_tests, c.if-wires-crosses.false, c.count_wires-wires.ensures, c.len-crosses.ensures) in
    record { leads = walk_first (wires_along c.args.lead.now) (crosses_along c.args.lead.now) (omega (arith, many)); within = omega arith }

pub steps-preserved : goal.steps-preserved
steps-preserved c =
    let many : length (wires_along c.args.lead.now) ≡ length (crosses_along c.args.lead.now) + 1 = grind (arith, nat_tests, c.if-wires-crosses.false, c.count_wires-wires.ensures, c.len-crosses.ensures) in
    let all = c.len-crosses.ensures in
    let below : c.steps.k < length (crosses_along c.args.lead.now) = omega (arith, all) in
    record {
      leads = walk_more (wires_along c.args.lead.now) (crosses_along c.args.lead.now) c.steps.k c.cross_at.result.0 c.wire_at-from.result.0 c.wire_at-to.result.0 below (omega (arith, below, many)) c.cross_at.ensures c.wire_at-from.ensures c.wire_at-to.ensures
          (c.if-not-leads_to.ensures.cross refl) (c.if-not-leads_to.ensures.ends refl) c.steps.invariant.leads;
      within = omega (arith, below);
    }

pub returns-clause-wires : goal.returns-clause-wires
returns-clause-wires c = λ _. grind (arith, nat_tests, c.if-wires-crosses.false, c.count_wires-wires.ensures, c.len-crosses.ensures)

pub returns-clause-leads : goal.returns-clause-leads
returns-clause-leads c =
    let many : length (wires_along c.args.lead.now) ≡ length (crosses_along c.args.lead.now) + 1 = grind (arith, nat_tests, c.if-wires-crosses.false, c.count_wires-wires.ensures, c.len-crosses.ensures) in
    let all = c.len-crosses.ensures in
    let within = c.steps.invariant.within in
    λ _. walk_whole (wires_along c.args.lead.now) (crosses_along c.args.lead.now) c.steps.k (omega (arith, all, within)) many c.steps.invariant.leads
