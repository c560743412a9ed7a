use Rattle.std.proofs.Common.{◌≡◌, ◌<◌, ℕ, Option, All, true, false, sym, subst, ap, ◌∙◌, arith, get_or}
use Rattle.diag_evidence.proofs.Vocabulary.{option_map_or, wires_of, among, wires_over}
use Rattle.diag_evidence.proofs.KeptLemmas.{gains_row, gains_no_row}
use Rattle.diag_evidence.proofs.facts.Facts.keep_in_row.Goals as goal

pub returns-in_default : goal.returns-in_default
returns-in_default c =
    rw (← c.self.view_is) (gains_no_row _ c.args.left.now.wires (wires_over c.args.rights.now) (ap (λ (o : Option ℕ). option_map_or (λ t. among c.args.left.now.wires t) o false) c.in_default.is))

pub returns-then-not-touches : goal.returns-then-not-touches
returns-then-not-touches c =
    rw (← c.self.view_is) (gains_no_row _ c.args.left.now.wires (wires_over c.args.rights.now)
    (ap (λ (o : Option ℕ). option_map_or (λ t. among c.args.left.now.wires t) o false) c.in-Some.is ∙ sym c.touches.ensures ∙ c.if-not-touches.true))

pub returns : goal.returns
returns c =
    rw (← c.self.view_is) (gains_row _ c.args.left.now.wires (wires_over c.args.rights.now) _ c.in-Some.wire c.in-Some.is (sym c.touches.ensures ∙ c.if-not-touches.false) c.mark_routes.ensures.marked)
