use Rattle.std.proofs.Common.{◌∙◌, ap, length, sym, refl}
use Rattle.std.proofs.lemmas.List.{length-replicate, length-set}
use Rattle.diag_machine.proofs.Sweeping.{marked_next, marked_none}
use Rattle.diag_machine.proofs.lost.unfit_wires.Goals as goal

pub wires-init : goal.wires-init
wires-init c = record { len = ap length c.in_ok-set.ensures ∙ length-replicate _ _; each = λ w on. absurd (marked_none c.in_ok-set.set _ c.in_ok-set.ensures w on) }

pub wires-preserved : goal.wires-preserved
wires-preserved c = record {
  len = ap length c.insert.ensures ∙ length-set _ _ _ ∙ c.wires.invariant.len;
  each = marked_next _ c.wires.set c.insert.new.self c.wires.w c.wires.invariant.each (sym c.has.ensures ∙ c.if-not-has.false, c.has-in-wires.ensures.unknown c.if-has.false) c.insert.ensures;
}
