use Rattle.diag_evidence.proofs.Vocabulary.{◌≡◌, true, sym, subst, ◌∙◌, arith, is_right_before}
use Rattle.diag_evidence.proofs.Righting.{right_none, right_more, wrong_before}
use Rattle.diag_evidence.proofs.table_rows.is_right.Goals as goal

pub returns-then-not-is_right_in : goal.returns-then-not-is_right_in
returns-then-not-is_right_in c = sym (wrong_before c.args.sheet.now.setting c.args.sheet.now.reads.items c.args.sheet.now.opposite.items c.args.pin c.cycles.cycle 65 (omega arith) (sym c.is_right_in.ensures ∙ c.if-not-is_right_in.true))

pub cycles-init : goal.cycles-init
cycles-init c = right_none c.args.sheet.now.setting c.args.sheet.now.reads.items c.args.sheet.now.opposite.items c.args.pin

pub cycles-preserved : goal.cycles-preserved
cycles-preserved c = right_more c.args.sheet.now.setting c.args.sheet.now.reads.items c.args.sheet.now.opposite.items c.args.pin c.cycles.cycle c.cycles.invariant (sym c.is_right_in.ensures ∙ c.if-not-is_right_in.false)

pub returns : goal.returns
returns c = sym (subst (λ n. is_right_before c.args.sheet.now.setting c.args.sheet.now.reads.items c.args.sheet.now.opposite.items c.args.pin n ≡ true) (let e : c.cycles.cycle ≡ 65 = omega arith in e) c.cycles.invariant)
