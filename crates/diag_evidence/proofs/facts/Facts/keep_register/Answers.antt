use Rattle.diag_evidence.proofs.Vocabulary.{◌<◌, length, subst, sym, arith, tables_of, Kept}
use Rattle.diag_evidence.proofs.KeptLemmas.{gains_register}
use Rattle.diag_evidence.proofs.facts.Facts.keep_register.Goals as goal

pub returns : goal.returns
returns c =
    let below : c.args.t.0 < tables_of c.self.inside.shape = subst (λ (k : Kept). c.args.t.0 < tables_of k.shape) (sym c.self.view_is) c.requires in
    let within : c.args.t.0 < length c.self.inside.registers = omega (arith, below, c.self.invariant.0.registers) in
    rw (← c.self.view_is, c.insert.ensures) (gains_register _ c.args.t.0 within)
