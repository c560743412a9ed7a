use Rattle.rig_simulated.proofs.Vocabulary.{ℕ, sym, subst, not-false, same_bits, AreGiven}
use Rattle.rig_simulated.proofs.Periods.{given_none, given_more, given_all}
use Rattle.rig_simulated.proofs.past.other_from.Goals as goal

pub gates-init : goal.gates-init
gates-init c = λ e. subst (λ (n : ℕ). AreGiven n c.args.gates.now c.args.outputs.now) (sym e) (given_none c.args.gates.now c.args.outputs.now c.requires)

pub gates-preserved : goal.gates-preserved
gates-preserved c = λ e. given_more c.gates.k c.args.gates.now c.args.outputs.now _ _ (c.gates.invariant e) c.gates-test.true (same_bits _ _ (not-false _ c.if-outputs-k.false))

pub returns : goal.returns
returns c = λ e _. given_all c.gates.k c.args.gates.now c.args.outputs.now (c.gates.invariant e) c.gates-test.false
