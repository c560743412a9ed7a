use Rattle.machine_bench.proofs.Vocabulary.{refl, sym, ◌∙◌, subst, false≢true, not_allowed, IsAllowed}
use Rattle.machine_bench.proofs.faults.take_turn.Goals as goal

pub returns-then-not-is_allowed-clause-taken : goal.returns-then-not-is_allowed-clause-taken
returns-then-not-is_allowed-clause-taken c = not_allowed (λ a. false≢true (sym c.if-not-is_allowed.true ∙ c.is_allowed.ensures.1 (subst (IsAllowed c.args.shape.now) (sym c.draw_fault-fault.ensures.fault) a))) refl
