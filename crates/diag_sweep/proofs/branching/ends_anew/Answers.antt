use Rattle.diag_sweep.proofs.Vocabulary.{◌∙◌, sym, arith, nat_tests}
use Rattle.diag_sweep.proofs.Coursing.{has_both, stays_both, still_within}
use Rattle.diag_sweep.proofs.branching.ends_anew.Goals as goal

pub returns-clause-own : goal.returns-clause-own
returns-clause-own c = λ _ e. (let n = c.if-lead.false in let b : ⊥ = grind (arith, nat_tests, n, e) in b)

pub returns-clause-anew : goal.returns-clause-anew
returns-clause-anew c = λ _. sym c.has.ensures ∙ c.if-has.false

pub returns-clause-stays : goal.returns-clause-stays
returns-clause-stays c = λ _. stays_both c.args.met.now _ _ c.args.lead.now.from c.args.lead.now.to c.insert.ensures c.insert-2.ensures (omega arith) (omega arith)

pub returns-clause-both : goal.returns-clause-both
returns-clause-both c = λ _. has_both c.args.met.now _ _ c.args.lead.now.from c.args.lead.now.to c.insert.ensures c.insert-2.ensures (omega arith) (omega arith)

pub insert-requires-2 : goal.insert-requires-2
insert-requires-2 c = still_within c.args.met.now _ c.args.lead.now.from c.args.lead.now.to c.insert.ensures (omega arith)
