use Rattle.design_flatten.proofs.Vocabulary.{◌∙◌, formals_in}
use Rattle.design_flatten.proofs.FormalLemmas.{fault_wrong, fault_missing}
use Rattle.design_flatten.proofs.formals.formal_fault.Goals as goal

pub returns-in-Some : goal.returns-in-Some
returns-in-Some c =
    let known = c.args.known.now in
    fault_wrong known.model.now known.ports (formals_in c.args.pairs.now) c.in-Some.formal.now c.requires (rw c.in-Some.is at c.in_ok-formal.ensures.wrong)

pub returns : goal.returns
returns c =
    let known = c.args.known.now in
    c.first_missing.ensures
    ∙ fault_missing known.model.now known.ports c.first_wrong.new.given (formals_in c.args.pairs.now) c.requires (rw c.in-None.is at c.in_ok-formal.ensures.wrong) (c.in_ok-formal.ensures.given c.in-None.is)
