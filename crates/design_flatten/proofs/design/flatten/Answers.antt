use Rattle.design_flatten.proofs.Vocabulary.{sym, subst, err_from_is_err_and, IsNetlistOf, IsReading}
use Rattle.design_flatten.proofs.ReadLemmas.{found_is, refused_is, only_is}
use Rattle.design_flatten.proofs.design.flatten.Goals as goal

pub returns-in_err-draft-clause-only : goal.returns-in_err-draft-clause-only
returns-in_err-draft-clause-only c d is checked =
    let p = err_from_is_err_and c.from_residual-in_err-draft.result c.from_residual-in_err-draft.ensures.1 in
    rw (p.1, p.2) (c.in_err-draft.ensures.only d (subst (λ ms. IsNetlistOf ms d) (sym c.deref-2.ensures.value) is) checked)

pub returns-clause-found : goal.returns-clause-found
returns-clause-found c =
    let d = c.in_ok-draft.draft in
    let is = subst (λ ms. IsReading ms d) c.deref-2.ensures.value c.in_ok-draft.ensures.ok in
    found_is c.check.result c.args.models.items d is c.check.ensures.found

pub returns-clause-refused : goal.returns-clause-refused
returns-clause-refused c =
    let d = c.in_ok-draft.draft in
    let is = subst (λ ms. IsReading ms d) c.deref-2.ensures.value c.in_ok-draft.ensures.ok in
    refused_is c.check.result c.args.models.items d is c.check.ensures.refused

pub returns-clause-only : goal.returns-clause-only
returns-clause-only c =
    let d = c.in_ok-draft.draft in
    let is = subst (λ ms. IsReading ms d) c.deref-2.ensures.value c.in_ok-draft.ensures.ok in
    only_is c.check.result c.args.models.items d is c.check.ensures.found c.check.ensures.only
